-- The entries of a composite whose tuples are listed.
use Rattle.std.specs.Prelude.{◌≡◌, ◌≤◌, ◌+◌, ◌*◌, ◌^◌, ℕ, List, Result, All, IfOk, IsErrOf, OnOk}
use Rattle.std.specs.Prelude.{length, map, take}
use Rattle.std.specs.List.{AllZip, sum_by}
use Rattle.std.specs.Map.{keys_of}
use Rattle.agg_values.specs.Names.{Named}
use Rattle.agg_values.specs.Tuple.{KeyTuple}
use Rattle.agg_values.specs.declared.after_key.AfterKey.{AfterKey}
use Rattle.agg_segment.specs.Segment.{Stored, documents_at}
use Rattle.agg_request_tree.specs.Groups.{Group, Groups}
use Rattle.agg_request_tree.specs.Occurrences.{bound_of, past_occurrences}
use Rattle.agg_request_tree.specs.Source.{rules_of}
use Rattle.agg_composite.specs.accessor.Decoded.{IsEncoded}
use Rattle.agg_composite.specs.accessor.Encoding.{EncodedTuple, StandsForTuple, encoded_tuple_order}
use Rattle.agg_composite.specs.declared.accessor.request_data.CompositeAggReqData.{
  CompositeAggReqData,
}
use Rattle.agg_composite.specs.buckets.Cut.{count_each}
use Rattle.agg_composite.specs.buckets.Page.{Page}
use Rattle.agg_composite.specs.declared.buckets.visit_error.VisitError.{VisitError}
use Rattle.agg_composite.specs.declared.buckets.visit_error.VisitError.TheVariants.{TooMany}
use Rattle.agg_composite.specs.Answers.{Answers}
use Rattle.agg_composite.specs.PageEntries.{entry_group, page_entries}

-- the counts of tuples
abbrev pub TupleCounts : Type 0
TupleCounts = List (EncodedTuple × ℕ)

-- tuples were counted after others
abbrev pub CountsTuples : List EncodedTuple → TupleCounts → TupleCounts → Type 0
CountsTuples tuples old new = new ≡ count_each encoded_tuple_order old tuples

-- with so many more, a count could pass u64
abbrev pub MayPass : ℕ → TupleCounts → Type 0
MayPass more counts = 2 ^ 64 ≤ sum_by (λ e. e.1) counts + more

-- what counting tuples answers
abbrev pub AnswersTuples : List EncodedTuple → TupleCounts → TupleCounts → ℕ → ℕ
    → Result (Unit {0}) VisitError → Type 0
AnswersTuples tuples old new =
    Answers TooMany (CountsTuples tuples old new) (MayPass (length tuples) old) (length tuples)

-- tuples that stand for these were counted
pub record CountsKeys (req : CompositeAggReqData) (keys : List KeyTuple) (old new : TupleCounts)
    : Type 0 where
  pub tuples : List EncodedTuple
  pub stand : AllZip (StandsForTuple req) tuples keys
  pub counts : CountsTuples tuples old new

module _ (segment : Stored) (after : Named AfterKey) (req : CompositeAggReqData)
    (docs : List ℕ) where
  -- the occurrences of documents that lie past the bound
  abbrev pub past_of : List KeyTuple
  past_of =
      past_occurrences req.req.now.sources (bound_of req.req.now.sources after)
      (documents_at segment docs)

  -- what counting their tuples answers
  abbrev pub AnswersDocuments : TupleCounts → TupleCounts → ℕ → ℕ → Result (Unit {0}) VisitError
      → Type 0
  AnswersDocuments old new =
      Answers TooMany (CountsKeys req past_of old new) (MayPass (length past_of) old)
      (length past_of)

  -- entries are the lowest groups of these, as many as a page has
  pub record IsLowest (entries : Page EncodedTuple) : Type 0 where
    pub encoded : All (IsEncoded req) (keys_of entries)
    pub groups : List Group
    pub are : Groups (rules_of req.req.now.sources) past_of groups
    pub lowest : map entry_group (page_entries req entries) ≡ take req.size groups

  -- what listing them answers: their entries, by one to three steps an occurrence, or that these
  -- are more than u64 counts
  pub record AnswersListed (steps steps_now : ℕ) (result : Result (Page EncodedTuple) VisitError)
      : Type 0 where
    pub entries : IfOk result IsLowest
    pub least : OnOk result (steps + length past_of ≤ steps_now)
    pub too_many : IsErrOf result TooMany → 2 ^ 64 ≤ length past_of
    pub later : steps ≤ steps_now
    pub most : steps_now ≤ steps + 3 * length past_of
