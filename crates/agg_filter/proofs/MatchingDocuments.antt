-- The documents that match, by the marks of an evaluator and by its query.
use Rattle.std.proofs.Common.{◌≡◌, ◌∙◌, refl, ap, ℕ, ◌+◌, ◌<◌, ◌≤◌, List, Bool, true, false}
use Rattle.std.proofs.Common.{◌&&◌, ltb, length, get_or, arith, zero-add}
use Rattle.std.proofs.lemmas.Grind.{common_steps, get_or_default_zero}
use Rattle.std.proofs.lemmas.Bool.Decides.{nat_tests}
use Rattle.std.proofs.lemmas.List.{length-map, get_or-map}
use Rattle.std.proofs.lemmas.List.Elements.{filter_agree}
use Rattle.std.proofs.lemmas.List.FromFn.{get_or-map-range_with_len, length-map-range_with_len}
use Rattle.std.specs.Prelude.{filter, map}
use Rattle.agg_filter.specs.Filter.{Filter, count_of}
use Rattle.agg_filter.specs.Matching.{is_matching}
use Rattle.agg_segment.specs.Marks.{AreMarks, mark_at}
use Rattle.agg_segment.specs.Query.{matches}
use Rattle.agg_segment.specs.Segment.{Stored, document_at, documents_of}
use Rattle.agg_segment.specs.SegmentLimits.{max_documents}
use Rattle.agg_segment.specs.declared.query.QueryTree.{QueryTree}

no_mark : (marks : List Bool) (doc : ℕ) → length marks ≤ doc → mark_at marks doc ≡ false
no_mark marks doc past = grind (arith, common_steps)

told_within : (within : Bool) (mark is : Bool) (doc count : ℕ) → within ≡ ltb doc count
    → (doc < count → mark ≡ is) → (count ≤ doc → mark ≡ false) → mark ≡ (within && is)
told_within true mark is doc count e inside past = inside (grind (arith, nat_tests))
told_within false mark is doc count e inside past = past (grind (arith, nat_tests))

-- the mark of a document says whether the query matches it
pub mark-matches : (tree : QueryTree) (segment : Stored) (marks : List Bool)
    → AreMarks (matches tree) segment marks → (doc : ℕ)
    → mark_at marks doc ≡ is_matching tree segment doc
mark-matches tree segment marks are doc =
    let long : length marks ≡ segment.count =
    are.each ∙ length-map-range_with_len (document_at segment) 0 segment.count in
    told_within (ltb doc segment.count) (mark_at marks doc)
    (matches tree (document_at segment doc)) doc segment.count refl
    (λ inside. are.told doc (omega (arith, long, inside)))
    (λ past. no_mark marks doc (omega (arith, long, past)))

-- so the documents that are marked are those that match
pub filter-matches : (tree : QueryTree) (segment : Stored) (marks : List Bool)
    → AreMarks (matches tree) segment marks → (docs : List ℕ)
    → filter (mark_at marks) docs ≡ filter (is_matching tree segment) docs
filter-matches tree segment marks are docs =
    filter_agree (mark_at marks) (is_matching tree segment)
    (mark-matches tree segment marks are) docs

-- the truth values of a query in all documents are marks
pub marks-are : (tree : QueryTree) (segment : Stored) (marks : List Bool) (count : ℕ)
    → count ≡ length (documents_of segment) → count ≤ max_documents
    → marks ≡ map (matches tree) (documents_of segment) → AreMarks (matches tree) segment marks
marks-are tree segment marks count is few same =
    let long : length marks ≡ length (documents_of segment) =
    ap length same ∙ length-map (documents_of segment) (matches tree) in
    let all = length-map-range_with_len (document_at segment) 0 segment.count in
    record {
      each = long;
      few = omega (arith, long, is, few);
      told = λ doc within.
          let inside : doc < segment.count = omega (arith, within, long, all) in
          ap (λ ms. mark_at ms doc) same
          ∙ get_or-map (matches tree) (documents_of segment) doc (document_at segment doc) false
          (omega (arith, inside, all))
          ∙ ap (matches tree) (get_or-map-range_with_len (document_at segment) 0 segment.count
          doc doc (document_at segment doc) inside (zero-add doc));
    }

module _ (tree : QueryTree) (segment : Stored) (marks : List Bool)
    (are : AreMarks (matches tree) segment marks) (docs : List ℕ) where
  -- a count and the number of marked documents are the count and the number of those that match
  pub counted-in : (counts : List ℕ) (parent count more : ℕ) → parent < length counts
      → count ≡ get_or counts parent count → more ≡ length (filter (mark_at marks) docs)
      → count + more ≡ get_or counts parent 0 + length (filter (is_matching tree segment) docs)
  counted-in counts parent count more within is many =
      let read = get_or_default_zero counts parent count within in
      omega (arith, is, read, many, ap length (filter-matches tree segment marks are docs))

  -- the same of the count that a collector had
  pub counted-matches : {C : Type 0} (fields old : Filter C) → fields ≡ old
      → (parent count more : ℕ) → parent < length old.counts
      → count ≡ get_or fields.counts parent count → more ≡ length (filter (mark_at marks) docs)
      → count + more ≡ count_of old parent + length (filter (is_matching tree segment) docs)
  counted-matches fields old same parent count more within is many =
      counted-in old.counts parent count more within
      (is ∙ ap (λ collector. get_or collector.counts parent count) same) many
