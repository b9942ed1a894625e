-- What answers an input, and which bytes are none.
use Rattle.std.specs.Prelude.{◌≡◌, ◌≢◌, ◌<◌, ◌+◌, ◌⊎◌, ℕ, List, [], Bool, true, false}
use Rattle.std.specs.Prelude.{Option, Some, drop, take, length, unwrap_or}
use Rattle.agg_values.specs.Nothing.{NoneIs}
use Rattle.agg_cache.specs.Limits.{Limits}
use Rattle.agg_segment.specs.storage.Document.{Fields}
use Rattle.agg_segment.specs.declared.query.QueryTree.{QueryTree}
use Rattle.agg_request_tree.specs.Matching.{built_matches}
use Rattle.agg_engine.specs.declared.walk.Walk.{Walk}
use Rattle.agg_engine.specs.declared.walk.error.WalkError.{WalkError}
use Rattle.agg_engine.specs.declared.walk.error.WalkError.TheVariants.{OutOfMemory}
use Rattle.agg_engine.specs.Refusals.{WalkFailsAtMost, WalkRefusedAtLeast, WalkRefusedAtMost}
use Rattle.agg_engine.specs.Walk.{IsWalk, MayBeAsked}
use Rattle.agg_pages.specs.input_text.Input.{AreNoInput, Input, max_input_bytes}
use Rattle.agg_pages.specs.Output.{refusal_text, summary_text, walk_text}

-- the limits of an input, with nothing in use: its own, or 500,000,000 bytes and 65,000 buckets
abbrev pub limits_of : {B : Type 0} → Input B → Limits
limits_of i = record {
  in_use = 0;
  memory_limit = unwrap_or i.header.memory_limit 500000000;
  bucket_limit = unwrap_or i.header.bucket_limit 65000;
}

module _ {B : Type 0} (tree_for : B → List (List ℕ) → Option QueryTree) where
  -- the query that a builder makes for the schema of an input
  abbrev pub query_in : Input B → B → Option QueryTree
  query_in i builder = tree_for builder i.header.schema

  -- whether what it makes matches a document
  abbrev pub matches_in : Input B → B → Fields → Bool
  matches_in i = built_matches (query_in i)

  -- an error that a walk of an input may answer, want of memory aside
  abbrev pub InputRefusedAtMost : Input B → WalkError → Type 0
  InputRefusedAtMost i error =
      (error ≢ OutOfMemory)
      × WalkFailsAtMost (query_in i) (limits_of i) i.header.name i.header.query i.header.request
      i.snapshots error

  -- an input whose walk doesn't have to be refused
  pub record IsValid (i : Input B) : Type 0 where
    pub asked : MayBeAsked (query_in i) i.header.name i.header.request i.snapshots
    pub fits : NoneIs (WalkRefusedAtLeast (matches_in i) (limits_of i) i.header.name i.header.query
        i.header.request i.snapshots)

  -- an input whose walk is never refused: in no segment that it reaches the memory limit is passed
  -- within the roof
  pub record IsNeverRefused (i : Input B) : Type 0 where
    pub asked : MayBeAsked (query_in i) i.header.name i.header.request i.snapshots
    pub fits : NoneIs (WalkRefusedAtMost (matches_in i) (limits_of i) i.header.name i.header.query
        i.header.request i.snapshots)

  -- the plain walk of an input
  abbrev pub IsPlainWalk : Input B → Walk → Type 0
  IsPlainWalk i walk =
      IsWalk (matches_in i) i.header.name i.header.query i.header.request i.snapshots walk.pages
      walk.ended

  -- the text is the printed plain walk of an input
  abbrev pub IsPlainWalkText : Input B → List ℕ → Type 0
  IsPlainWalkText i text = (walk : Walk) × IsPlainWalk i walk × (text ≡ walk_text walk)

  -- the text is the printed walk of an input that doesn't have to be refused
  abbrev pub IsPrintedWalk : Input B → List ℕ → Type 0
  IsPrintedWalk i text = IsValid i × IsPlainWalkText i text

  -- the text is a refusal that a walk of an input may answer
  abbrev pub IsRefusal : Input B → List ℕ → Type 0
  IsRefusal i text = (error : WalkError) × InputRefusedAtMost i error × (text ≡ refusal_text error)

  -- the text answers an input, by a refusal or by the printed walk
  abbrev pub IsReply : Bool → Input B → List ℕ → Type 0
  IsReply true i text = IsRefusal i text
  IsReply false i text = IsPrintedWalk i text

  -- the text is a prefix of an answer to an input
  abbrev pub IsReplyPrefix : Input B → List ℕ → Type 0
  IsReplyPrefix i prefix =
      (refused : Bool) × (text : List ℕ) × IsReply refused i text
      × ((count : ℕ) × (prefix ≡ take count text))

  -- the text is the summary of the plain walk of an input
  abbrev pub IsSummary : Input B → List ℕ → Type 0
  IsSummary i text = (walk : Walk) × IsPlainWalk i walk × (text ≡ summary_text walk)

  -- the text is a prefix of such a summary
  abbrev pub IsSummaryPrefix : Input B → List ℕ → Type 0
  IsSummaryPrefix i prefix =
      (text : List ℕ) × IsSummary i text × ((count : ℕ) × (prefix ≡ take count text))

-- the bytes are no input: all were read, or one past the limit
abbrev pub IsNoInput : {B : Type 0} → List B → (B → List ℕ) → List ℕ → Option (List ℕ) → Type 0
IsNoInput builders name_of bytes left =
    AreNoInput builders name_of bytes
    × ((left ≡ Some [])
    ⊎ ((max_input_bytes < length bytes) × (left ≡ Some (drop (max_input_bytes + 1) bytes))))
