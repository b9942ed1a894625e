-- The text of the plain walk of an input, and its summary, of which there is one each.
use Rattle.std.proofs.Common.{◌≡◌, ◌∙◌, ◌++◌, ℕ, List, Option, refl, sym}
use Rattle.agg_segment.specs.declared.query.QueryTree.{QueryTree}
use Rattle.agg_engine.proofs.OneWalk.{walk-exists, walk-same}
use Rattle.agg_engine.specs.declared.walk.Walk.{Walk}
use Rattle.agg_pages.specs.input_text.Input.{Input}
use Rattle.agg_pages.specs.Answer.{IsPlainWalkText, IsSummary, matches_in}
use Rattle.agg_pages.specs.Output.{ended_line, page_lines, summary_text}

-- an input has one text of its plain walk at most
pub plain_text-unique : {B : Type 0} (tree_for : B → List (List ℕ) → Option QueryTree) (i : Input B)
    (text other : List ℕ)
    → IsPlainWalkText tree_for i text → IsPlainWalkText tree_for i other → text ≡ other
plain_text-unique tree_for i text other (walk, is, said) (next, so, too) =
    let same = walk-same (matches_in tree_for i) i.header.name i.header.query i.header.request
    i.snapshots walk.pages next.pages walk.ended next.ended is so in
    said ∙ (λ k. page_lines 1 (same.0 k) ++ ended_line (same.1 k)) ∙ sym too

-- an input has one summary at most
pub summary-unique : {B : Type 0} (tree_for : B → List (List ℕ) → Option QueryTree) (i : Input B)
    (text other : List ℕ)
    → IsSummary tree_for i text → IsSummary tree_for i other → text ≡ other
summary-unique tree_for i text other (walk, is, said) (next, so, too) =
    let same = walk-same (matches_in tree_for i) i.header.name i.header.query i.header.request
    i.snapshots walk.pages next.pages walk.ended next.ended is so in
    said ∙ (λ k. summary_text (record { pages = same.0 k; ended = same.1 k })) ∙ sym too

pub summary-exists : {B : Type 0} (tree_for : B → List (List ℕ) → Option QueryTree) (i : Input B)
    → (text : List ℕ) × IsSummary tree_for i text
summary-exists tree_for i =
    let (pages, ended, is) = walk-exists (matches_in tree_for i) i.header.name i.header.query
    i.header.request i.snapshots in
    let walk : Walk = record { pages = pages; ended = ended } in
    (summary_text walk, (walk, is, refl))
