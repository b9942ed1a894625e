-- What is true of aggregations that are settled, which holds of several together where it holds of
-- each.
use Rattle.std.proofs.Common.{◌≡◌, ◌&&◌, ℕ, true, false, List, ◌∷◌, refl, arith}
use Rattle.agg_values.specs.Names.{Named}
use Rattle.agg_segment.specs.storage.Document.{Fields}
use Rattle.agg_request_tree.specs.charges.Roof.{Counts, nothing, together}
use Rattle.agg_request_tree.specs.charges.Roof.Height.{Uncut, High, Low}
use Rattle.agg_request_tree.specs.charges.Settled.{Settling, settling_of_none, settling_together}
use Rattle.agg_request_tree.specs.charges.Within.{Within}
use Rattle.agg_request_tree.proofs.lemmas.charges.Lawful.{Lawful, together-cons}
use Rattle.agg_request_tree.proofs.lemmas.charges.Tests.{both, neither}

-- what aggregations count keeps to what they are settled over
pub record Settles (c : Counts) (s : Settling) : Type 0 where
  -- without a composite nothing is counted
  pub bare : s.has_composite ≡ false → (documents : List Fields) → c Uncut documents ≡ 0
  -- where all is settled, as much is counted at any height
  pub settled : (documents : List Fields) → s.is_settled documents ≡ true
      → c Low documents ≡ c High documents
  -- what is settled over a list is over each list within it
  pub settles : (documents others : List Fields) → Within documents others
      → s.is_settled others ≡ true → s.is_settled documents ≡ true

-- without a composite nothing is counted, at any height
pub bare-high : {c : Counts} {s : Settling} → Lawful c → Settles c s → s.has_composite ≡ false
    → (documents : List Fields) → c High documents ≡ 0
bare-high lawful settles none documents =
    omega (arith, lawful.most documents, settles.bare none documents)

pub bare-low : {c : Counts} {s : Settling} → Lawful c → Settles c s → s.has_composite ≡ false
    → (documents : List Fields) → c Low documents ≡ 0
bare-low lawful settles none documents =
    omega (arith, lawful.lower documents, bare-high lawful settles none documents)

-- of nothing
pub Settles-nothing : Settles nothing settling_of_none
Settles-nothing = record {
  bare = λ none documents. refl;
  settled = λ documents pass. refl;
  settles = λ documents others inside pass. refl;
}

-- of one with others
pub Settles-cons : (c : List ℕ × Counts) (s : List ℕ × Settling) (each : Named Counts)
    (others : Named Settling) → Settles c.1 s.1
    → Settles (together each) (settling_together others)
    → Settles (together (c ∷ each)) (settling_together (s ∷ others))
Settles-cons c s each others first rest =
    let parts = together-cons c each in
    let of_others : Settling = settling_together others in
    record {
      bare = λ none documents.
          let bare = neither s.1.has_composite of_others.has_composite none in
          omega (
            arith,
            parts Uncut documents,
            first.bare bare.0 documents,
            rest.bare bare.1 documents,
          );
      settled = λ documents pass.
          let each = both (s.1.is_settled documents) (of_others.is_settled documents) pass in
          omega (
            arith,
            parts High documents,
            parts Low documents,
            first.settled documents each.0,
            rest.settled documents each.1,
          );
      settles = λ documents more inside pass.
          let each = both (s.1.is_settled more) (of_others.is_settled more) pass in
          (λ i. first.settles documents more inside each.0 i
          && rest.settles documents more inside each.1 i);
    }
