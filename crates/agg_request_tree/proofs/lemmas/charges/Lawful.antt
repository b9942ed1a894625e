-- Laws of what aggregations count, which hold of several together where they hold of each.
use Rattle.std.proofs.Common.{◌≡◌, ◌≤◌, ◌+◌, ℕ, List, [], ◌∷◌, refl, sym, arith}
use Rattle.std.specs.List.{AllByRecursion, sum_by}
use Rattle.std.proofs.lemmas.List.Sums.{sum_by-cons}
use Rattle.agg_values.specs.Names.{Named}
use Rattle.agg_segment.specs.storage.Document.{Fields}
use Rattle.agg_request_tree.specs.charges.Roof.{Counts, Height, nothing, together}
use Rattle.agg_request_tree.specs.charges.Roof.Height.{Uncut, High, Low}
use Rattle.agg_request_tree.specs.charges.Within.{Within}
use Rattle.agg_request_tree.proofs.lemmas.charges.Sums.{sum_by-both, sum_by-none}

-- what aggregations count keeps to the laws
pub record Lawful (c : Counts) : Type 0 where
  -- a document adds to the bytes of uncut lists what it weighs
  pub weight : Fields → ℕ
  pub weighs : (documents : List Fields) → c Uncut documents ≡ sum_by weight documents
  -- the counted bytes are no more
  pub most : (documents : List Fields) → c High documents ≤ c Uncut documents
  -- they don't fall from a list to one that it is within
  pub rises : (documents others : List Fields) → Within documents others
      → c High documents ≤ c High others
  -- the low bytes are at most these
  pub lower : (documents : List Fields) → c Low documents ≤ c High documents
  -- lists within each other have the same low bytes
  pub low_same : (documents others : List Fields) → Within documents others
      → Within others documents → c Low documents ≡ c Low others

-- nothing keeps to the laws
pub Lawful-nothing : Lawful nothing
Lawful-nothing = record {
  weight = λ document. 0;
  weighs = λ documents. sym (sum_by-none documents);
  most = λ documents. omega arith;
  rises = λ documents others inside. omega arith;
  lower = λ documents. omega arith;
  low_same = λ documents others inside back. refl;
}

-- what several count is what the first does, and what the others do
pub together-cons : (c : List ℕ × Counts) (each : Named Counts) (height : Height)
    (documents : List Fields)
    → together (c ∷ each) height documents
    ≡ c.1 height documents + together each height documents
together-cons c each height documents =
    sum_by-cons (λ (d : List ℕ × Counts). d.1 height documents) c each

-- several aggregations together keep to the laws, where each of them does
pub Lawful-together : (each : Named Counts)
    → AllByRecursion (λ (c : List ℕ × Counts). Lawful c.1) each → Lawful (together each)
Lawful-together [] lawful = Lawful-nothing
Lawful-together (c ∷ each) lawful =
    let first : Lawful c.1 = lawful.0 in
    let rest : Lawful (together each) = Lawful-together each lawful.1 in
    let parts = together-cons c each in
    record {
      weight = λ document. first.weight document + rest.weight document;
      weighs = λ documents. omega (
        arith,
        parts Uncut documents,
        first.weighs documents,
        rest.weighs documents,
        sum_by-both first.weight rest.weight documents,
      );
      most = λ documents. omega (
        arith,
        parts Uncut documents,
        parts High documents,
        first.most documents,
        rest.most documents,
      );
      rises = λ documents others inside. omega (
        arith,
        parts High documents,
        parts High others,
        first.rises documents others inside,
        rest.rises documents others inside,
      );
      lower = λ documents. omega (
        arith,
        parts High documents,
        parts Low documents,
        first.lower documents,
        rest.lower documents,
      );
      low_same = λ documents others inside back. omega (
        arith,
        parts Low documents,
        parts Low others,
        first.low_same documents others inside back,
        rest.low_same documents others inside back,
      );
    }
