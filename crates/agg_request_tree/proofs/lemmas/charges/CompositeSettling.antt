-- What a composite counts keeps to what it is settled over, where what those below it count does.
use Rattle.std.proofs.Common.{◌≡◌, ◌+◌, ◌&&◌, ◌||◌, ℕ, Bool, true, false, List, [], ◌∷◌}
use Rattle.std.proofs.Common.{not, refl, sym, ap, ◌∙◌, arith}
use Rattle.std.specs.Prelude.{if◌then◌else◌}
use Rattle.std.specs.List.{list_all, sum_by}
use Rattle.std.proofs.lemmas.List.Sums.{sum_by-cons}
use Rattle.agg_values.specs.Tuple.{KeyTuple}
use Rattle.agg_segment.specs.storage.Document.{Fields}
use Rattle.agg_request_tree.specs.Page.{documents_with}
use Rattle.agg_request_tree.specs.Uncut.{counted}
use Rattle.agg_request_tree.specs.declared.aggregation.CompositeAggregation.{CompositeAggregation}
use Rattle.agg_request_tree.specs.charges.Roof.{Counts, composite_counts, has_room, own_bytes}
use Rattle.agg_request_tree.specs.charges.Roof.{past_tuples}
use Rattle.agg_request_tree.specs.charges.Roof.Height.{High, Low}
use Rattle.agg_request_tree.specs.charges.Settled.{Settling, composite_settling}
use Rattle.agg_request_tree.specs.charges.Within.{Within}
use Rattle.agg_request_tree.proofs.lemmas.charges.CompositeTuples.{all_tuples-within, room-within}
use Rattle.agg_request_tree.proofs.lemmas.charges.CompositeTuples.{those-within}
use Rattle.agg_request_tree.proofs.lemmas.charges.Lawful.{Lawful}
use Rattle.agg_request_tree.proofs.lemmas.charges.Settles.{Settles, bare-high, bare-low}
use Rattle.agg_request_tree.proofs.lemmas.charges.Sums.{sum_by-same}
use Rattle.agg_request_tree.proofs.lemmas.charges.Tests.{both}

-- sums of terms that are equal where a test passes, which all pass
sum_by-passing : {X : Type 0} (f g : X → ℕ) (test : X → Bool) (xs : List X)
    → ((x : X) → test x ≡ true → f x ≡ g x) → list_all test xs ≡ true → sum_by f xs ≡ sum_by g xs
sum_by-passing f g test [] same pass = refl
sum_by-passing f g test (x ∷ xs) same pass =
    let parts = both (test x) (list_all test xs) pass in
    omega (
      arith,
      sum_by-cons f x xs,
      sum_by-cons g x xs,
      same x parts.0,
      sum_by-passing f g test xs same parts.1,
    )

module _ (composite : CompositeAggregation) (below : Counts) (inner : Settling)
    (lawful : Lawful below) (keeps : Settles below inner) where
  abbrev whole : Counts
  whole = composite_counts composite below

  abbrev settling : Settling
  settling = composite_settling composite inner

  -- the documents of a tuple
  abbrev those : List Fields → KeyTuple → List Fields
  those = documents_with composite.sources

  -- those of each tuple
  abbrev tuples : List Fields → List KeyTuple
  tuples = past_tuples composite

  -- the composite's uncut list
  abbrev uncut : List Fields → List Fields
  uncut = counted composite

  settled : (documents : List Fields) → settling.is_settled documents ≡ true
      → whole Low documents ≡ whole High documents
  settled documents pass =
      let low : KeyTuple → ℕ = λ t. below Low (those documents t) in
      let bytes : KeyTuple → ℕ = λ t. below High (those documents t) in
      ap (λ n. own_bytes composite documents + n)
      (by_test inner.has_composite (has_room composite documents)
      (λ none.
      sum_by-same low bytes (tuples documents)
      (λ t.
      bare-low lawful keeps none (those documents t)
      ∙ sym (bare-high lawful keeps none (those documents t))))
      (λ none. keeps.bare none (uncut documents))
      (sum_by-passing low bytes (λ t. inner.is_settled (those documents t)) (tuples documents)
      (λ t. keeps.settled (those documents t)))
      pass)
    where
      by_test : {m n u : ℕ} {each : Bool} (nested room : Bool) → (nested ≡ false → m ≡ n)
          → (nested ≡ false → u ≡ 0) → (each ≡ true → m ≡ n)
          → (not nested || (room && each)) ≡ true
          → (if room then m else 0) ≡ (if room then n else u)
      by_test true true bare none each pass = each pass
      by_test true false bare none each pass = absurd (cc)
      by_test false true bare none each pass = bare refl
      by_test false false bare none each pass = sym (none refl)

  settles : (documents others : List Fields) → Within documents others
      → settling.is_settled others ≡ true → settling.is_settled documents ≡ true
  settles documents others inside pass =
      by_test (not inner.has_composite) (has_room composite others)
      (has_room composite documents) (room-within composite documents others inside)
      (all_tuples-within composite documents others inside inner.is_settled
      (λ t.
      keeps.settles (those documents t) (those others t)
      (those-within composite documents others inside t)))
      pass
    where
      by_test : {each all : Bool} (bare room here : Bool) → (room ≡ true → here ≡ true)
          → (each ≡ true → all ≡ true) → (bare || (room && each)) ≡ true
          → (bare || (here && all)) ≡ true
      by_test true room here fits every pass = refl
      by_test false true true fits every pass = every pass
      by_test false true false fits every pass = absurd (let never = fits refl in cc)
      by_test false false here fits every pass = absurd (cc)

  -- a composite keeps to it
  pub Settles-composite : Settles whole settling
  Settles-composite = record {
    bare = λ none documents. absurd (cc);
    settled = settled;
    settles = settles;
  }
