-- The starts for numbers of a column that aren't below a place, within i64 or not.
use Rattle.std.proofs.Common.{◌≡◌, ◌↔◌, ℕ, List, [], ◌∷◌, Bool, true, false, cond, map, filter}
use Rattle.std.proofs.Common.{Option, refl, sym, ◌∙◌, subst}
use Rattle.std.specs.List.{All, AllByRecursion}
use Rattle.std.proofs.lemmas.Bool.{false≢true}
use Rattle.std.proofs.lemmas.List.Elements.{All-from_recursion, recursion_from_All}
use Rattle.agg_values.specs.TypedKey.{CompositeIntermediateKey}
use Rattle.agg_segment.specs.storage.Columns.{StandsForKey, encoded_key}
use Rattle.agg_segment.specs.declared.storage.keys.ColumnKeys.{ColumnKeys}
use Rattle.agg_request_tree.specs.Source.{is_from}
use Rattle.agg_composite.specs.accessor.Least.{IsLeastIn, is_number_from, numbers_from}
use Rattle.agg_composite.specs.accessor.Ranges.{AreNumbersWithin, IsKeyWithin, IsNumberWithin}
use Rattle.agg_composite.specs.declared.accessor.after_key.PrecomputedAfterKey.{PrecomputedAfterKey}
use Rattle.agg_composite.specs.declared.accessor.divisor.Divisor.{Divisor}
use Rattle.agg_composite.proofs.lemmas.accessor.LeastValues.{keys-from_numbers}

module _ (divisor : Divisor) (keys : ColumnKeys) (place : PrecomputedAfterKey) where
  -- the starts for the numbers that pass lie within i64
  abbrev PassedWithin : List ℕ → Type 0
  PassedWithin ns = AllByRecursion (IsKeyWithin divisor) (map (encoded_key keys) ns)

  passed-within : (ns : List ℕ) → AllByRecursion (IsNumberWithin divisor keys place) ns
      → PassedWithin (numbers_from place ns)
  passed-within [] all = tt
  passed-within (n ∷ ns) all =
      by_test (is_number_from place n) refl (passed-within ns all.1)
    where
      by_test : (b : Bool) → is_number_from place n ≡ b → PassedWithin (numbers_from place ns)
          → PassedWithin (cond b (n ∷ numbers_from place ns) (numbers_from place ns))
      by_test true passes others = (all.0 passes, others)
      by_test false below others = others

  within-passed : (ns : List ℕ) → PassedWithin (numbers_from place ns)
      → AllByRecursion (IsNumberWithin divisor keys place) ns
  within-passed [] all = tt
  within-passed (n ∷ ns) all =
      by_test (is_number_from place n) refl (within-passed ns) all
    where
      by_test : (b : Bool) → is_number_from place n ≡ b
          → (PassedWithin (numbers_from place ns)
          → AllByRecursion (IsNumberWithin divisor keys place) ns)
          → PassedWithin (cond b (n ∷ numbers_from place ns) (numbers_from place ns))
          → IsNumberWithin divisor keys place n
          × AllByRecursion (IsNumberWithin divisor keys place) ns
      by_test true passes others within = (λ yes. within.0, others within.1)
      by_test false below others within =
          (λ yes. absurd (false≢true (sym below ∙ yes)), others within)

  -- they do where those for the keys do that aren't below a least value
  pub numbers-range : (min : Option CompositeIntermediateKey) → IsLeastIn keys min place
      → (ns : List ℕ) → All (StandsForKey keys) ns
      → AreNumbersWithin divisor keys place ns
      ↔ All (IsKeyWithin divisor) (filter (is_from min) (map (encoded_key keys) ns))
  numbers-range min least ns stand =
      let within = IsKeyWithin divisor in
      let kept = map (encoded_key keys) (numbers_from place ns) in
      let same = keys-from_numbers keys min place least ns stand in (
        λ all. subst (All within) (sym same) (All-from_recursion within kept
            (passed-within ns (recursion_from_All (IsNumberWithin divisor keys place) ns all))),
        λ all. All-from_recursion (IsNumberWithin divisor keys place) ns
            (within-passed ns (recursion_from_All within kept (subst (All within) same all))),
      )
