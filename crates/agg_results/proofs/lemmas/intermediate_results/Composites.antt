-- A composite's result by its parts.
use Rattle.std.proofs.Common.{◌≡◌, ℕ, zero, suc, ◌*◌, ◌<◌, ◌≤◌, List, [], ◌∷◌, length, refl, sym}
use Rattle.std.proofs.Common.{ap, ◌∙◌, subst, arith}
use Rattle.std.specs.List.{remove}
use Rattle.std.proofs.lemmas.Bool.{le-ltb}
use Rattle.std_collections.specs.Layout.Columns.{length-set_value_at, set_value_at}
use Rattle.agg_values.specs.KeyOrder.{SourceRules}
use Rattle.agg_results.specs.intermediate_results.Intermediate.{Entries, composite_of, entries_of}
use Rattle.agg_results.specs.intermediate_results.Intermediate.{orders_of, target_size_of}
use Rattle.agg_results.specs.intermediate_results.Merging.{trimmed, trimmed_to}
use Rattle.agg_results.specs.declared.intermediate_results as intermediate
use intermediate.composite.IntermediateCompositeBucketResult as c
use c.{IntermediateCompositeBucketResult, out-IntermediateCompositeBucketResult}
use c.{out-roll-IntermediateCompositeBucketResult, roll-out-IntermediateCompositeBucketResult}
use intermediate.entry.IntermediateTermBucketEntry.{IntermediateTermBucketEntry}

-- what a composite of these parts holds
pub opened : (orders : SourceRules) (size : ℕ) (es : Entries)
    → out-IntermediateCompositeBucketResult (composite_of orders size es)
    ≡ record { entries = (orders, es); target_size = size }
opened orders size es =
    out-roll-IntermediateCompositeBucketResult
    (record { entries = (orders, es); target_size = size })

-- a composite is that of its parts
pub closed : (c : IntermediateCompositeBucketResult)
    → composite_of (orders_of c) (target_size_of c) (entries_of c) ≡ c
closed c = roll-out-IntermediateCompositeBucketResult c

-- ---- an entry that is written and removed

module _ (orders : SourceRules) (size : ℕ) (es : Entries) (i : ℕ)
    (e : IntermediateTermBucketEntry) where
  abbrev written : IntermediateCompositeBucketResult
  written = composite_of orders size (set_value_at es i e)

  -- a place is still there where its entry is another
  pub still_there : i < length es → i < length (entries_of written)
  still_there within =
      let same = opened orders size (set_value_at es i e) in
      subst (λ c. i < length c.entries.1) (sym same)
      (omega (arith, length-set_value_at es i e))

  remove-written : (fs : Entries) (j : ℕ) → remove (set_value_at fs j e) j ≡ remove fs j
  remove-written [] j = refl
  remove-written (f ∷ fs) zero = refl
  remove-written (f ∷ fs) (suc j) = ap (λ gs. f ∷ gs) (remove-written fs j)

  -- removed from the place, it is gone with what it replaced
  pub gone : (new : SourceRules × Entries)
      → new ≡ (orders_of written, remove (entries_of written) i)
      → composite_of new.0 (target_size_of written) new.1 ≡ composite_of orders size (remove es i)
  gone new is =
      let same = opened orders size (set_value_at es i e) in
      ap (λ m. composite_of m.0 (target_size_of written) m.1) is
      ∙ ap (λ c. composite_of c.entries.0 c.target_size (remove c.entries.1 i)) same
      ∙ ap (composite_of orders size) (remove-written es i)

-- ---- trimming

-- up to twice the size nothing is cut
pub trimmed-up_to : {A : Type 0} (size : ℕ) (entries : List A) → length entries ≤ 2 * size
    → trimmed size entries ≡ entries
trimmed-up_to size entries few = rw (le-ltb (2 * size) (length entries) few) refl

-- a composite's result of these parts, trimmed
pub trimmed-made : (w : IntermediateCompositeBucketResult) (orders : SourceRules) (size : ℕ)
    (entries : Entries) → w ≡ composite_of orders size entries
    → trimmed_to w (entries_of w) ≡ composite_of orders size (trimmed size entries)
trimmed-made w orders size entries is =
    ap (λ v. trimmed_to v (entries_of v)) is
    ∙ ap (λ r. composite_of r.entries.0 r.target_size (trimmed r.target_size r.entries.1))
    (out-roll-IntermediateCompositeBucketResult
    (record { entries = (orders, entries); target_size = size }))
