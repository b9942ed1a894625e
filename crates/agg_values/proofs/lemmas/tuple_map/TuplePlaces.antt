-- Entries at places of a map from tuples.
use Rattle.std.proofs.Common.{◌≡◌, ℕ, ◌<◌, List, length, get_or, set, Some, sym, ap, ◌∙◌}
use Rattle.std.specs.List.{slice_get}
use Rattle.std.specs.Map.{values_of}
use Rattle.std.proofs.lemmas.Option.{slice_get-get_or, slice_get-map}
use Rattle.std_collections.specs.Layout.Columns.{set_value_at}
use Rattle.std.specs.Option.{option_map}
use Rattle.agg_values.proofs.NamePlaces.{set_is}

module _ {A K X : Type 0} (rules : A) (es : List (K × X)) (whole : A × List (K × X))
    (same : ◌≡◌ {A = A × List (K × X)} (rules, es) whole) (i : ℕ) (e : K × X)
    (within : i < length es) (at : e ≡ get_or es i e) where
  -- the value at a place
  pub value_there : slice_get (values_of whole.1) i ≡ Some e.1
  value_there =
      ap (λ m. slice_get (values_of m.1) i) (sym same)
      ∙ slice_get-map (λ (f : K × X). f.1) es i
      ∙ ap (option_map (λ (f : K × X). f.1)) (slice_get-get_or es i e within ∙ ap Some (sym at))

  -- another value written there
  pub value_written : (w : X)
      → ◌≡◌ {A = A × List (K × X)} (rules, set es i (e.0, w)) (whole.0, set_value_at whole.1 i w)
  value_written w =
      ap (λ fs. (rules, fs)) (set_is es i e w within at)
      ∙ ap (λ m. (m.0, set_value_at m.1 i w)) same
