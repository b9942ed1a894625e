-- The values of a tuple by their sources, from the end.
use Rattle.std.proofs.Common.{◌≡◌, ℕ, min, [], ◌∷◌, length, drop, refl, arith}
use Rattle.std.proofs.lemmas.List.{length-drop}
use Rattle.agg_values.specs.TypedKey.{CompositeIntermediateKey}
use Rattle.agg_request_tree.specs.BySource.{by_source}
use Rattle.agg_request_tree.specs.Source.{Sources}
use Rattle.agg_values.specs.Tuple.{KeyTuple}

module _ {T : Type 0} (value : CompositeIntermediateKey → T) where
  by_source-none : (sources : Sources) (keys : KeyTuple) → min (length sources) (length keys) ≡ 0
      → by_source value sources keys ≡ []
  by_source-none [] keys e = refl
  by_source-none (s ∷ sources) [] e = refl
  by_source-none (s ∷ sources) (k ∷ keys) e = absurd (omega (arith, e))

  -- after the shorter list nothing is left
  pub by_source-end : (sources : Sources) (keys : KeyTuple) (n : ℕ)
      → n ≡ min (length sources) (length keys) → by_source value (drop n sources) (drop n keys) ≡ []
  by_source-end sources keys n e = by_source-none (drop n sources) (drop n keys)
      (omega (arith, e, length-drop n sources, length-drop n keys))
