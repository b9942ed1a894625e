-- One result over another of its name.
use Rattle.std.proofs.Common.{◌≡◌, ℕ, inl, inr, List, Option, None, Some, refl, Bool, false, sym}
use Rattle.std.proofs.Common.{ap, ◌∙◌, subst}
use Rattle.std.specs.Prelude.{IsSomeAnd}
use Rattle.agg_values.specs.Names.{value_of}
use Rattle.agg_results.specs.metric_results.Merges.{Merges}
use Rattle.agg_results.specs.intermediate_results.Intermediate.{Held}
use Rattle.agg_results.specs.intermediate_results.Merging.{CountsPass, EitherOrBoth, IsMerged}
use Rattle.agg_results.specs.intermediate_results.Merging.{MergedTo, ShapesDiffer}
use Rattle.agg_results.specs.intermediate_results.Outcome.{IsPut}
use Rattle.agg_results.specs.declared.intermediate_results as intermediate
use intermediate.results.IntermediateAggregationResult.{IntermediateAggregationResult}

abbrev Result : Type 0
Result = IntermediateAggregationResult

-- ---- names of which one side has nothing

-- what is left of a name that the other side doesn't have
pub either-left : (Both : Result → Result → Result → Type 0) (r : Option Result)
    → EitherOrBoth Both r None r
either-left Both None = refl
either-left Both (Some r) = refl

-- what is merged at every depth is merged to each
pub to_depth : (depth : ℕ) (r o w : Option Result) → EitherOrBoth IsMerged r o w
    → EitherOrBoth (MergedTo depth) r o w
to_depth depth None o w h = h
to_depth depth (Some r) None w h = h
to_depth depth (Some r) (Some o) None h = h
to_depth depth (Some r) (Some o) (Some w) h = h depth

-- ---- one result over another

module _ (was now now' : Bool) (name : List ℕ) (value : Result) (held : Held) (w w' : Result)
    (same : now' ≡ now) (same_w : w' ≡ w) where
  -- nothing was held under the name
  pub put-none : now ≡ was → w ≡ value → value_of name held ≡ None
      → IsPut was now' name value held w'
  put-none kept is at = record {
    merges = record {
      alike = λ some. subst (λ x. IsSomeAnd x (λ r. ShapesDiffer r value)) at some;
      few = λ nay some. subst (λ x. IsSomeAnd x (λ r. CountsPass r value)) at some;
      kept = λ raised. same ∙ kept ∙ raised;
      passed = λ raised. inl (sym kept ∙ sym same ∙ raised);
    };
    merged = λ nay. subst (λ x. EitherOrBoth IsMerged x (Some value) (Some w')) (sym at)
        (ap Some (same_w ∙ is));
  }

  -- a result was held, which the other was merged into
  pub put-some : (r : Result) → value_of name held ≡ Some r
      → Merges was now (ShapesDiffer r value) (CountsPass r value)
      → (now ≡ false → IsMerged r value w) → IsPut was now' name value held w'
  put-some r at merges merged = record {
    merges = record {
      alike = λ some. merges.alike
          (subst (λ x. IsSomeAnd x (λ r. ShapesDiffer r value)) at some);
      few = λ nay some. merges.few (sym same ∙ nay)
          (subst (λ x. IsSomeAnd x (λ r. CountsPass r value)) at some);
      kept = λ raised. same ∙ merges.kept raised;
      passed = λ raised. elim (merges.passed (sym same ∙ raised)) [
        | inl before ↦ inl before
        | inr pass ↦ inr (subst (λ x. IsSomeAnd x (λ r. CountsPass r value)) (sym at) pass)
      ];
    };
    merged = λ nay. subst (λ x. EitherOrBoth IsMerged x (Some value) (Some w')) (sym at)
        (subst (IsMerged r value) (sym same_w) (merged (sym same ∙ nay)));
  }
