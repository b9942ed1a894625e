-- What merges did, one after another.
use Rattle.std.proofs.Common.{◌≡◌, ◌⊎◌, inl, inr, Bool, true, false, refl, sym, ◌∙◌}
use Rattle.agg_results.specs.metric_results.Merges.{Merges}

pub merges-as : (was now : Bool) (D D' P P' : Type 0) → (D' → D) → (P' → P) → (P → P')
    → Merges was now D P → Merges was now D' P'
merges-as was now D D' P P' differ pass back is = record {
  alike = λ d. is.alike (differ d);
  few = λ nay p. is.few nay (pass p);
  kept = is.kept;
  passed = λ yes. elim (is.passed yes) [ inl w ↦ inl w | inr p ↦ inr (back p) ];
}

-- one after another
pub merges-both : (was mid now : Bool) (D D' P P' : Type 0) → Merges was mid D P
    → Merges mid now D' P' → Merges was now (D ⊎ D') (P ⊎ P')
merges-both was mid now D D' P P' first second = record {
  alike = λ d. elim d [ inl x ↦ first.alike x | inr y ↦ second.alike y ];
  few = λ nay p. elim p [ inl x ↦ first.few (early mid refl nay) x | inr y ↦ second.few nay y ];
  kept = λ yes. second.kept (first.kept yes);
  passed = λ yes. elim (second.passed yes) [
    | inl middle ↦ elim (first.passed middle) [ inl w ↦ inl w | inr p ↦ inr (inl p) ]
    | inr p ↦ inr (inr p)
  ];
}
  where
    early : (b : Bool) → mid ≡ b → now ≡ false → mid ≡ false
    early true raised nay = let h : true ≡ false = sym (second.kept raised) ∙ nay in cc
    early false is nay = is

-- where nothing differs and no sum is too large, the flag stays
pub merges-none : (was now : Bool) (D P : Type 0) → now ≡ was → ¬ D → ¬ P → Merges was now D P
merges-none was now D P same alike few = record {
  alike = alike;
  few = λ nay. few;
  kept = λ yes. same ∙ yes;
  passed = λ yes. inl (sym same ∙ yes);
}
