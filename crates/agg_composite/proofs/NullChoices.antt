-- Choices where a source may have no value: Null where it has a bucket for missing ones.
use Rattle.std.proofs.Common.{◌≡◌, ◌≢◌, ℕ, List, [], ◌∷◌, ◌++◌, Bool, length, length-append, refl}
use Rattle.std.proofs.Common.{sym, ap, ◌∙◌, subst, inl, arith, true, false}
use Rattle.std.proofs.lemmas.List.{append-nil}
use Rattle.agg_values.specs.TypedKey.{CompositeIntermediateKey}
use Rattle.agg_request_tree.specs.Source.{or_missing}
use Rattle.agg_request_tree.specs.declared.source.CompositeAggregationSource as kind
use kind.{CompositeAggregationSource}
use Rattle.agg_composite.specs.declared.accessor.accessor.CompositeSourceAccessors.{
  CompositeSourceAccessors,
}
use Rattle.agg_composite.specs.Choices.{AddsChoices, AreChoicesOf, null_choice}
use Rattle.agg_composite.specs.declared.walk.choice.Choice.{Choice}

module _ (source : CompositeAggregationSource) (a : CompositeSourceAccessors) (doc : ℕ)
    (b : Bool) (before now : List Choice) where
  some-chosen : (keys : List CompositeIntermediateKey) (own : List Choice) → now ≡ before ++ own
      → AreChoicesOf source a own keys → (length now ≢ length before)
      → AreChoicesOf source a own (or_missing b keys)
  some-chosen keys [] e p n = absurd (n (ap length e ∙ ap length (append-nil before)))
  some-chosen [] (c ∷ own) e p n = absurd p
  some-chosen (k ∷ keys) (c ∷ own) e p n = p

  -- some values
  pub values-chosen : (keys : List CompositeIntermediateKey)
      → AddsChoices source a doc keys before now → (length now ≢ length before)
      → AddsChoices source a doc (or_missing b keys) before now
  values-chosen keys p n = (p.0, p.1, λ can. some-chosen keys p.0 p.1 (p.2 can) n)

  none-chosen : (keys : List CompositeIntermediateKey) (own : List Choice) → now ≡ before ++ own
      → AreChoicesOf source a own keys → length now ≡ length before → keys ≡ []
  none-chosen [] own e p same = refl
  none-chosen (k ∷ keys) [] e p same = absurd p
  none-chosen (k ∷ keys) (c ∷ own) e p same =
      let long = ap length e ∙ length-append before (c ∷ own) in absurd (omega (arith, long, same))

  same-choices : (own : List Choice) → now ≡ before ++ own → length now ≡ length before
      → now ≡ before
  same-choices [] e same = e ∙ append-nil before
  same-choices (c ∷ own) e same =
      let long = ap length e ∙ length-append before (c ∷ own) in absurd (omega (arith, long, same))

  -- no value, and no bucket for a missing one
  pub nothing-chosen : (keys : List CompositeIntermediateKey)
      → AddsChoices source a doc keys before now → length now ≡ length before → b ≡ false
      → AddsChoices source a doc (or_missing b keys) before now
  nothing-chosen keys p same none = (
    p.0,
    p.1,
    λ can.
        let empty = none-chosen keys p.0 p.1 (p.2 can) same in
        subst (AreChoicesOf source a p.0)
        (empty ∙ sym ((λ i. or_missing (none i) (empty i)))) (p.2 can),
  )

  -- no value, and Null for a missing one
  pub null-chosen : (keys : List CompositeIntermediateKey) (null : Choice) (then : List Choice)
      → AddsChoices source a doc keys before now → length now ≡ length before → b ≡ true
      → null ≡ null_choice source a → then ≡ now ++ null ∷ []
      → AddsChoices source a doc (or_missing b keys) before then
  null-chosen keys null then p same some is e = (
    null ∷ [],
    e ∙ ap (λ cs. cs ++ null ∷ []) (same-choices p.0 p.1 same),
    λ can.
        let empty = none-chosen keys p.0 p.1 (p.2 can) same in
        subst (AreChoicesOf source a (null ∷ []))
        (sym (λ i. or_missing (some i) (empty i))) (inl (is, refl), tt),
  )
