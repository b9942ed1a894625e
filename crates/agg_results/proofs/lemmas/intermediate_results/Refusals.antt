-- What intermediate results may not hold, told entry by entry.
use Rattle.std.proofs.Common.{◌≡◌, ◌⊎◌, ℕ, zero, suc, List, None, Some, inl, inr}
use Rattle.std.proofs.Common.{sym, subst, ◌∙◌}
use Rattle.std.specs.List.{Any}
use Rattle.std.proofs.lemmas.Option.{none-some, same_Some}
use Rattle.agg_values.specs.Names.{value_of}
use Rattle.agg_values.proofs.NameOrder.{Ascends}
use Rattle.agg_request_tree.specs.Request.{Request, agg_of, below_of}
use Rattle.agg_request_tree.specs.declared.aggregation.Aggregation.{Aggregation}
use Rattle.agg_results.specs.intermediate_results.Intermediate.{Held, helds_below, parts_of}
use Rattle.agg_results.specs.intermediate_results.Refusals.{HoldsOther, HoldsUnknown}
use Rattle.agg_results.specs.intermediate_results.Refusals.{IsOther}
use Rattle.agg_results.specs.declared.intermediate_results.results.IntermediateAggregationResult
    as declared
use declared.{IntermediateAggregationResult}
use Rattle.agg_results.proofs.lemmas.intermediate_results.AskedNames.{IsToldAt, told-entry}
use Rattle.agg_results.proofs.lemmas.intermediate_results.AskedNames.{value-at}

abbrev Result : Type 0
Result = IntermediateAggregationResult

-- some of what is held below a result
abbrev pub AnyBelow : (Held → Type 0) → Result → Type 0
AnyBelow P r = Any P (helds_below (parts_of r))

module _ {B : Type 0} (request : Request B) where
  -- ---- names that aren't asked for

  -- such a name is held below
  abbrev pub UnknownBelow : Aggregation B → Result → Type 0
  UnknownBelow a r = AnyBelow (HoldsUnknown (below_of a)) r

  -- an entry has such a name, or one is held below it
  abbrev pub IsUnknownAt : List ℕ × Result → Type 0
  IsUnknownAt e = (value_of e.0 request ≡ None) ⊎ IsToldAt UnknownBelow request e

  -- such a name is an entry's
  pub unknown-entry : (held : Held) → HoldsUnknown request held → Any IsUnknownAt held
  unknown-entry held (zero, none) = absurd none
  unknown-entry held (suc depth, inl (k, e, within, at, none)) = (k, e, within, at, inl none)
  unknown-entry held (suc depth, inr (name, a, r, asked, found, (k, h, within, at, holds))) =
      let any = told-entry UnknownBelow request held
      (name, a, r, asked, found, (k, h, within, at, (depth, holds))) in
      (any.0, any.1, any.2, any.3, inr any.4)

  -- an entry's is one
  pub unknown-name : (held : Held) → Ascends held → Any IsUnknownAt held
      → HoldsUnknown request held
  unknown-name held ascends (k, e, within, at, inl none) = (1, inl (k, e, within, at, none))
  unknown-name held ascends
      (k, e, within, at, inr (a, asked, (j, h, inside, there, (depth, holds)))) = (
        suc depth,
        inr (
          e.0,
          a,
          e.1,
          asked,
          value-at held k e ascends within at,
          (j, h, inside, there, holds),
        ),
      )

  -- an entry whose name is asked for, with none below it
  pub asked-known : (e : List ℕ × Result) (a : Aggregation B) → value_of e.0 request ≡ Some a
      → ¬ (UnknownBelow a e.1) → ¬ (IsUnknownAt e)
  asked-known e a asked known (inl none) = let both = sym none ∙ asked in cc
  asked-known e a asked known (inr (b, found, below)) =
      known (subst (λ (x : Aggregation B). UnknownBelow x e.1) (same_Some b a (sym found ∙ asked))
      below)

  -- ---- results of another shape

  -- a result is of another shape, or one below it
  abbrev pub OtherHere : Aggregation B → Result → Type 0
  OtherHere a r = IsOther (agg_of a) (parts_of r) ⊎ AnyBelow (HoldsOther (below_of a)) r

  -- nothing is held under a name that isn't asked for
  pub unasked-alike : (e : List ℕ × Result) → None ≡ value_of e.0 request
      → ¬ (IsToldAt OtherHere request e)
  unasked-alike e none (b, found, other) = none-some b (none ∙ found)

  -- an entry of the shape that is asked for, with none of another below it
  pub asked-alike : (e : List ℕ × Result) (a : Aggregation B) → value_of e.0 request ≡ Some a
      → ¬ (IsOther (agg_of a) (parts_of e.1)) → ¬ (AnyBelow (HoldsOther (below_of a)) e.1)
      → ¬ (IsToldAt OtherHere request e)
  asked-alike e a asked alike below (b, found, other) =
      by (subst (λ (x : Aggregation B). OtherHere x e.1) (same_Some b a (sym found ∙ asked)) other)
    where
      by : OtherHere a e.1 → ⊥
      by (inl own) = alike own
      by (inr inside) = below inside

  -- such a result is an entry's
  pub other-entry : (held : Held) → HoldsOther request held → Any (IsToldAt OtherHere request) held
  other-entry held (zero, none) = absurd none
  other-entry held (suc depth, (name, a, r, asked, found, inl other)) =
      told-entry OtherHere request held (name, a, r, asked, found, inl other)
  other-entry held (suc depth, (name, a, r, asked, found, inr (k, h, within, at, holds))) =
      told-entry OtherHere request held
      (name, a, r, asked, found, inr (k, h, within, at, (depth, holds)))

  -- an entry's is one
  pub other-name : (held : Held) → Ascends held → Any (IsToldAt OtherHere request) held
      → HoldsOther request held
  other-name held ascends (k, e, within, at, (a, asked, inl other)) =
      (1, (e.0, a, e.1, asked, value-at held k e ascends within at, inl other))
  other-name held ascends (k, e, within, at, (a, asked, inr (j, h, low, is, (depth, holds)))) = (
    suc depth,
    (
      e.0,
      a,
      e.1,
      asked,
      value-at held k e ascends within at,
      inr (j, h, low, is, holds),
    ),
  )
