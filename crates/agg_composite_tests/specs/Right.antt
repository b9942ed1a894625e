-- Collectors that are right for some visits.
use Rattle.std.specs.Prelude.{ℕ, List}
use Rattle.agg_composite.specs.declared.accessor.request_data.CompositeAggReqData.{
  CompositeAggReqData,
}
use Rattle.agg_composite.specs.Composite.{Composite, CompositeFor}
use Rattle.agg_composite.specs.Visits.{TypedVisit}

-- a collector is right for some visits and for what it gave
abbrev pub IsRight : {C : Type 0} → (C → ℕ → List ℕ) → CompositeAggReqData → Composite C → Type 0
IsRight waiting req collector =
    (visited : List TypedVisit) × (given : List (ℕ × ℕ))
    × CompositeFor waiting req collector visited given
