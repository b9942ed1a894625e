-- What is told of two results at some depth, from what is told of their parts.
use Rattle.std.proofs.Common.{ℕ, zero, suc, inl, inr, List, Bool, Ordering}
use Rattle.agg_values.specs.Tuple.{KeyTuple}
use Rattle.agg_results.specs.metric_results.Merges.{Merges}
use Rattle.agg_results.proofs.lemmas.metric_results.Outcomes.{merges-as}
use Rattle.agg_results.specs.intermediate_results.Intermediate.{Parts, composite, metric, parts_of}
use Rattle.agg_results.specs.intermediate_results.Intermediate as held
use Rattle.agg_results.specs.intermediate_results.Merging.{CountsPass, DifferWithin, IsMerged}
use Rattle.agg_results.specs.intermediate_results.Merging.{JoinNames, MergedTo, PartsDiffer}
use Rattle.agg_results.specs.intermediate_results.Merging.{PartsMerged, PartsPass, PassWithin}
use Rattle.agg_results.specs.intermediate_results.Merging.{ShapesDiffer, SomeOfBoth, SomeTied}
use Rattle.agg_results.specs.declared.intermediate_results as intermediate
use intermediate.results.IntermediateAggregationResult.{IntermediateAggregationResult}

module _ (r o : IntermediateAggregationResult) where
  raise-tied : {T : Type 0} (R : KeyTuple → KeyTuple → Ordering) (A B : T → T → Type 0)
      (es fs : List (KeyTuple × T)) → ((e f : T) → A e f → B e f) → SomeTied R A es fs
      → SomeTied R B es fs
  raise-tied R A B es fs raise (e, f, in_left, in_right, tied, told) =
      (e, f, in_left, in_right, tied, raise e.1 f.1 told)

  differ-in : (p q : Parts) → PartsDiffer (SomeOfBoth ShapesDiffer) p q
      → (depth : ℕ) × PartsDiffer (SomeOfBoth (DifferWithin depth)) p q
  differ-in (metric m) (metric n) h = (0, h)
  differ-in (held.filter m h1) (held.filter n h2) (name, a, b, at_a, at_b, (depth, told)) =
      (depth, (name, a, b, at_a, at_b, told))
  differ-in (composite c) (composite d) (some, other, inl pages) = (0, (some, other, inl pages))
  differ-in (composite c) (composite d)
      (some, other, inr (e, f, in_c, in_d, tied, (name, a, b, at_a, at_b, (depth, told)))) =
      (depth, (some, other, inr (e, f, in_c, in_d, tied, (name, a, b, at_a, at_b, told))))
  differ-in (metric m) (held.filter n h2) h = (0, tt)
  differ-in (metric m) (composite d) h = (0, tt)
  differ-in (held.filter m h1) (metric n) h = (0, tt)
  differ-in (held.filter m h1) (composite d) h = (0, tt)
  differ-in (composite c) (metric n) h = (0, tt)
  differ-in (composite c) (held.filter n h2) h = (0, tt)

  -- parts that differ are of results that differ
  pub differ-from_parts : PartsDiffer (SomeOfBoth ShapesDiffer) (parts_of r) (parts_of o)
      → ShapesDiffer r o
  differ-from_parts h =
      let at = differ-in (parts_of r) (parts_of o) h in
      (suc at.0, at.1)

  differ-out : (depth : ℕ) (p q : Parts) → PartsDiffer (SomeOfBoth (DifferWithin depth)) p q
      → PartsDiffer (SomeOfBoth ShapesDiffer) p q
  differ-out depth (metric m) (metric n) h = h
  differ-out depth (held.filter m h1) (held.filter n h2) (name, a, b, at_a, at_b, told) =
      (name, a, b, at_a, at_b, (depth, told))
  differ-out depth (composite c) (composite d) (some, other, inl pages) = (some, other, inl pages)
  differ-out depth (composite c) (composite d)
      (some, other, inr (e, f, in_c, in_d, tied, (name, a, b, at_a, at_b, told))) =
      (some, other, inr (e, f, in_c, in_d, tied, (name, a, b, at_a, at_b, (depth, told))))
  differ-out depth (metric m) (held.filter n h2) h = tt
  differ-out depth (metric m) (composite d) h = tt
  differ-out depth (held.filter m h1) (metric n) h = tt
  differ-out depth (held.filter m h1) (composite d) h = tt
  differ-out depth (composite c) (metric n) h = tt
  differ-out depth (composite c) (held.filter n h2) h = tt

  pub parts-from_differ : ShapesDiffer r o
      → PartsDiffer (SomeOfBoth ShapesDiffer) (parts_of r) (parts_of o)
  parts-from_differ (zero, h) = absurd h
  parts-from_differ (suc depth, h) = differ-out depth (parts_of r) (parts_of o) h

  pass-in : (p q : Parts) → PartsPass (SomeOfBoth CountsPass) p q
      → (depth : ℕ) × PartsPass (SomeOfBoth (PassWithin depth)) p q
  pass-in (metric m) (metric n) h = (0, h)
  pass-in (held.filter m h1) (held.filter n h2) (inl many) = (0, inl many)
  pass-in (held.filter m h1) (held.filter n h2) (inr (name, a, b, at_a, at_b, (depth, told))) =
      (depth, inr (name, a, b, at_a, at_b, told))
  pass-in (composite c) (composite d) (some, other, (e, f, in_c, in_d, tied, inl many)) =
      (0, (some, other, (e, f, in_c, in_d, tied, inl many)))
  pass-in (composite c) (composite d)
      (some, other, (e, f, in_c, in_d, tied, inr (name, a, b, at_a, at_b, (depth, told)))) =
      (depth, (some, other, (e, f, in_c, in_d, tied, inr (name, a, b, at_a, at_b, told))))
  pass-in (metric m) (held.filter n h2) h = absurd h
  pass-in (metric m) (composite d) h = absurd h
  pass-in (held.filter m h1) (metric n) h = absurd h
  pass-in (held.filter m h1) (composite d) h = absurd h
  pass-in (composite c) (metric n) h = absurd h
  pass-in (composite c) (held.filter n h2) h = absurd h

  pub pass-from_parts : PartsPass (SomeOfBoth CountsPass) (parts_of r) (parts_of o)
      → CountsPass r o
  pass-from_parts h =
      let at = pass-in (parts_of r) (parts_of o) h in
      (suc at.0, at.1)

  pass-out : (depth : ℕ) (p q : Parts) → PartsPass (SomeOfBoth (PassWithin depth)) p q
      → PartsPass (SomeOfBoth CountsPass) p q
  pass-out depth (metric m) (metric n) h = h
  pass-out depth (held.filter m h1) (held.filter n h2) (inl many) = inl many
  pass-out depth (held.filter m h1) (held.filter n h2) (inr (name, a, b, at_a, at_b, told)) =
      inr (name, a, b, at_a, at_b, (depth, told))
  pass-out depth (composite c) (composite d) (some, other, (e, f, in_c, in_d, tied, inl many)) =
      (some, other, (e, f, in_c, in_d, tied, inl many))
  pass-out depth (composite c) (composite d)
      (some, other, (e, f, in_c, in_d, tied, inr (name, a, b, at_a, at_b, told))) =
      (some, other, (e, f, in_c, in_d, tied, inr (name, a, b, at_a, at_b, (depth, told))))
  pass-out depth (metric m) (held.filter n h2) h = absurd h
  pass-out depth (metric m) (composite d) h = absurd h
  pass-out depth (held.filter m h1) (metric n) h = absurd h
  pass-out depth (held.filter m h1) (composite d) h = absurd h
  pass-out depth (composite c) (metric n) h = absurd h
  pass-out depth (composite c) (held.filter n h2) h = absurd h

  pub parts-from_pass : CountsPass r o
      → PartsPass (SomeOfBoth CountsPass) (parts_of r) (parts_of o)
  parts-from_pass (zero, h) = absurd h
  parts-from_pass (suc depth, h) = pass-out depth (parts_of r) (parts_of o) h

  -- what merging did to parts it did to the results
  pub merges-from_parts : (was now : Bool)
      → Merges was now (PartsDiffer (SomeOfBoth ShapesDiffer) (parts_of r) (parts_of o))
      (PartsPass (SomeOfBoth CountsPass) (parts_of r) (parts_of o))
      → Merges was now (ShapesDiffer r o) (CountsPass r o)
  merges-from_parts was now is =
      merges-as was now _ _ _ _ parts-from_differ parts-from_pass pass-from_parts is

  pub merged-from_parts : (w : IntermediateAggregationResult)
      → ((depth : ℕ) → PartsMerged (JoinNames (MergedTo depth)) (parts_of r) (parts_of o)
      (parts_of w))
      → IsMerged r o w
  merged-from_parts w h zero = tt
  merged-from_parts w h (suc depth) = h depth
