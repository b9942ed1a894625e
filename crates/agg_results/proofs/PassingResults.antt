-- A count or sum of what stands for documents is too large only where a node lists many.
use Rattle.std.proofs.Common.{ℕ, zero, suc, ◌≤◌, ◌^◌, ◌⊎◌, inl, inr, List, ◌∷◌, ◌++◌, Bool}
use Rattle.std.proofs.Common.{Some, length, refl, sym, subst}
use Rattle.std.specs.List.{All, AllByRecursion}
use Rattle.std.proofs.lemmas.List.Elements.{recursion_from_All}
use Rattle.agg_segment.specs.storage.Document.{Fields}
use Rattle.agg_request_tree.specs.Metrics.{numbers_of}
use Rattle.agg_request_tree.specs.Request.{Request, agg_of, below_of, listed_in, listed_of}
use Rattle.agg_request_tree.specs.Uncut.{ListsAsMany, uncut, uncut_lists, uncut_lists_of}
use Rattle.agg_request_tree.specs.declared.aggregation.Aggregation.{Aggregation}
use Rattle.agg_request_tree.proofs.Lists.{AllByRecursion-weaker, Contains-from_Has, Has}
use Rattle.agg_request_tree.proofs.Lists.{Has-flat_map, Has-from_Contains}
use Rattle.agg_request_tree.proofs.RequestTrees.{listed-out}
use Rattle.agg_request_tree.proofs.UncutLists.{uncut_lists-out}
use Rattle.agg_results.specs.intermediate_results.Intermediate.{Held, parts_of}
use Rattle.agg_results.specs.intermediate_results.Merging.{CountsPass, PassWithin, SomeOfBoth}
use Rattle.agg_results.specs.declared.intermediate_results as declared
use declared.results.IntermediateAggregationResult.{IntermediateAggregationResult}
use Rattle.agg_results.proofs.AddedNumbers.{AddsSmallNumbers, own_added_field}
use Rattle.agg_results.specs.StandsFor.{IsPart, NamesStand, StandsFor, StandsTo}
use Rattle.agg_results.proofs.FitDocuments.{IsFit, all-left, all-part, all-right}
use Rattle.agg_results.proofs.FitDocuments.{fit-from_numbers}
use Rattle.agg_results.proofs.Parts.{part-itself}
use Rattle.agg_results.proofs.PassingCounts.{parts-few}
use Rattle.agg_results.proofs.SmallSums.{IsSmall}
use Rattle.agg_results.proofs.StandingResults.{held-entry, held-stands}
use Rattle.agg_results.proofs.UncutParts.{uncut-all}

abbrev Result : Type 0
Result = IntermediateAggregationResult

-- one of these lists has 2^62 places or more
abbrev HasLong : List (List Fields) → Type 0
HasLong lists = (list : List Fields) × Has list lists × (2 ^ 62 ≤ length list)

module _ {B : Type 0} (is_match : B → Fields → Bool) (In : List ℕ → Type 0) where
  abbrev Names : ℕ → Request B → List Fields → Held → Type 0
  Names depth = NamesStand is_match (StandsTo is_match depth)

  -- where sums of two results of such an aggregation pass, it lists many
  abbrev FewOf : (Result → Result → Type 0) → ℕ → Type 0
  FewOf Pass depth =
      (a : Aggregation B) (ds es whole : List Fields) (r o : Result) → IsPart (ds ++ es) whole
      → AllByRecursion (IsFit In) whole → AllByRecursion In (listed_in own_added_field a)
      → StandsTo is_match depth a ds (Some r) → StandsTo is_match depth a es (Some o)
      → Pass r o → HasLong (uncut_lists is_match a whole)

  -- some aggregation of a request lists many, where sums of two results of some name pass
  names-few : (Pass : Result → Result → Type 0) (depth : ℕ) → FewOf Pass depth
      → (request : Request B) (whole : List Fields) → AllByRecursion (IsFit In) whole
      → AllByRecursion In (listed_of own_added_field request)
      → (ds es : List Fields) (held more : Held) → IsPart (ds ++ es) whole
      → Names depth request ds held → Names depth request es more
      → SomeOfBoth Pass held more → HasLong (uncut_lists_of is_match request whole)
  names-few Pass depth few request whole fit adds ds es held more part a b
      (name, r, o, at_r, at_o, told) =
      let e = held-entry is_match (StandsTo is_match depth) request ds held a name r at_r in
      let t = held-stands is_match (StandsTo is_match depth) request es more b e.0 name o e.1 e.2
      at_o in
      let has = Has-from_Contains request e.0 e.1 in
      let long = few e.0.1 ds es whole r o part fit
      (all-part In (λ (a : List ℕ × Aggregation B). listed_in own_added_field a.1) request e.0 has
      adds) e.3 t told in (
        long.0,
        Has-flat_map (λ (a : List ℕ × Aggregation B). uncut_lists is_match a.1 whole) request e.0
            long.0 has long.1,
        long.2,
      )

  -- the lists of an aggregation are its own and those below it
  long-out : (a : Aggregation B) (whole : List Fields)
      → (2 ^ 62 ≤ length (uncut is_match (agg_of a) whole))
      ⊎ HasLong (uncut_lists_of is_match (below_of a) (uncut is_match (agg_of a) whole))
      → HasLong (uncut_lists is_match a whole)
  long-out a whole here =
      subst HasLong (sym (uncut_lists-out is_match a whole)) (by here)
    where
      by : (2 ^ 62 ≤ length (uncut is_match (agg_of a) whole))
          ⊎ HasLong (uncut_lists_of is_match (below_of a) (uncut is_match (agg_of a) whole))
          → HasLong (uncut is_match (agg_of a) whole
          ∷ uncut_lists_of is_match (below_of a) (uncut is_match (agg_of a) whole))
      by (inl long) = (uncut is_match (agg_of a) whole, inl refl, long)
      by (inr (list, has, long)) = (list, inr has, long)

  result-few : (depth : ℕ) → FewOf (PassWithin depth) depth
  result-few zero a ds es whole r o part fit adds s t pass = absurd pass
  result-few (suc depth) a ds es whole r o part fit adds s t pass =
      let own = own_added_field (agg_of a) in
      let below = listed_of own_added_field (below_of a) in
      let added = subst (AllByRecursion In) (listed-out own_added_field a) adds in
      long-out a whole
      (parts-few is_match In ds es whole part (Names depth) (SomeOfBoth (PassWithin depth))
      (λ listed. HasLong (uncut_lists_of is_match (below_of a) listed)) (below_of a) (agg_of a)
      (parts_of r) (parts_of o)
      (names-few (PassWithin depth) depth (result-few depth) (below_of a)
      (uncut is_match (agg_of a) whole) (uncut-all is_match (agg_of a) (IsFit In) whole fit)
      (all-right In own below added))
      fit (all-left In own below added) s t pass)

module _ {B : Type 0} (is_match : B → Fields → Bool) (request : Request B)
    (documents others : List Fields) where
  -- the numbers of a field are small in all documents
  abbrev HasSmall : List ℕ → Type 0
  HasSmall field = AllByRecursion IsSmall (numbers_of field (documents ++ others))

  pub StandsFor-few : (held more : Held) → AddsSmallNumbers request (documents ++ others)
      → StandsFor is_match request documents held → StandsFor is_match request others more
      → SomeOfBoth CountsPass held more
      → ListsAsMany is_match (2 ^ 62) request (documents ++ others)
  StandsFor-few held more small a b (name, r, o, at_r, at_o, (depth, told)) =
      let fields = listed_of own_added_field request in
      let adds = AllByRecursion-weaker
      (λ field. All IsSmall (numbers_of field (documents ++ others))) HasSmall
      (λ field. recursion_from_All IsSmall (numbers_of field (documents ++ others))) fields
      (recursion_from_All (λ field. All IsSmall (numbers_of field (documents ++ others))) fields
      small) in
      let long = names-few is_match HasSmall (PassWithin depth) depth
      (result-few is_match HasSmall depth) request (documents ++ others)
      (fit-from_numbers HasSmall (documents ++ others) (λ field all. all)) adds documents others
      held more (part-itself (documents ++ others)) (a depth) (b depth)
      (name, r, o, at_r, at_o, told) in
      let c = Contains-from_Has (uncut_lists_of is_match request (documents ++ others)) long.0
      long.1 in
      (c.0, long.0, c.1, c.2, long.2)
