-- What a request of one composite with nothing below it counts, and how many entries are listed.
use Rattle.std.proofs.Common.{◌≡◌, ◌≤◌, ◌+◌, ℕ, Bool, true, false, cond, List, [], ◌∷◌, None, Some}
use Rattle.std.proofs.Common.{length, min, refl, sym, ap, ◌∙◌, subst, arith}
use Rattle.std.specs.Cmp.{IsEquivalence}
use Rattle.std.specs.Prelude.{if◌then◌else◌, option_map}
use Rattle.std.specs.BTreeMap.{is_at}
use Rattle.std.specs.List.{filter, flat_map, sum_by}
use Rattle.std.specs.Map.{keys_of}
use Rattle.std.proofs.lemmas.Cmp.{eq_by_cmp_equiv}
use Rattle.std.proofs.lemmas.List.{length-map, length-take}
use Rattle.std.proofs.lemmas.Map.Entries.{length-keys_of}
use Rattle.std.proofs.lemmas.Map.Keys.{IsDistinct-from_sorted}
use Rattle.agg_values.specs.KeyOrder.{SourceRules, tuple_order}
use Rattle.agg_values.specs.Names.{Named, name_cmp}
use Rattle.agg_values.specs.Tuple.{KeyTuple}
use Rattle.agg_values.specs.declared.after_key.AfterKey.{AfterKey}
use Rattle.agg_values.proofs.TupleOrder.{tuple_order-total}
use Rattle.agg_segment.specs.storage.Document.{Fields}
use Rattle.agg_segment.specs.Query.{matches}
use Rattle.agg_segment.specs.Segment.{Stored, documents_at}
use Rattle.agg_segment.specs.declared.query.QueryTree.{QueryTree}
use Rattle.agg_request_tree.specs.Groups.{Group, Groups}
use Rattle.agg_request_tree.specs.Occurrences.{bound_of, past_occurrences, same_tuple}
use Rattle.agg_request_tree.specs.Request.{agg_of, below_of}
use Rattle.agg_request_tree.specs.Source.{rules_of}
use Rattle.agg_request_tree.specs.declared.aggregation.Aggregation.{Aggregation}
use Rattle.agg_request_tree.specs.declared.aggregation.AggregationVariants.TheVariants as asks
use Rattle.agg_request_tree.specs.declared.aggregation.CompositeAggregation.{CompositeAggregation}
use Rattle.agg_request_tree.proofs.OccurrencesLength.{past-fewer}
use Rattle.agg_request_tree.proofs.UncutLength.{length-counted}
use Rattle.agg_request_tree.specs.charges.Distinct.{distinct}
use Rattle.agg_request_tree.specs.charges.Roof.{composite_counts, counts, counts_by, counts_of}
use Rattle.agg_request_tree.specs.charges.Roof.{has_room, over_tuples, own_bytes, past_tuples}
use Rattle.agg_request_tree.specs.charges.Roof.{together}
use Rattle.agg_request_tree.specs.charges.Roof.Height.{High, Low}
use Rattle.agg_request_tree.proofs.lemmas.charges.CountsOut.{counts-out}
use Rattle.agg_request_tree.proofs.lemmas.charges.Distinct.{Apart-distinct}
use Rattle.agg_request_tree.proofs.lemmas.charges.KeySums.{sum_by-other_keys}
use Rattle.agg_request_tree.proofs.lemmas.charges.Sums.{sum_by-constant, sum_by-none}
use Rattle.agg_composite.specs.accessor.Encoding.{EncodedTuple}
use Rattle.agg_composite.specs.declared.accessor.request_data.CompositeAggReqData.{
  CompositeAggReqData,
}
use Rattle.agg_composite.specs.buckets.Page.{Page}
use Rattle.agg_composite.specs.Listing.{IsLowest, past_of}
use Rattle.agg_composite.specs.PageEntries.{entry_group, entry_of, page_entries}
use Rattle.agg_engine_tree.specs.collector_tree.Counting.{counted_of, own_counted}
use Rattle.agg_engine_tree.proofs.lemmas.collector_tree.MostVisits.{counted_in-out, counted_of-more}
use Rattle.agg_engine.specs.snapshot_results.Steps.{past_named, past_own}

-- ---- a request of one composite

module _ (name : List ℕ) (a : Aggregation QueryTree) (asked : CompositeAggregation)
    (agg : agg_of a ≡ asks.Composite asked) (below : below_of a ≡ []) where
  -- it counts what a composite does over nothing below it
  counts-alone : counts matches a ≡ composite_counts asked (together [])
  counts-alone =
      counts-out matches a ∙ (λ i. counts_by matches (agg i) (counts_of matches (below i)))

  -- with room for its tuples or without, nothing is added to its own buckets
  none-below : (documents : List Fields)
      → own_bytes asked documents
      + (if has_room asked documents then over_tuples asked (λ d. 0) documents else 0)
      ≡ own_bytes asked documents
  none-below documents =
      by_room (has_room asked documents) (sum_by-none (past_tuples asked documents))
    where
      by_room : {own sum : ℕ} (room : Bool) → sum ≡ 0 → own + (if room then sum else 0) ≡ own
      by_room true none = omega (arith, none)
      by_room false none = omega arith

  -- the bytes are those of its own buckets
  pub leaf-bytes : (documents : List Fields)
      → counts_of matches ((name, a) ∷ []) High documents ≡ own_bytes asked documents
  leaf-bytes documents =
      omega (arith, ap (λ c. c High documents) counts-alone, none-below documents)

  -- the low bytes are those of its own buckets
  pub leaf-low_bytes : (documents : List Fields)
      → counts_of matches ((name, a) ∷ []) Low documents ≡ own_bytes asked documents
  leaf-low_bytes documents =
      omega (arith, ap (λ c. c Low documents) counts-alone, none-below documents)

  -- its occurrences past its bound
  abbrev past : List Fields → List KeyTuple
  past = past_occurrences asked.sources (bound_of asked.sources asked.after)

  -- it counts at least those
  pub leaf-counted : (documents : List Fields)
      → length (past documents) ≤ counted_of matches ((name, a) ∷ []) documents
  leaf-counted documents = omega (
    arith,
    past-fewer asked.sources (bound_of asked.sources asked.after) documents,
    length-counted asked documents,
    ap (λ q. own_counted q documents) agg,
    counted_in-out a documents,
    counted_of-more name a [] documents,
  )

  -- under any name, its own or another, there are no more than those
  pub leaf-past : (documents : List Fields) (other : List ℕ)
      → past_named other ((name, a) ∷ []) documents ≤ length (past documents)
  leaf-past documents other = by (is_at (name_cmp other) name)
    where
      by : (b : Bool) → past_own (option_map (λ (x : Aggregation QueryTree). agg_of x)
          (cond b (Some a) None)) documents ≤ length (past documents)
      by true = omega (arith, ap (λ q. past_own (Some q) documents) agg)
      by false = omega arith

-- ---- groups

-- a list is what passes of itself, where all does
all-pass : {X : Type 0} (xs : List X) → filter (λ x. true) (flat_map (λ x. x ∷ []) xs) ≡ xs
all-pass [] = refl
all-pass (x ∷ xs) = ap (λ ys. x ∷ ys) (all-pass xs)

-- the groups of occurrences are as many as their distinct tuples
pub groups-many : (rules : SourceRules) (tuples : List KeyTuple) (groups : List Group)
    → Groups rules tuples groups → length groups ≡ length (distinct (same_tuple rules) tuples)
groups-many rules tuples groups are =
    let laws : IsEquivalence (same_tuple rules) = eq_by_cmp_equiv (tuple_order-total rules) in
    let each : Groups rules (filter (λ t. true) (flat_map (λ t. t ∷ []) tuples)) groups =
    subst (λ ts. Groups rules ts groups) (sym (all-pass tuples)) are in
    omega (
      arith,
      length-keys_of groups,
      sum_by-constant 1 (keys_of groups),
      sum_by-other_keys (same_tuple rules) laws (λ t. t ∷ []) (λ t. true) (λ t. 1)
          (λ t u is. refl) tuples (keys_of groups)
          (Apart-distinct (same_tuple rules) laws (keys_of groups)
          (IsDistinct-from_sorted (tuple_order rules) (keys_of groups) are.ascending))
          each.occurring each.complete,
      ap (λ ts. sum_by (λ t. 1) (distinct (same_tuple rules) ts)) (all-pass tuples),
      sum_by-constant 1 (distinct (same_tuple rules) tuples),
    )

-- the entries of a listed page are as many as the tuples, up to as many as there is room for
pub listed-many : (segment : Stored) (after : Named AfterKey) (req : CompositeAggReqData)
    (docs : List ℕ) (entries : Page EncodedTuple) (asked : CompositeAggregation)
    → req.req.now.sources ≡ asked.sources → req.size ≡ asked.size → after ≡ asked.after
    → IsLowest segment after req docs entries
    → length entries ≡ min asked.size (length (past_tuples asked (documents_at segment docs)))
listed-many segment after req docs entries asked sources size same_after listed =
    sym (length-map entries (entry_of req))
    ∙ sym (length-map (page_entries req entries) entry_group)
    ∙ ap length listed.lowest
    ∙ length-take req.size listed.groups
    ∙ ap (min req.size)
    (groups-many (rules_of req.req.now.sources) (past_of segment after req docs) listed.groups
    listed.are)
    ∙ (λ i. min (size i) (length (past_tuples
    (record { sources = sources i; size = size i; after = same_after i })
    (documents_at segment docs))))
