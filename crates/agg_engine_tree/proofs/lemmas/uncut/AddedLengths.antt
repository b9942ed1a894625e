-- Lengths of what the aggregations of a request list, by weights.
use Rattle.std.proofs.Common.{◌≡◌, ℕ, ◌+◌, List, [], ◌∷◌, ◌++◌, length, map, fold, sym, ap, ◌∙◌}
use Rattle.std.proofs.Common.{arith, append_assoc, append-nil}
use Rattle.std.specs.Io.Iter.{u64_saturate}
use Rattle.std.proofs.lemmas.List.{map-append}
use Rattle.std.proofs.lemmas.List.Concat.{flat_map-append}
use Rattle.agg_segment.specs.storage.Document.{Fields}
use Rattle.agg_segment.specs.Query.{matches}
use Rattle.agg_segment.specs.declared.query.QueryTree.{QueryTree}
use Rattle.agg_request_tree.specs.Request.{Request, agg_of, below_of}
use Rattle.agg_request_tree.specs.Uncut.{uncut, uncut_lists, uncut_lists_of}
use Rattle.agg_request_tree.specs.declared.aggregation.Aggregation.{Aggregation}
use Rattle.agg_request_tree.proofs.UncutLists.{uncut_lists-out}
use Rattle.agg_engine_tree.specs.uncut.Uncut.{AddsLengths, lengths_of, repeated, own_weights}
use Rattle.agg_engine_tree.proofs.lemmas.uncut.CutNumbers.{cut-total}
use Rattle.agg_engine_tree.proofs.lemmas.uncut.WeighedLists.{length-repeated, length-own_weights}
use Rattle.agg_engine_tree.proofs.lemmas.uncut.WeighedLists.{uncut-repeated}

-- lengths end to end
pub lengths-append : (lists others : List (List Fields))
    → lengths_of (lists ++ others) ≡ lengths_of lists ++ lengths_of others
lengths-append lists others =
    ap (map u64_saturate) (map-append length lists others)
    ∙ map-append u64_saturate (map length lists) (map length others)

module _ (documents : List Fields) (weights : List ℕ) where
  -- no lengths
  pub adds-none : (counts : List ℕ)
      → AddsLengths (uncut_lists_of matches []) documents weights counts counts
  adds-none counts = record { adds = λ exact long cut. sym (append-nil counts) }

  -- those of a request, and then those of one more aggregation
  pub adds-more : (request more : Request QueryTree) (a : List ℕ × Aggregation QueryTree)
      (before mid after : List ℕ)
      → AddsLengths (uncut_lists_of matches request) documents weights before mid
      → AddsLengths (uncut_lists matches a.1) documents weights mid after
      → more ≡ request ++ a ∷ []
      → AddsLengths (uncut_lists_of matches more) documents weights before after
  adds-more request more a before mid after first then is = record {
    adds = λ exact long cut.
        let listed = repeated exact documents in
        let lists = uncut_lists_of matches request listed in
        let own = uncut_lists matches a.1 listed in
        then.adds exact long cut ∙ ap (λ ns. ns ++ lengths_of own) (first.adds exact long cut)
        ∙ append_assoc before (lengths_of lists) (lengths_of own)
        ∙ ap (λ ns. before ++ ns) (sym (lengths-append lists own)
        ∙ ap (λ ls. lengths_of (lists ++ ls)) (sym (append-nil own))
        ∙ ap lengths_of (sym (flat_map-append
        (λ (b : List ℕ × Aggregation QueryTree). uncut_lists matches b.1 listed) request (a ∷ [])))
        ∙ ap (λ (r : Request QueryTree). lengths_of (uncut_lists_of matches r listed)) (sym is));
  }

  -- that of an aggregation with none below it
  pub adds-leaf : (a : Aggregation QueryTree) (count : ℕ) (before after : List ℕ)
      → below_of a ≡ []
      → ((exact : List ℕ) → length exact ≡ length documents → weights ≡ map u64_saturate exact
      → count ≡ u64_saturate (length (uncut matches (agg_of a) (repeated exact documents))))
      → after ≡ before ++ count ∷ []
      → AddsLengths (uncut_lists matches a) documents weights before after
  adds-leaf a count before after none counted is = record {
    adds = λ exact long cut.
        let listed = repeated exact documents in
        let own = uncut matches (agg_of a) listed in
        is ∙ ap (λ n. before ++ n ∷ []) (counted exact long cut)
        ∙ ap (λ ns. before ++ u64_saturate (length own) ∷ ns)
        (ap (λ (r : Request QueryTree). lengths_of (uncut_lists_of matches r own)) (sym none))
        ∙ ap (λ ls. before ++ lengths_of ls) (sym (uncut_lists-out matches a listed));
  }

  -- that of an aggregation, by its own weights, and then those below it
  pub adds-inner : (a : Aggregation QueryTree) (own : List ℕ) (count : ℕ)
      (before mid after : List ℕ)
      → ((exact : List ℕ) → length exact ≡ length documents → weights ≡ map u64_saturate exact
      → own ≡ map u64_saturate (own_weights (agg_of a) exact documents))
      → count ≡ fold (λ s n. u64_saturate (s + n)) 0 own
      → mid ≡ before ++ count ∷ []
      → AddsLengths (uncut_lists_of matches (below_of a)) documents own mid after
      → AddsLengths (uncut_lists matches a) documents weights before after
  adds-inner a own count before mid after weighed total is below = record {
    adds = λ exact long cut.
        let listed = uncut matches (agg_of a) (repeated exact documents) in
        let all = own_weights (agg_of a) exact documents in
        let own_cut = weighed exact long cut in
        let as_many = length-own_weights (agg_of a) exact documents long in
        let repeats = uncut-repeated (agg_of a) exact documents in
        let count_cut : count ≡ u64_saturate (length listed) =
        total ∙ ap (λ ns. fold (λ s n. u64_saturate (s + n)) 0 ns) own_cut ∙ cut-total 0 all
        ∙ ap u64_saturate (omega arith)
        ∙ ap u64_saturate (sym (length-repeated all documents as_many) ∙ ap length (sym repeats)) in
        let rest = lengths_of (uncut_lists_of matches (below_of a) listed) in
        below.adds all as_many own_cut
        ∙ ap (λ ds. mid ++ lengths_of (uncut_lists_of matches (below_of a) ds)) (sym repeats)
        ∙ ap (λ ns. ns ++ rest) (is ∙ ap (λ n. before ++ n ∷ []) count_cut)
        ∙ append_assoc before (u64_saturate (length listed) ∷ []) rest
        ∙ ap (λ ls. before ++ lengths_of ls)
        (sym (uncut_lists-out matches a (repeated exact documents)));
  }
