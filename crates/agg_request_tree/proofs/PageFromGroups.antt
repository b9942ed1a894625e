-- The lowest groups of all past occurrences are a page.
use Rattle.std.proofs.Common.{◌≡◌, ℕ, zero, suc, ◌⊎◌, inl, inr, true, ◌&&◌, ◌||◌, List, []}
use Rattle.std.proofs.Common.{◌∷◌, ◌<◌, length, get_or, take, map, refl, sym, ap, ◌∙◌, subst}
use Rattle.std.proofs.Common.{arith, rules, Ordering, Less, Equal, Greater, is_eq, is_lt, ltb}
use Rattle.std.specs.List.{All, Contains, filter, count_by}
use Rattle.std.specs.List.Sorted.{IsStrictlySortedBy}
use Rattle.std.specs.Map.{keys_of}
use Rattle.std.specs.Ordering.{ordering_then}
use Rattle.std.proofs.lemmas.Cmp.{alike_right}
use Rattle.std.proofs.lemmas.List.{length-map, length-take, take-map}
use Rattle.std.proofs.lemmas.List.Elements.{All-nil, All-take, All-map, All-contains}
use Rattle.agg_values.specs.KeyOrder.{tuple_order, key_order, SourceRules}
use Rattle.agg_values.proofs.KeyOrder.{then_equal}
use Rattle.agg_values.proofs.TupleOrder.{tuple_order-total}
use Rattle.agg_segment.specs.storage.Document.{Fields}
use Rattle.agg_request_tree.specs.Source.{rules_of, Sources}
use Rattle.agg_request_tree.specs.Occurrences.{occurrences, occurrences_in, is_past, same_tuple}
use Rattle.agg_request_tree.specs.Occurrences.{past_occurrences}
use Rattle.agg_request_tree.specs.Groups.{Groups, Group}
use Rattle.agg_request_tree.specs.Page.{Entry, IsPage, MayList, entry_of, group_of, count_in}
use Rattle.agg_request_tree.specs.Page.{documents_with}
use Rattle.agg_request_tree.proofs.Lists.{count_by-filter}
use Rattle.agg_request_tree.proofs.Lists.{All-from_map}
use Rattle.agg_request_tree.proofs.PagePast.{past-parts}
use Rattle.agg_request_tree.proofs.PageKeys.{IsStrictlySortedBy-take, in_front_or_above}
use Rattle.agg_values.specs.Tuple.{KeyTuple}

-- two orders in a row that are both equal
both_equal : (a b : Ordering) → a ≡ Equal → b ≡ Equal → ordering_then a b ≡ Equal
both_equal a b p q = cc

-- the test for equal
pub equal-from_is_eq : (o : Ordering) → is_eq o ≡ true → o ≡ Equal
equal-from_is_eq Less e = cc
equal-from_is_eq Equal e = refl
equal-from_is_eq Greater e = cc

-- fronts of tuples that are the same are the same
take_equal : (rules : SourceRules) (n : ℕ) (ts us : KeyTuple) → tuple_order rules ts us ≡ Equal
    → tuple_order rules (take n ts) (take n us) ≡ Equal
take_equal [] n ts us e = refl
take_equal (rule ∷ rules) zero ts us e = refl
take_equal (rule ∷ rules) (suc n) [] [] e = refl
take_equal (rule ∷ rules) (suc n) [] (u ∷ us) e = cc
take_equal (rule ∷ rules) (suc n) (t ∷ ts) [] e = cc
take_equal (rule ∷ rules) (suc n) (t ∷ ts) (u ∷ us) e =
    let both = then_equal (key_order rule.0 rule.1 t u) (tuple_order rules ts us) e in
    both_equal _ _ both.0 (take_equal rules n ts us both.1)

module _ (rules : SourceRules) where
  -- a tuple that is the same as a past one is past
  pub is_past-same : (bound t u : KeyTuple) → tuple_order rules t u ≡ Equal
      → is_past rules bound t ≡ is_past rules bound u
  is_past-same bound t u e =
      let fronts = take_equal rules (length bound) t u e in
      ap (λ o. is_lt o || (is_eq o && ltb (length bound) (length rules)))
      (alike_right (tuple_order-total rules) (take (length bound) t) (take (length bound) u)
      bound fronts)

  -- how often a past tuple occurs among the past occurrences is how often it occurs at all
  pub count_by-past : (bound t : KeyTuple) (occurrences : List KeyTuple)
      → is_past rules bound t ≡ true
      → count_by (same_tuple rules t) (filter (is_past rules bound) occurrences)
      ≡ count_by (same_tuple rules t) occurrences
  count_by-past bound t occurrences past =
      count_by-filter (is_past rules bound) (same_tuple rules t) (λ u same.
      sym (is_past-same bound t u (equal-from_is_eq _ same)) ∙ past) occurrences

-- the groups of no visits are none
pub Groups-nothing : (rules : SourceRules) → Groups rules [] []
unfolding IsStrictlySortedBy
Groups-nothing rules = record {
  ascending = tt;
  counted = All-nil (λ (e : Group). (0 < e.1) × (e.1 ≡ 0));
  occurring = All-nil (Contains []);
  complete = All-nil (Contains []);
}

module _ (sources : Sources) (documents : List Fields) where
  -- the tuples of the entries of groups
  pub tuples-entries : (groups : List Group)
      → map (λ e. e.tuple) (map (entry_of sources documents) groups) ≡ keys_of groups
  tuples-entries [] = refl
  tuples-entries (g ∷ groups) = ap (λ ts. g.0 ∷ ts) (tuples-entries groups)

  -- the entries of groups have these groups
  pub groups-entries : (groups : List Group)
      → map group_of (map (entry_of sources documents) groups) ≡ groups
  groups-entries [] = refl
  groups-entries (g ∷ groups) = ap (λ gs. g ∷ gs) (groups-entries groups)

  -- the tuples of the entries of the lowest groups
  pub tuples-lowest : (size : ℕ) (groups : List Group)
      → map (λ e. e.tuple) (map (entry_of sources documents) (take size groups))
      ≡ take size (keys_of groups)
  tuples-lowest size groups = tuples-entries (take size groups)
      ∙ sym (take-map (λ (g : Group). g.0) size groups)

  -- the lowest groups of all past occurrences, as many as the size, are a page
  pub IsPage-from_groups : (size : ℕ) (bound : KeyTuple) (groups : List Group)
      → Groups (rules_of sources) (past_occurrences sources bound documents) groups
      → IsPage sources size bound documents (map (entry_of sources documents) (take size groups))
  IsPage-from_groups size bound groups are = record {
    ascending = subst (IsStrictlySortedBy R) (sym (tuples-lowest size groups))
        (IsStrictlySortedBy-take R size (keys_of groups) are.ascending);
    short = simp (length-map, length-take) (omega arith);
    listed = All-map MayList_here (entry_of sources documents) (take size groups) (All-take (λ g.
        MayList sources bound documents g.0) size groups may);
    complete = λ tuple may out. full tuple out (in_front_or_above R size (keys_of groups) tuple
        are.ascending (holds tuple may));
    counted = All-map (λ e. e.count ≡ count_in sources documents e.tuple)
        (entry_of sources documents) (take size groups) (All-take (λ g. g.1
        ≡ count_in sources documents g.0) size groups exact);
    kept = All-map (λ e. e.documents ≡ documents_with sources documents e.tuple)
        (entry_of sources documents) (take size groups) (λ k d lt. refl);
  }
    where
      R : KeyTuple → KeyTuple → Ordering
      R = tuple_order (rules_of sources)

      MayList_here : Entry → Type 0
      MayList_here e = MayList sources bound documents e.tuple

      may : All (λ g. MayList sources bound documents g.0) groups
      may = All-from_map (MayList sources bound documents) (λ g. g.0) groups are.occurring

      holds : (tuple : KeyTuple) → MayList sources bound documents tuple
          → Contains (keys_of groups) tuple
      holds tuple m =
          All-contains (Contains (keys_of groups)) (past_occurrences sources bound documents) tuple
          are.complete m

      full : (tuple : KeyTuple)
          → ¬ (Contains (map (λ e. e.tuple) (map (entry_of sources documents) (take size groups)))
          tuple)
          → Contains (take size (keys_of groups)) tuple ⊎ (All (λ l. R l tuple ≡ Less)
          (take size (keys_of groups)) × (length (take size (keys_of groups)) ≡ size))
          → All (λ e. R e.tuple tuple ≡ Less) (map (entry_of sources documents) (take size groups))
          × (length (map (entry_of sources documents) (take size groups)) ≡ size)
      full tuple out (inl c) =
          absurd (out (subst (λ ts. Contains ts tuple) (sym (tuples-lowest size groups)) c))
      full tuple out (inr h) = (
        All-from_map (λ l. R l tuple ≡ Less) (λ e. e.tuple) _ (subst (All (λ l. R l tuple ≡ Less))
            (sym (tuples-lowest size groups)) h.0),
        sym (length-map _ (λ (e : Entry). e.tuple)) ∙ ap length (tuples-lowest size groups) ∙ h.1,
      )

      exact : All (λ g. g.1 ≡ count_in sources documents g.0) groups
      exact k d lt = (are.counted k d lt).1 ∙ count_by-past (rules_of sources) bound
          (get_or groups k d).0 (occurrences_in sources documents)
          (past-parts sources bound documents (get_or groups k d).0 (may k d lt)).1
