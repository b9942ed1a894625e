-- Which tuples lie past a bound: those above a past one, and past a whole tuple those above it.
use Rattle.std.proofs.Common.{◌≡◌, ℕ, zero, suc, ◌⊎◌, inl, inr, Bool, true, false, ◌&&◌, ◌||◌, []}
use Rattle.std.proofs.Common.{◌∷◌, length, take, refl, sym, ap, ◌∙◌, arith, Ordering, Less, Equal}
use Rattle.std.proofs.Common.{Greater, List, is_eq, is_lt, ltb}
use Rattle.std.specs.List.{Contains}
use Rattle.std.specs.Ordering.{ordering_then}
use Rattle.std.proofs.lemmas.Cmp.{alike_right}
use Rattle.std.proofs.lemmas.Bool.{le-ltb}
use Rattle.std.proofs.lemmas.List.{take_all}
use Rattle.agg_values.specs.KeyOrder.{tuple_order, key_order, SourceRules}
use Rattle.agg_values.proofs.TupleOrder.{tuple_order-total}
use Rattle.agg_values.specs.Tuple.{KeyTuple}
use Rattle.agg_segment.specs.storage.Document.{Fields}
use Rattle.agg_request_tree.specs.Occurrences.{is_past, occurrences_in, past_occurrences}
use Rattle.agg_request_tree.specs.Source.{Sources, rules_of}
use Rattle.agg_request_tree.proofs.Lists.{Contains-filter, Contains-from_filter}

module _ (sources : Sources) (bound : KeyTuple) (documents : List Fields) (tuple : KeyTuple) where
  -- a tuple that is among those past a bound occurs, and lies past it
  pub past-parts : Contains (past_occurrences sources bound documents) tuple
      → Contains (occurrences_in sources documents) tuple
      × (is_past (rules_of sources) bound tuple ≡ true)
  past-parts may =
      Contains-from_filter (is_past (rules_of sources) bound) (occurrences_in sources documents)
      tuple may

  -- a tuple that occurs and lies past a bound is among those
  pub past-whole : Contains (occurrences_in sources documents) tuple
      → is_past (rules_of sources) bound tuple ≡ true
      → Contains (past_occurrences sources bound documents) tuple
  past-whole occurs past =
      Contains-filter (is_past (rules_of sources) bound) (occurrences_in sources documents) tuple
      occurs past

-- two orders in a row of which the first, or the first where it is equal the second, is below
then_below : (a b c : Ordering) → ordering_then a b ≡ Less → (b ≡ Less → (c ≡ Less) ⊎ (c ≡ Equal))
    → (ordering_then a c ≡ Less) ⊎ (ordering_then a c ≡ Equal)
then_below Less b c less rest = inl refl
then_below Equal b c less rest = rest less
then_below Greater b c less rest = cc

-- the front of a lower tuple is lower or the same
take_below : (rules : SourceRules) (n : ℕ) (ts us : KeyTuple) → tuple_order rules ts us ≡ Less
    → (tuple_order rules (take n ts) (take n us) ≡ Less) ⊎ (tuple_order rules (take n ts)
    (take n us) ≡ Equal)
take_below [] n ts us less = inr refl
take_below (rule ∷ rules) zero ts us less = inr refl
take_below (rule ∷ rules) (suc n) [] [] less = inr refl
take_below (rule ∷ rules) (suc n) [] (u ∷ us) less = inl refl
take_below (rule ∷ rules) (suc n) (t ∷ ts) [] less = let other : Greater ≡ Less = less in cc
take_below (rule ∷ rules) (suc n) (t ∷ ts) (u ∷ us) less =
    then_below (key_order rule.0 rule.1 t u) (tuple_order rules ts us) (tuple_order rules
    (take n ts) (take n us)) less (take_below rules n ts us)

-- past where the bound compares as o, and so past where it compares as p
past_along : (o p : Ordering) (c : Bool) → (is_lt o || (is_eq o && c)) ≡ true
    → (o ≡ Less → p ≡ Less) → (o ≡ Equal → p ≡ Less) → (is_lt p || (is_eq p && c)) ≡ true
past_along Less p c past less equal = rw (less refl)
past_along Equal p c past less equal = rw (equal refl)
past_along Greater p c past less equal = let never : false ≡ true = past in cc

-- past only where below
lower_only : (o : Ordering) (c : Bool) → c ≡ false → (is_lt o || (is_eq o && c)) ≡ is_lt o
lower_only Less c is = refl
lower_only Equal c is = is
lower_only Greater c is = refl

module _ (rules : SourceRules) where
  -- a tuple above a past one is past
  pub is_past-above : (bound t u : KeyTuple) → is_past rules bound t ≡ true
      → tuple_order rules t u ≡ Less → is_past rules bound u ≡ true
  is_past-above bound t u past less = by_fronts (take_below rules n t u less)
    where
      n : ℕ
      n = length bound

      more : Bool
      more = ltb (length bound) (length rules)

      by_fronts : (tuple_order rules (take n t) (take n u) ≡ Less) ⊎ (tuple_order rules (take n t)
          (take n u) ≡ Equal) → is_past rules bound u ≡ true
      by_fronts (inl lower) =
          past_along (tuple_order rules bound (take n t)) (tuple_order rules bound (take n u)) more
          past
          (λ e. (tuple_order-total rules).trans bound (take n t) (take n u) e lower)
          (λ e. (tuple_order-total rules).congr bound (take n t) (take n u) e ∙ lower)
      by_fronts (inr same) =
          ap (λ o. is_lt o || (is_eq o && more)) (sym (alike_right (tuple_order-total rules)
          (take n t) (take n u) bound same)) ∙ past

  -- past a whole tuple lies what is above it
  pub is_past-whole : (bound t : KeyTuple) → length bound ≡ length rules → length t ≡ length rules
      → is_past rules bound t ≡ is_lt (tuple_order rules bound t)
  is_past-whole bound t whole_bound whole =
      let front : take (length bound) t ≡ t = take_all (length bound) t (omega arith) in
      let none : ltb (length bound) (length rules) ≡ false = le-ltb (length bound) (length rules)
      (omega arith) in
      lower_only (tuple_order rules bound (take (length bound) t)) (ltb (length bound)
      (length rules)) none ∙ ap (λ us. is_lt (tuple_order rules bound us)) front
