-- The bound that a tuple gives as an after key is the tuple.
use Rattle.std.proofs.Common.{◌≡◌, ◌≢◌, ℕ, zero, suc, Bool, true, false, cond, Option, Some}
use Rattle.std.proofs.Common.{List, [], ◌∷◌, length, refl, sym, ap, ◌∙◌, arith, Ordering, Less}
use Rattle.std.proofs.Common.{Equal, Greater, is_eq, option_map}
use Rattle.std.specs.Cmp.{IsTotalOrder}
use Rattle.std.specs.Ordering.{match_ordering}
use Rattle.std.specs.List.{AllByRecursion, AllPairs}
use Rattle.std.specs.Map.{lookup}
use Rattle.std.specs.Option.{option_map_or}
use Rattle.std.specs.BTreeMap.{insert_entry, is_at}
use Rattle.std.proofs.lemmas.Cmp.{alike_right, nat_list_cmp_total, tied_back, tied_itself}
use Rattle.std.proofs.lemmas.List.Elements.{recursion_from_All}
use Rattle.std.proofs.lemmas.Map.Lookups.{exact_bytes}
use Rattle.agg_values.specs.Names.{name_cmp, put, value_of, Named}
use Rattle.agg_values.specs.declared.after_key.AfterKey.{AfterKey}
use Rattle.agg_request_tree.specs.declared.source as declared
use declared.CompositeAggregationSource.{CompositeAggregationSource}
use Rattle.agg_request_tree.specs.Source.{name_of, Sources}
use Rattle.agg_request_tree.specs.BySource.{after_map}
use Rattle.agg_request_tree.specs.Occurrences.{bound_of}
use Rattle.agg_request_tree.proofs.Lists.{AllByRecursion-weaker}
use Rattle.agg_values.specs.Tuple.{KeyTuple}

-- two values of which the test takes the first, after another test
same_first : {X : Type 0} (b : Bool) (x y z : X) → cond b x z ≡ cond b x (cond b y z)
same_first true x y z = refl
same_first false x y z = refl

module _ {K X : Type 0} (R : K → K → Ordering) (total : IsTotalOrder R) where
  -- two tests of which only one passes
  either_first : (q k l : K) (x y z : Option X) → R k l ≡ Greater → (o p : Ordering) → R q k ≡ o
      → R q l ≡ p → cond (is_eq p) x (cond (is_eq o) y z) ≡ cond (is_eq o) y (cond (is_eq p) x z)
  either_first q k l x y z apart Less p is_o is_p = refl
  either_first q k l x y z apart Greater p is_o is_p = refl
  either_first q k l x y z apart Equal Less is_o is_p = refl
  either_first q k l x y z apart Equal Greater is_o is_p = refl
  either_first q k l x y z apart Equal Equal is_o is_p = let same =
      total.congr k q l (tied_back total q k is_o) in cc

  -- what a look-up finds after a key took a value, by how the key compares with the first
  lookup_by : (o : Ordering) (q k : K) (v : X) (e : K × X) (es : List (K × X)) → R k e.0 ≡ o
      → lookup (is_at (R q)) (insert_entry R es k v) ≡ cond (is_eq (R q k)) (Some v)
      (lookup (is_at (R q)) es)
      → lookup (is_at (R q)) (match_ordering o ((k, v) ∷ e ∷ es) ((e.0, v) ∷ es) (e
      ∷ insert_entry R es k v))
      ≡ cond (is_eq (R q k)) (Some v) (cond (is_eq (R q e.0)) (Some e.1) (lookup (is_at (R q)) es))
  lookup_by Less q k v e es is rest = refl
  lookup_by Equal q k v e es is rest =
      rw (alike_right total k e.0 q is) (same_first (is_eq (R q e.0)) (Some v) (Some e.1)
      (lookup (is_at (R q)) es))
  lookup_by Greater q k v e es is rest =
      ap (cond (is_eq (R q e.0)) (Some e.1)) rest ∙ either_first q k e.0 (Some e.1) (Some v)
      (lookup (is_at (R q)) es) is (R q k) (R q e.0) refl refl

  -- what a look-up finds after a key took a value
  lookup-insert_entry : (q k : K) (v : X) (es : List (K × X))
      → lookup (is_at (R q)) (insert_entry R es k v) ≡ cond (is_eq (R q k)) (Some v)
      (lookup (is_at (R q)) es)
  lookup-insert_entry q k v [] = refl
  lookup-insert_entry q k v (e ∷ es) = lookup_by (R k e.0) q k v e es refl (lookup-insert_entry q k
      v es)

-- a name has the value that was put there
pub value_of-put : {T : Type 0} (name : List ℕ) (value : T) (map : List (List ℕ × T))
    → value_of name (put name value map) ≡ Some value
value_of-put name value map =
    lookup-insert_entry name_cmp nat_list_cmp_total name name value map
    ∙ ap (λ o. cond (is_eq o) (Some value) (value_of name map)) (tied_itself nat_list_cmp_total
    name)

-- a look-up at another name
other_value : {T : Type 0} (name other : List ℕ) (o : Ordering) (x y : Option T)
    → name_cmp name other ≡ o → (name ≢ other) → cond (is_eq o) x y ≡ y
other_value name other Less x y is apart = refl
other_value name other Equal x y is apart = absurd (apart (exact_bytes name other is))
other_value name other Greater x y is apart = refl

-- another name keeps its value
pub value_of-put_other : {T : Type 0} (name other : List ℕ) (value : T) (map : List (List ℕ × T))
    → (name ≢ other) → value_of name (put other value map) ≡ value_of name map
value_of-put_other name other value map apart =
    lookup-insert_entry name_cmp nat_list_cmp_total name other value map ∙ other_value name other
    (name_cmp name other) (Some value) (value_of name map) refl apart

-- a bound from the after value of the first source and the bound of the others
abbrev bound_from : Option AfterKey → KeyTuple → KeyTuple
bound_from after rest = option_map_or (λ k. k ∷ rest) (option_map (λ k. k.0) after) []

-- after keys with the same values at the names of the sources give the same bound
bound_of-same : (sources : Sources) (after other : Named AfterKey)
    → AllByRecursion (λ s. value_of (name_of s) after ≡ value_of (name_of s) other) sources
    → bound_of sources after ≡ bound_of sources other
bound_of-same [] after other all = refl
bound_of-same (source ∷ sources) after other all = let rest = bound_of-same sources after other
    all.1 in λ i. bound_from (all.0 i) (rest i)

-- the first of different sources has another name than each after it
pub apart_first : (source : CompositeAggregationSource) (sources : Sources)
    → AllPairs (λ s t. name_of s ≢ name_of t) (source ∷ sources)
    → AllByRecursion (λ s. name_of s ≢ name_of source) sources
apart_first source sources apart = recursion_from_All (λ s. name_of s ≢ name_of source) sources
    (λ k d within same. apart zero (suc k) d (omega arith) (omega arith) (sym same))

-- the bound of a tuple's after key is the tuple, where the sources have different names
pub bound_of-after_map : (sources : Sources) (tuple : KeyTuple)
    → AllPairs (λ s t. name_of s ≢ name_of t) sources → length tuple ≡ length sources
    → bound_of sources (after_map sources tuple) ≡ tuple
bound_of-after_map [] [] apart whole = refl
bound_of-after_map [] (k ∷ keys) apart whole = absurd (omega arith)
bound_of-after_map (source ∷ sources) [] apart whole = absurd (omega arith)
bound_of-after_map (source ∷ sources) (k ∷ keys) apart whole =
    let later = after_map sources keys in
    let own : AfterKey = record { 0 = k } in
    let kept =
    AllByRecursion-weaker (λ s. name_of s ≢ name_of source) (λ s.
    value_of (name_of s) (put (name_of source) own later) ≡ value_of (name_of s) later)
    (λ s differs. value_of-put_other (name_of s) (name_of source) own later differs) sources
    (apart_first source sources apart) in
    let rest = bound_of-same sources (put (name_of source) own later) later kept
    ∙ bound_of-after_map sources keys (λ i j d before within. apart (suc i) (suc j) d
    (omega arith) (omega arith)) (omega arith) in
    λ i. bound_from (value_of-put (name_of source) own later i) (rest i)
