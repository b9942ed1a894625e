-- Entries and a heap's items with one more key.
use Rattle.std.proofs.Common.{◌≡◌, Bool, List, ◌∷◌, Option, Some, None, sym, ap, ◌∙◌, Ordering}
use Rattle.std.specs.BTreeMap.{insert_entry}
use Rattle.std.specs.Cmp.{IsTotalOrder}
use Rattle.std.specs.HashMap.{HashMap, PutsEntry}
use Rattle.std.specs.List.{IsDistinct}
use Rattle.std.specs.List.Sorted.{IsPermutation}
use Rattle.std.specs.Map.{keys_of}
use Rattle.std.specs.Ordering.{eq_by_cmp}
use Rattle.std.proofs.lemmas.List.Sorted.{IsPermutation-sym, IsPermutation-trans, IsPermutation-map}
use Rattle.std.proofs.lemmas.List.Sorted.{IsPermutation-cons}
use Rattle.agg_heap_map.specs.EntryOrder.{ascending}
use Rattle.agg_heap_map.proofs.EntryOrder.{ascending-same}
use Rattle.agg_heap_map.proofs.KeyEquality.{once_by_cmp}

-- a new key's entry
pub puts-new : {K X S : Type 0} (eq : K → K → Bool) (m n : HashMap K X S) (k : K) (v : X)
    (old : Option X) → old ≡ None → PutsEntry eq m n k v old
    → IsPermutation ((k, v) ∷ m.entries) n.entries
puts-new eq m n k v None is puts = puts
puts-new eq m n k v (Some x) is puts = cc

-- fs are the entries gs with one more, and gs are es in some order
pub one_more-entries : {K X : Type 0} (R : K → K → Ordering) (total : IsTotalOrder R)
    (eq : K → K → Bool) (ties : (k l : K) → eq k l ≡ eq_by_cmp R k l)
    (es gs fs : List (K × X)) (k : K) (v : X) → IsDistinct eq (keys_of es) → IsPermutation es gs
    → IsDistinct eq (keys_of fs) → IsPermutation ((k, v) ∷ gs) fs
    → ascending R fs ≡ insert_entry R (ascending R es) k v
one_more-entries R total eq ties es gs fs k v once turned_round once_more m =
    ascending-same R total fs ((k, v) ∷ gs) (IsPermutation-sym ((k, v) ∷ gs) fs m)
    (once_by_cmp R eq ties (keys_of fs) once_more)
    ∙ ap (λ hs. insert_entry R hs k v)
    (sym (ascending-same R total es gs turned_round (once_by_cmp R eq ties (keys_of es) once)))

pub one_more-keys : {K X : Type 0} (es gs fs : List (K × X)) (k : K) (v : X) (items more : List K)
    → IsPermutation (keys_of es) items → IsPermutation es gs → IsPermutation ((k, v) ∷ gs) fs
    → IsPermutation (k ∷ items) more → IsPermutation (keys_of fs) more
one_more-keys es gs fs k v items more same turned_round m pushed =
    IsPermutation-trans (keys_of fs) (k ∷ keys_of gs) more
    (IsPermutation-sym (k ∷ keys_of gs) (keys_of fs)
    (IsPermutation-map (λ e. e.0) ((k, v) ∷ gs) fs m))
    (IsPermutation-trans (k ∷ keys_of gs) (k ∷ items) more (IsPermutation-cons k (keys_of gs) items
    (IsPermutation-trans (keys_of gs) (keys_of es) items
    (IsPermutation-sym (keys_of es) (keys_of gs) (IsPermutation-map (λ e. e.0) es gs turned_round))
    same)) pushed)

pub reordered-keys : {K X : Type 0} (es gs : List (K × X)) (items : List K)
    → IsPermutation (keys_of es) items → IsPermutation es gs → IsPermutation (keys_of gs) items
reordered-keys es gs items same turned_round =
    IsPermutation-trans (keys_of gs) (keys_of es) items
    (IsPermutation-sym (keys_of es) (keys_of gs) (IsPermutation-map (λ e. e.0) es gs turned_round))
    same
