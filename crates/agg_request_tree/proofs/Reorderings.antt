-- Lists with the same elements in another order, by exchanges of neighbours.
use Rattle.std.proofs.Common.{List, [], ◌∷◌, ◌++◌, Bool, true, false, cond, Option, None, Some}
use Rattle.std.proofs.Common.{filter, map}
use Rattle.std.specs.List.{cons_option, filter_map, flat_map}
use Rattle.std.specs.List.Sorted.{IsPermutation}
use Rattle.std.proofs.lemmas.List.Sorted.{IsPermutation-cons, IsPermutation-middle}
use Rattle.std.proofs.lemmas.List.Sorted.{IsPermutation-refl, IsPermutation-trans}

-- a list has the elements of another: the same list, the same with one more element before both,
-- two neighbours exchanged, or one such step and then another
pub data IsReordering {X : Type 0} : List X → List X → Type 0 where
  same : {xs : List X} → IsReordering xs xs
  later : {x : X} {xs ys : List X} → IsReordering xs ys → IsReordering (x ∷ xs) (x ∷ ys)
  exchange : {x y : X} {xs : List X} → IsReordering (x ∷ y ∷ xs) (y ∷ x ∷ xs)
  joined : {xs ys zs : List X} → IsReordering xs ys → IsReordering ys zs → IsReordering xs zs

-- a reordering is a permutation
pub IsPermutation-from_reordering : {X : Type 0} {xs ys : List X} → IsReordering xs ys
    → IsPermutation xs ys
IsPermutation-from_reordering (same {xs = xs}) = IsPermutation-refl xs
IsPermutation-from_reordering (later {x = x} {xs = xs} {ys = ys} r) =
    IsPermutation-cons x xs ys (IsPermutation-from_reordering r)
IsPermutation-from_reordering (exchange {x = x} {y = y} {xs = xs}) =
    IsPermutation-middle (x ∷ []) y xs
IsPermutation-from_reordering (joined {xs = xs} {ys = ys} {zs = zs} r s) =
    IsPermutation-trans xs ys zs (IsPermutation-from_reordering r)
    (IsPermutation-from_reordering s)

-- back to the first order
pub IsReordering-sym : {X : Type 0} {xs ys : List X} → IsReordering xs ys → IsReordering ys xs
IsReordering-sym same = same
IsReordering-sym (later r) = later (IsReordering-sym r)
IsReordering-sym exchange = exchange
IsReordering-sym (joined r s) = joined (IsReordering-sym s) (IsReordering-sym r)

-- ---- lists end to end

pub IsReordering-append_right : {X : Type 0} (zs : List X) {xs ys : List X} → IsReordering xs ys
    → IsReordering (zs ++ xs) (zs ++ ys)
IsReordering-append_right [] r = r
IsReordering-append_right (z ∷ zs) r = later (IsReordering-append_right zs r)

IsReordering-append_left : {X : Type 0} (zs : List X) {xs ys : List X} → IsReordering xs ys
    → IsReordering (xs ++ zs) (ys ++ zs)
IsReordering-append_left zs same = same
IsReordering-append_left zs (later r) = later (IsReordering-append_left zs r)
IsReordering-append_left zs exchange = exchange
IsReordering-append_left zs (joined r s) =
    joined (IsReordering-append_left zs r) (IsReordering-append_left zs s)

pub IsReordering-append : {X : Type 0} {xs ys us vs : List X} → IsReordering xs ys
    → IsReordering us vs → IsReordering (xs ++ us) (ys ++ vs)
IsReordering-append {ys = ys} {us = us} r s =
    joined (IsReordering-append_left us r) (IsReordering-append_right ys s)

-- an element goes from before a list to after it
IsReordering-middle : {X : Type 0} (xs : List X) (y : X) (zs : List X)
    → IsReordering (y ∷ (xs ++ zs)) (xs ++ y ∷ zs)
IsReordering-middle [] y zs = same
IsReordering-middle (x ∷ xs) y zs = joined exchange (later (IsReordering-middle xs y zs))

-- an element goes from before a list to its place in what follows the list
pub IsReordering-further : {X : Type 0} (xs : List X) {y : X} {zs us : List X}
    → IsReordering (y ∷ zs) us → IsReordering (y ∷ (xs ++ zs)) (xs ++ us)
IsReordering-further xs {y = y} {zs = zs} r =
    joined (IsReordering-middle xs y zs) (IsReordering-append_right xs r)

-- two lists exchanged
IsReordering-parts : {X : Type 0} (xs ys zs : List X)
    → IsReordering (xs ++ (ys ++ zs)) (ys ++ (xs ++ zs))
IsReordering-parts [] ys zs = same
IsReordering-parts (x ∷ xs) ys zs =
    joined (later (IsReordering-parts xs ys zs)) (IsReordering-middle ys x (xs ++ zs))

-- ---- lists made of lists

pub IsReordering-map : {X Y : Type 0} (f : X → Y) {xs ys : List X} → IsReordering xs ys
    → IsReordering (map f xs) (map f ys)
IsReordering-map f same = same
IsReordering-map f (later r) = later (IsReordering-map f r)
IsReordering-map f exchange = exchange
IsReordering-map f (joined r s) = joined (IsReordering-map f r) (IsReordering-map f s)

pub IsReordering-flat_map : {X Y : Type 0} (f : X → List Y) {xs ys : List X} → IsReordering xs ys
    → IsReordering (flat_map f xs) (flat_map f ys)
IsReordering-flat_map f same = same
IsReordering-flat_map f (later {x = x} r) =
    IsReordering-append_right (f x) (IsReordering-flat_map f r)
IsReordering-flat_map f (exchange {x = x} {y = y} {xs = xs}) =
    IsReordering-parts (f x) (f y) (flat_map f xs)
IsReordering-flat_map f (joined r s) =
    joined (IsReordering-flat_map f r) (IsReordering-flat_map f s)

-- the part of each element in another order
pub IsReordering-each : {X Y : Type 0} (f g : X → List Y) → ((x : X) → IsReordering (f x) (g x))
    → (xs : List X) → IsReordering (flat_map f xs) (flat_map g xs)
IsReordering-each f g each [] = same
IsReordering-each f g each (x ∷ xs) =
    IsReordering-append (each x) (IsReordering-each f g each xs)

kept_later : {X : Type 0} (b : Bool) (x : X) {xs ys : List X} → IsReordering xs ys
    → IsReordering (cond b (x ∷ xs) xs) (cond b (x ∷ ys) ys)
kept_later true x r = later r
kept_later false x r = r

kept_exchange : {X : Type 0} (b c : Bool) (x y : X) (xs : List X)
    → IsReordering (cond b (x ∷ cond c (y ∷ xs) xs) (cond c (y ∷ xs) xs))
    (cond c (y ∷ cond b (x ∷ xs) xs) (cond b (x ∷ xs) xs))
kept_exchange true true x y xs = exchange
kept_exchange true false x y xs = same
kept_exchange false true x y xs = same
kept_exchange false false x y xs = same

-- what passes a test, in another order
pub IsReordering-filter : {X : Type 0} (p : X → Bool) {xs ys : List X} → IsReordering xs ys
    → IsReordering (filter p xs) (filter p ys)
IsReordering-filter p same = same
IsReordering-filter p (later {x = x} r) = kept_later (p x) x (IsReordering-filter p r)
IsReordering-filter p (exchange {x = x} {y = y} {xs = xs}) =
    kept_exchange (p x) (p y) x y (filter p xs)
IsReordering-filter p (joined r s) = joined (IsReordering-filter p r) (IsReordering-filter p s)

cons_later : {Y : Type 0} (o : Option Y) {xs ys : List Y} → IsReordering xs ys
    → IsReordering (cons_option o xs) (cons_option o ys)
cons_later None r = r
cons_later (Some y) r = later r

cons_exchange : {Y : Type 0} (o p : Option Y) (xs : List Y)
    → IsReordering (cons_option o (cons_option p xs)) (cons_option p (cons_option o xs))
cons_exchange None p xs = same
cons_exchange (Some y) None xs = same
cons_exchange (Some y) (Some z) xs = exchange

pub IsReordering-filter_map : {X Y : Type 0} (f : X → Option Y) {xs ys : List X}
    → IsReordering xs ys → IsReordering (filter_map f xs) (filter_map f ys)
IsReordering-filter_map f same = same
IsReordering-filter_map f (later {x = x} r) = cons_later (f x) (IsReordering-filter_map f r)
IsReordering-filter_map f (exchange {x = x} {y = y} {xs = xs}) =
    cons_exchange (f x) (f y) (filter_map f xs)
IsReordering-filter_map f (joined r s) =
    joined (IsReordering-filter_map f r) (IsReordering-filter_map f s)
