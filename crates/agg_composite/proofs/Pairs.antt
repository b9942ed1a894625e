-- Two lists whose elements belong together, one by one.
use Rattle.std.proofs.Common.{◌≡◌, List, [], ◌∷◌, ◌++◌, Bool, true, false, cond, map, filter}
use Rattle.std.specs.List.{AllZip, flat_map}

-- two lists end to end
pub AllZip-append : {A B : Type 0} (R : A → B → Type 0) (xs us : List A) (ys vs : List B)
    → AllZip R xs ys → AllZip R us vs → AllZip R (xs ++ us) (ys ++ vs)
AllZip-append R [] us [] vs p q = q
AllZip-append R [] us (y ∷ ys) vs p q = absurd p
AllZip-append R (x ∷ xs) us [] vs p q = absurd p
AllZip-append R (x ∷ xs) us (y ∷ ys) vs p q = (p.0, AllZip-append R xs us ys vs p.1 q)

-- their elements mapped
pub AllZip-map : {A B C D : Type 0} (R : A → B → Type 0) (S : C → D → Type 0) (f : A → C)
    (g : B → D)
    → ((x : A) (y : B) → R x y → S (f x) (g y))
    → (xs : List A) (ys : List B) → AllZip R xs ys → AllZip S (map f xs) (map g ys)
AllZip-map R S f g to [] [] p = tt
AllZip-map R S f g to [] (y ∷ ys) p = absurd p
AllZip-map R S f g to (x ∷ xs) [] p = absurd p
AllZip-map R S f g to (x ∷ xs) (y ∷ ys) p = (to x y p.0, AllZip-map R S f g to xs ys p.1)

-- what their elements give, end to end
pub AllZip-flat_map : {A B C D : Type 0} (R : A → B → Type 0) (S : C → D → Type 0)
    (f : A → List C) (g : B → List D)
    → ((x : A) (y : B) → R x y → AllZip S (f x) (g y))
    → (xs : List A) (ys : List B) → AllZip R xs ys → AllZip S (flat_map f xs) (flat_map g ys)
AllZip-flat_map R S f g to [] [] p = tt
AllZip-flat_map R S f g to [] (y ∷ ys) p = absurd p
AllZip-flat_map R S f g to (x ∷ xs) [] p = absurd p
AllZip-flat_map R S f g to (x ∷ xs) (y ∷ ys) p =
    AllZip-append S (f x) (flat_map f xs) (g y) (flat_map g ys) (to x y p.0)
    (AllZip-flat_map R S f g to xs ys p.1)

-- what follows from a fact on each pair
pub AllZip-weaker : {A B : Type 0} (R S : A → B → Type 0) → ((x : A) (y : B) → R x y → S x y)
    → (xs : List A) (ys : List B) → AllZip R xs ys → AllZip S xs ys
AllZip-weaker R S to [] [] p = tt
AllZip-weaker R S to [] (y ∷ ys) p = absurd p
AllZip-weaker R S to (x ∷ xs) [] p = absurd p
AllZip-weaker R S to (x ∷ xs) (y ∷ ys) p = (to x y p.0, AllZip-weaker R S to xs ys p.1)

kept_both : {A B : Type 0} (R : A → B → Type 0) (b c : Bool) → b ≡ c → (x : A) (y : B)
    (xs : List A) (ys : List B) → R x y → AllZip R xs ys
    → AllZip R (cond b (x ∷ xs) xs) (cond c (y ∷ ys) ys)
kept_both R true true e x y xs ys r p = (r, p)
kept_both R true false e x y xs ys r p = cc
kept_both R false true e x y xs ys r p = cc
kept_both R false false e x y xs ys r p = p

-- what tests keep that agree on each pair
pub AllZip-filter : {A B : Type 0} (R : A → B → Type 0) (p : A → Bool) (q : B → Bool)
    → ((x : A) (y : B) → R x y → p x ≡ q y)
    → (xs : List A) (ys : List B) → AllZip R xs ys → AllZip R (filter p xs) (filter q ys)
AllZip-filter R p q same [] [] h = tt
AllZip-filter R p q same [] (y ∷ ys) h = absurd h
AllZip-filter R p q same (x ∷ xs) [] h = absurd h
AllZip-filter R p q same (x ∷ xs) (y ∷ ys) h =
    kept_both R (p x) (q y) (same x y h.0) x y (filter p xs) (filter q ys) h.0
    (AllZip-filter R p q same xs ys h.1)
