-- Lists beside one another, place by place.
use Rattle.std.proofs.Common.{◌≡◌, List, [], ◌∷◌, ◌++◌, map, refl, ap, ◌∙◌}
use Rattle.std.specs.List.{AllZip}

pub AllZip-unique : {A B : Type 0} (R : A → B → Type 0)
    → ((a : A) (b c : B) → R a b → R a c → b ≡ c) → (xs : List A) (bs cs : List B)
    → AllZip R xs bs → AllZip R xs cs → bs ≡ cs
AllZip-unique R one [] [] [] h k = refl
AllZip-unique R one [] [] (c ∷ cs) h k = absurd k
AllZip-unique R one [] (b ∷ bs) cs h k = absurd h
AllZip-unique R one (a ∷ xs) [] cs h k = absurd h
AllZip-unique R one (a ∷ xs) (b ∷ bs) [] h k = absurd k
AllZip-unique R one (a ∷ xs) (b ∷ bs) (c ∷ cs) h k =
    ap (λ x. x ∷ bs) (one a b c h.0 k.0) ∙ ap (λ l. c ∷ l) (AllZip-unique R one xs bs cs h.1 k.1)

pub AllZip-append : {A B : Type 0} (R : A → B → Type 0) (xs more : List A) (ys others : List B)
    → AllZip R xs ys → AllZip R more others → AllZip R (xs ++ more) (ys ++ others)
AllZip-append R [] more [] others h k = k
AllZip-append R [] more (y ∷ ys) others h k = absurd h
AllZip-append R (x ∷ xs) more [] others h k = absurd h
AllZip-append R (x ∷ xs) more (y ∷ ys) others h k =
    (h.0, AllZip-append R xs more ys others h.1 k)

-- a list beside one that is cut is cut too
pub AllZip-parts : {A B : Type 0} (R : A → B → Type 0) (xs more : List A) (ys : List B)
    → AllZip R (xs ++ more) ys
    → (first : List B) × (rest : List B) × (ys ≡ first ++ rest) × AllZip R xs first
    × AllZip R more rest
AllZip-parts R [] more ys h = ([], ys, refl, tt, h)
AllZip-parts R (x ∷ xs) more [] h = absurd h
AllZip-parts R (x ∷ xs) more (y ∷ ys) h =
    let (first, rest, is, zips, zips_rest) = AllZip-parts R xs more ys h.1 in
    (y ∷ first, rest, ap (λ l. y ∷ l) is, (h.0, zips), zips_rest)

pub map-append : {A B : Type 0} (f : A → B) (xs ys : List A)
    → map f (xs ++ ys) ≡ map f xs ++ map f ys
map-append f [] ys = refl
map-append f (x ∷ xs) ys = ap (λ l. f x ∷ l) (map-append f xs ys)
