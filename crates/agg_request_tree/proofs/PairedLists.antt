-- Two lists whose elements belong together, place by place.
use Rattle.std.proofs.Common.{List, [], ◌∷◌, ◌++◌}
use Rattle.std.specs.List.{AllByRecursion, AllZip, flat_map}

-- what follows at each place, where it also holds of the first of the two
pub zip_weaker : {A B : Type 0} (P : A → Type 0) (R S : A → B → Type 0)
    → ((x : A) (y : B) → P x → R x y → S x y) → (xs : List A) (ys : List B)
    → AllByRecursion P xs → AllZip R xs ys → AllZip S xs ys
zip_weaker P R S follows [] [] all zipped = tt
zip_weaker P R S follows [] (y ∷ ys) all zipped = zipped
zip_weaker P R S follows (x ∷ xs) [] all zipped = zipped
zip_weaker P R S follows (x ∷ xs) (y ∷ ys) all zipped =
    (follows x y all.0 zipped.0, zip_weaker P R S follows xs ys all.1 zipped.1)

-- what holds of each of the first holds of each of the second, where it goes from one to the other
pub all_across : {A B : Type 0} (R : A → B → Type 0) (P : A → Type 0) (Q : B → Type 0)
    → ((x : A) (y : B) → R x y → P x → Q y) → (xs : List A) (ys : List B)
    → AllZip R xs ys → AllByRecursion P xs → AllByRecursion Q ys
all_across R P Q across [] [] zipped all = tt
all_across R P Q across [] (y ∷ ys) zipped all = absurd zipped
all_across R P Q across (x ∷ xs) [] zipped all = tt
all_across R P Q across (x ∷ xs) (y ∷ ys) zipped all =
    (across x y zipped.0 all.0, all_across R P Q across xs ys zipped.1 all.1)

-- two lists the other way round
pub AllZip-turned : {A B : Type 0} (R : A → B → Type 0) (S : B → A → Type 0)
    → ((x : A) (y : B) → R x y → S y x) → (xs : List A) (ys : List B)
    → AllZip R xs ys → AllZip S ys xs
AllZip-turned R S turned [] [] zipped = tt
AllZip-turned R S turned [] (y ∷ ys) zipped = absurd zipped
AllZip-turned R S turned (x ∷ xs) [] zipped = absurd zipped
AllZip-turned R S turned (x ∷ xs) (y ∷ ys) zipped =
    (turned x y zipped.0, AllZip-turned R S turned xs ys zipped.1)

-- two lists end to end
pub AllZip-append : {A B : Type 0} (R : A → B → Type 0) (xs us : List A) (ys vs : List B)
    → AllZip R xs ys → AllZip R us vs → AllZip R (xs ++ us) (ys ++ vs)
AllZip-append R [] us [] vs zipped rest = rest
AllZip-append R [] us (y ∷ ys) vs zipped rest = absurd zipped
AllZip-append R (x ∷ xs) us [] vs zipped rest = absurd zipped
AllZip-append R (x ∷ xs) us (y ∷ ys) vs zipped rest =
    (zipped.0, AllZip-append R xs us ys vs zipped.1 rest)

-- what their elements give, end to end
pub AllZip-flat_map : {A B C D : Type 0} (R : A → B → Type 0) (S : C → D → Type 0)
    (f : A → List C) (g : B → List D)
    → ((x : A) (y : B) → R x y → AllZip S (f x) (g y))
    → (xs : List A) (ys : List B) → AllZip R xs ys → AllZip S (flat_map f xs) (flat_map g ys)
AllZip-flat_map R S f g gives [] [] zipped = tt
AllZip-flat_map R S f g gives [] (y ∷ ys) zipped = absurd zipped
AllZip-flat_map R S f g gives (x ∷ xs) [] zipped = absurd zipped
AllZip-flat_map R S f g gives (x ∷ xs) (y ∷ ys) zipped =
    AllZip-append S (f x) (flat_map f xs) (g y) (flat_map g ys) (gives x y zipped.0)
    (AllZip-flat_map R S f g gives xs ys zipped.1)
