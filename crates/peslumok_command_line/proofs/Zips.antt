-- Texts that are read one after another.
use Rattle.std.proofs.Common.{◌≡◌, ◌+◌, ◌<◌, ◌++◌, ◌∷◌, [], ℕ, List, Bor, length, map, take}
use Rattle.std.proofs.Common.{get_or, refl, subst, zero, suc}
use Rattle.std.proofs.lemmas.List.{map-append, length-map, take_more}
use Rattle.std.proofs.lemmas.List.Elements.{Contains-get_or}
use Rattle.std.specs.List.{AllZip, Contains}
use Rattle.clap.specs.Words.{Text}

-- one more of each stands at the end
zip_push : {A B : Type 0} (R : A → B → Type 0) (xs : List A) (ys : List B) (x : A) (y : B)
    → AllZip R xs ys → R x y → AllZip R (xs ++ x ∷ []) (ys ++ y ∷ [])
zip_push R [] [] x y all one = (one, tt)
zip_push R [] (z ∷ zs) x y all one = absurd all
zip_push R (w ∷ ws) [] x y all one = absurd all
zip_push R (w ∷ ws) (z ∷ zs) x y all one = (all.0, zip_push R ws zs x y all.1 one)

-- one more text is read
pub zip_more : {Y : Type 0} (R : Text → Y → Type 0) (texts : List (Bor Text)) (i : ℕ)
    (d : Bor Text) (old new : List Y) (y : Y)
    → i < length texts → new ≡ old ++ y ∷ []
    → AllZip R (map (λ t. t.now) (take i texts)) old → R (get_or texts i d).now y
    → AllZip R (map (λ t. t.now) (take (i + 1) texts)) new
zip_more R texts i d old new y lt is_new all one =
    let text = get_or texts i d in
    rw (take_more texts i d lt, is_new)
    (rw (map-append (λ (t : Bor Text). t.now) (take i texts) (text ∷ []))
    (zip_push R (map (λ t. t.now) (take i texts)) old text.now y all one))

-- the text behind a reference in a list
get_or-now : (texts : List (Bor Text)) (i : ℕ) (d : Bor Text)
    → get_or (map (λ t. t.now) texts) i d.now ≡ (get_or texts i d).now
get_or-now [] i d = refl
get_or-now (t ∷ ts) zero d = refl
get_or-now (t ∷ ts) (suc i) d = get_or-now ts i d

-- a text behind a reference is among the texts
pub is_among : (texts : List (Bor Text)) (all : List Text) (i : ℕ) (d : Bor Text)
    → i < length texts → map (λ t. t.now) texts ≡ all → Contains all (get_or texts i d).now
is_among texts all i d lt is =
    let lt_map : i < length (map (λ (t : Bor Text). t.now) texts) =
    rw (length-map texts (λ (t : Bor Text). t.now)) lt in
    let there = Contains-get_or (map (λ (t : Bor Text). t.now) texts) i d.now lt_map in
    subst (λ (ts : List Text). Contains ts (get_or texts i d).now) is
    (subst (λ (t : Text). Contains (map (λ (t : Bor Text). t.now) texts) t)
    (get_or-now texts i d) there)
