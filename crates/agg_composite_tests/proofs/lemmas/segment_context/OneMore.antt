-- One more pair of elements that belong together.
use Rattle.std.proofs.Common.{◌≡◌, ◌+◌, ◌<◌, ◌∙◌, ℕ, List, [], ◌∷◌, ◌++◌, get_or, length, take, sym}
use Rattle.std.proofs.Common.{ap}
use Rattle.std.proofs.Common.{subst}
use Rattle.std.specs.List.{AllZip}
use Rattle.std.proofs.lemmas.List.{take_more}
use Rattle.agg_request_tree.proofs.PairedLists.{AllZip-append}

-- the pair after the first i
pub one_more : {A B : Type 0} (R : A → B → Type 0) (xs : List A) (i : ℕ) (ys zs : List B)
    (x : A) (y : B) → AllZip R (take i xs) ys → i < length xs → x ≡ get_or xs i x → R x y
    → zs ≡ ys ++ y ∷ [] → AllZip R (take (i + 1) xs) zs
one_more R xs i ys zs x y all within item one pushed =
    subst (AllZip R (take (i + 1) xs)) (sym pushed)
    (subst (λ ts. AllZip R ts (ys ++ y ∷ []))
    (sym (take_more xs i x within ∙ ap (λ z. take i xs ++ z ∷ []) (sym item)))
    (AllZip-append R (take i xs) (x ∷ []) ys (y ∷ []) all (one, tt)))
