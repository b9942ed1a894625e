-- The plain bytes before a quote.
use Rattle.std.proofs.Common.{◌≡◌, ℕ, suc, ◌+◌, ◌-◌, ◌<◌, ◌≤◌, Bool, true, false, cond, List, []}
use Rattle.std.proofs.Common.{◌∷◌, ◌++◌, length, take, drop, get_or, refl, sym, ap, ◌∙◌, arith}
use Rattle.std.proofs.lemmas.List.{drop-drop, drop_more, take-append-drop}
use Rattle.std.proofs.lemmas.List.Folds.{length-prefix_len}
use Rattle.std.specs.List.{prefix_len}
use Rattle.json.specs.Run.{is_plain}
use Rattle.agg_pages.specs.document_json.Plain.{IsPlain}

one_step : (p : Bool) (x n : ℕ) (xs : List ℕ) → p ≡ is_plain x
    → prefix_len is_plain (take n xs) ≡ n
    → prefix_len is_plain (take (cond p (1 + n) 0) (x ∷ xs)) ≡ cond p (1 + n) 0
one_step true x n xs e ih =
    let next : 1 + n ≡ suc n = omega arith in
    ap (λ k. prefix_len is_plain (take k (x ∷ xs))) next
    ∙ ap (λ b. cond b (1 + prefix_len is_plain (take n xs)) 0) (sym e) ∙ ap (λ k. 1 + k) ih
one_step false x n xs e ih = refl

front_passes : (xs : List ℕ)
    → prefix_len is_plain (take (prefix_len is_plain xs) xs) ≡ prefix_len is_plain xs
front_passes [] = refl
front_passes (x ∷ xs) = one_step (is_plain x) x (prefix_len is_plain xs) xs refl (front_passes xs)

pub front_is_plain : (xs : List ℕ) (n : ℕ) → n ≡ prefix_len is_plain xs → IsPlain (take n xs)
front_is_plain xs n e =
    ap (λ k. prefix_len is_plain (take k xs)) e ∙ front_passes xs
    ∙ sym (length-prefix_len is_plain xs)
    ∙ ap (λ k. length (take k xs)) (sym e)

pub up_to_quote : (d : List ℕ) (from stop : ℕ) → from ≤ stop → stop < length d
    → get_or d stop 0 ≡ 34
    → drop from d ≡ take (stop - from) (drop from d) ++ 34 ∷ drop (stop + 1) d
up_to_quote d from stop le within is =
    let n : stop - from + from ≡ stop = omega arith in
    sym (take-append-drop (stop - from) (drop from d))
    ∙ ap (λ l. take (stop - from) (drop from d) ++ l)
    (drop-drop (stop - from) from d ∙ ap (λ k. drop k d) (omega arith)
    ∙ drop_more d stop 0 within ∙ ap (λ x. x ∷ drop (stop + 1) d) is)
