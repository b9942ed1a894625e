-- The number that digits write, one digit at a time.
use Rattle.std.proofs.Common.{◌≡◌, ℕ, ◌+◌, ◌*◌, ◌/◌, ◌%◌, ◌^◌, ◌<◌, List, [], ◌∷◌, ◌++◌}
use Rattle.std.proofs.Common.{length, drop, get_or, decimal}
use Rattle.std.proofs.Common.{refl, sym, ap, ap₂, ◌∙◌, arith}
use Rattle.std.proofs.lemmas.Fmt.{decimal_digit, decimal_step}
use Rattle.std.proofs.lemmas.List.{append_assoc, drop_more}

pub first_digit : (d : List ℕ) (i n : ℕ) → i < length d → get_or d i 0 ≡ 48 + n → n < 10
    → drop i d ≡ decimal n ++ drop (i + 1) d
first_digit d i n within is small =
    drop_more d i 0 within
    ∙ ap₂ (λ x l. x ++ l) (ap (λ x. x ∷ []) is ∙ sym (decimal_digit n small)) refl

next_digit : (n k : ℕ) → 0 < n → k < 10 → n * 10 + k < 2 ^ 64
    → decimal (n * 10 + k) ≡ decimal n ++ (48 + k) ∷ []
next_digit n k some small fits =
    let tens : (n * 10 + k) / 10 ≡ n = grind arith in
    let ones : (n * 10 + k) % 10 ≡ k = grind arith in
    decimal_step (n * 10 + k) (omega arith) fits ∙ ap₂ (λ m r. decimal m ++ (48 + r) ∷ []) tens ones

pub one_more_digit : (d : List ℕ) (from i n k : ℕ) → drop from d ≡ decimal n ++ drop i d
    → i < length d → get_or d i 0 ≡ 48 + k → k < 10 → 0 < n → n * 10 + k < 2 ^ 64
    → drop from d ≡ decimal (n * 10 + k) ++ drop (i + 1) d
one_more_digit d from i n k so_far within is small some fits =
    so_far
    ∙ ap (λ l. decimal n ++ l) (drop_more d i 0 within ∙ ap (λ x. x ∷ drop (i + 1) d) is)
    ∙ sym (append_assoc (decimal n) ((48 + k) ∷ []) (drop (i + 1) d))
    ∙ ap (λ l. l ++ drop (i + 1) d) (sym (next_digit n k some small fits))
