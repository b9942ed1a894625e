-- Cutting texts at the first of a byte.
use Rattle.std.proofs.Common.{◌≡◌, ◌++◌, ◌==◌, ◌+◌, ℕ, List, [], ◌∷◌, true, false, Some, None, refl}
use Rattle.std.proofs.Common.{arith, length, nat_lt, drop, take_at, drop_at, length-append}
use Rattle.std.proofs.Common.{subst, sym}
use Rattle.std.proofs.lemmas.List.{append_assoc}
use Rattle.std.proofs.lemmas.Bool.Decides.{nat_tests}
use Rattle.peslumok_texts.specs.words.Cut.{Lacks, cut, place_of}

pub lacks_append : (c : ℕ) (xs ys : List ℕ) → Lacks c xs → Lacks c ys → Lacks c (xs ++ ys)
lacks_append c [] ys l m = m
lacks_append c (b ∷ bs) ys l m = (l.0, lacks_append c bs ys l.1 m)

place_none : (c : ℕ) (xs : List ℕ) → Lacks c xs → place_of c xs ≡ length xs
place_none c [] l = refl
place_none c (b ∷ bs) l = let more = place_none c bs l.1 in rw (l.0, more) (omega arith)

place_at : (c : ℕ) (xs ys : List ℕ) → Lacks c xs → place_of c (xs ++ c ∷ ys) ≡ length xs
place_at c [] ys l = let same : (c == c) ≡ true = grind (arith, nat_tests) in rw same refl
place_at c (b ∷ bs) ys l = let more = place_at c bs ys l.1 in rw (l.0, more) (omega arith)

-- a text without the byte is not cut
pub cut-none : (c : ℕ) (xs : List ℕ) → Lacks c xs → cut c xs ≡ (xs, None)
cut-none c xs l =
    let all = place_none c xs l in
    let test : nat_lt (length xs) (length xs) ≡ false = grind (arith, nat_tests) in
    rw (all, test) refl

-- a text is cut at the byte
pub cut-at : (c : ℕ) (xs ys : List ℕ) → Lacks c xs → cut c (xs ++ c ∷ ys) ≡ (xs, Some ys)
cut-at c xs ys l =
    let place = place_at c xs ys l in
    let len = length-append xs (c ∷ ys) in
    let test : nat_lt (length xs) (length (xs ++ c ∷ ys)) ≡ true = grind (arith, nat_tests, len) in
    let front = take_at xs (c ∷ ys) (length xs) refl in
    let shape : xs ++ c ∷ ys ≡ (xs ++ c ∷ []) ++ ys = sym (append_assoc xs (c ∷ []) ys) in
    let len_more : length (xs ++ c ∷ []) ≡ length xs + 1 = length-append xs (c ∷ []) in
    let rest : drop (length xs + 1) (xs ++ c ∷ ys) ≡ ys =
    subst (λ x. drop (length xs + 1) x ≡ ys) (sym shape)
    (drop_at (xs ++ c ∷ []) ys (length xs + 1) len_more) in
    rw (place, test, front, rest) refl
