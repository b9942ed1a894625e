-- One number for each document, from the first on.
use Rattle.std.proofs.Common.{◌≡◌, ◌+◌, ◌-◌, ◌<◌, ◌≤◌, ℕ, zero, suc, List, [], ◌∷◌}
use Rattle.std.proofs.Common.{length, take, drop, refl, sym, ap}
use Rattle.std.proofs.Common.{◌∙◌, arith}
use Rattle.std.proofs.lemmas.Bool.{eq-eqb, ne_eqb}
use Rattle.std.specs.List.{zip, range_with_len, slice_range}
use Rattle.agg_segment.specs.storage.Columns.{numbers_at}

one_before : (a : ℕ) (n : ℕ) (ns : List ℕ) (doc : ℕ) → doc < a
    → numbers_at (zip (range_with_len a n) ns) doc ≡ []
one_before a zero ns doc l = refl
one_before a (suc n) [] doc l = refl
one_before a (suc n) (m ∷ ns) doc l = rw (ne_eqb a doc (λ same. omega (arith, same, l)))
    (one_before (a + 1) n ns doc (omega (arith, l)))

pub one_found : (a : ℕ) (ns : List ℕ) (i : ℕ) → i < length ns
    → numbers_at (zip (range_with_len a (length ns)) ns) (a + i) ≡ slice_range ns i (i + 1)
one_found a [] i l = absurd (omega arith)
one_found a (n ∷ ns) zero l = rw (eq-eqb a (a + 0) (omega arith))
    (ap (λ r. n ∷ r) (one_before (a + 1) (length ns) ns (a + 0) (omega arith)))
one_found a (n ∷ ns) (suc i) l =
    rw (ne_eqb a (a + suc i) (λ same. omega (arith, same)))
    (let there : a + suc i ≡ (a + 1) + i = omega arith in
    let as_long : (i + 1) - i ≡ (suc i + 1) - suc i = omega arith in
    ap (numbers_at (zip (range_with_len (a + 1) (length ns)) ns)) there ∙ one_found (a + 1) ns i
    (omega arith) ∙ ap (λ k. take k (drop i ns)) as_long)

pub one_past : (a : ℕ) (ns : List ℕ) (i : ℕ) → length ns ≤ i
    → numbers_at (zip (range_with_len a (length ns)) ns) (a + i) ≡ []
one_past a [] i l = refl
one_past a (n ∷ ns) zero l = absurd (omega arith)
one_past a (n ∷ ns) (suc i) l =
    rw (ne_eqb a (a + suc i) (λ same. omega (arith, same)))
    (let there : a + suc i ≡ (a + 1) + i = omega arith in
    ap (numbers_at (zip (range_with_len (a + 1) (length ns)) ns)) there ∙ one_past (a + 1) ns i
    (omega arith))

pub number_of_one : (ns : List ℕ) (doc : ℕ) → doc < length ns
    → slice_range ns doc (doc + 1) ≡ numbers_at (zip (range_with_len 0 (length ns)) ns) doc
number_of_one ns doc l = let same : 0 + doc ≡ doc = omega arith in sym (one_found 0 ns doc l)
    ∙ ap (numbers_at (zip (range_with_len 0 (length ns)) ns)) same

pub number_of_none : (ns : List ℕ) (doc : ℕ) → length ns ≤ doc
    → [] ≡ numbers_at (zip (range_with_len 0 (length ns)) ns) doc
number_of_none ns doc l = let same : 0 + doc ≡ doc = omega arith in sym (one_past 0 ns doc l)
    ∙ ap (numbers_at (zip (range_with_len 0 (length ns)) ns)) same
