-- Numbers with their documents, while more may come.
use Rattle.std.proofs.Common.{◌≡◌, ◌+◌, ◌-◌, ◌<◌, ◌≤◌, ℕ, zero, suc, List, [], ◌∷◌, ◌++◌}
use Rattle.std.proofs.Common.{length, get_or, take, map, true, false, refl, sym, ap}
use Rattle.std.proofs.Common.{subst, ◌∙◌, inl, inr, arith, length-append, length-take}
use Rattle.std.specs.Prelude.{Bool, filter, nat_lt}
use Rattle.std.specs.List.{All, zip, range_with_len}
use Rattle.std.specs.List.Sorted.{IsNonDecreasing}
use Rattle.std.proofs.lemmas.Bool.{cases_lt}
use Rattle.std.proofs.lemmas.Bool.Decides.{nat_tests}
use Rattle.std.proofs.lemmas.List.{append-nil, append_assoc, get_or_append_left}
use Rattle.std.proofs.lemmas.List.{get_or-append_right, take-append-le}
use Rattle.std.proofs.lemmas.List.Elements.{All-head, All-tail}
use Rattle.std.proofs.lemmas.List.FromFn.{length-range_with_len, get_or-range_with_len}
use Rattle.std.proofs.lemmas.List.Sorted.{IsNonDecreasingBy-push, IsNonDecreasingBy-take}
use Rattle.agg_segment.proofs.lemmas.storage.Layouts.{range_more}

-- ---- pairs

pub zip_more : {X Y : Type 0} (xs : List X) (ys : List Y) (x : X) (y : Y) → length xs ≡ length ys
    → zip (xs ++ x ∷ []) (ys ++ y ∷ []) ≡ zip xs ys ++ (x, y) ∷ []
zip_more [] [] x y same = refl
zip_more [] (b ∷ ys) x y same = absurd (omega (arith, same))
zip_more (a ∷ xs) [] x y same = absurd (omega (arith, same))
zip_more (a ∷ xs) (b ∷ ys) x y same = ap (λ r. (a, b) ∷ r) (zip_more xs ys x y (omega
    (arith, same)))

pub zip_firsts : {X Y : Type 0} (xs : List X) (ys : List Y) → length xs ≡ length ys
    → map (λ (r : X × Y). r.0) (zip xs ys) ≡ xs
zip_firsts [] ys same = refl
zip_firsts (a ∷ xs) [] same = absurd (omega (arith, same))
zip_firsts (a ∷ xs) (b ∷ ys) same = ap (λ r. a ∷ r) (zip_firsts xs ys (omega (arith, same)))

pub zip_seconds : {X Y : Type 0} (xs : List X) (ys : List Y) → length xs ≡ length ys
    → ys ≡ map (λ (r : X × Y). r.1) (zip xs ys)
zip_seconds [] [] same = refl
zip_seconds [] (b ∷ ys) same = absurd (omega (arith, same))
zip_seconds (a ∷ xs) [] same = absurd (omega (arith, same))
zip_seconds (a ∷ xs) (b ∷ ys) same = ap (λ r. b ∷ r) (zip_seconds xs ys (omega (arith, same)))

-- what holds of the first of each pair
firsts_all : (P : ℕ → Type 0) (xs ys : List ℕ) → length xs ≡ length ys
    → All (λ r. P r.0) (zip xs ys) → All P xs
firsts_all P [] ys same all k d l = absurd (omega (arith, l))
firsts_all P (a ∷ xs) [] same all k d l = absurd (omega (arith, same))
firsts_all P (a ∷ xs) (b ∷ ys) same all zero d l = All-head (λ (r : ℕ × ℕ). P r.0) (a, b)
    (zip xs ys) all
firsts_all P (a ∷ xs) (b ∷ ys) same all (suc k) d l = firsts_all P xs ys (omega (arith, same))
    (All-tail (λ (r : ℕ × ℕ). P r.0) (a, b) (zip xs ys) all) k d (omega (arith, l))

zip_take : (k : ℕ) (xs ys : List ℕ) → zip (take k xs) (take k ys) ≡ take k (zip xs ys)
zip_take zero xs ys = refl
zip_take (suc k) [] ys = refl
zip_take (suc k) (a ∷ xs) [] = refl
zip_take (suc k) (a ∷ xs) (b ∷ ys) = ap (λ r. (a, b) ∷ r) (zip_take k xs ys)

-- ---- one more

rise_more : (docs : List ℕ) (doc : ℕ) → IsNonDecreasing docs → All (λ d. d ≤ doc) docs
    → IsNonDecreasing (docs ++ doc ∷ [])
rise_more docs doc rising below = IsNonDecreasingBy-push (λ d. d) docs doc rising (λ d some.
    below (length docs - 1) d (omega (arith, some)))

pub docs_length : (each : ℕ) (numbers listed : List ℕ) → length listed ≤ length numbers
    → length (range_with_len 0 (length numbers - length listed) ++ listed) ≡ length numbers
docs_length each numbers listed few = omega (
  arith,
  few,
  length-append (range_with_len 0 (length numbers - length listed)) listed,
  length-range_with_len 0 (length numbers - length listed),
)

module _ (numbers listed : List ℕ) (doc number : ℕ) (few : length listed ≤ length numbers)
    (rising : IsNonDecreasing (range_with_len 0 (length numbers - length listed) ++ listed))
    (after : All (λ r. r.0 ≤ doc)
    (zip (range_with_len 0 (length numbers - length listed) ++ listed) numbers)) where
  abbrev docs : List ℕ
  docs = range_with_len 0 (length numbers - length listed) ++ listed

  len : length docs ≡ length numbers
  len = docs_length 0 numbers listed few

  below : All (λ d. d ≤ doc) docs
  below = firsts_all (λ d. d ≤ doc) docs numbers len after

  -- one more for the next document
  next_docs : length listed ≡ 0 → length numbers ≡ doc
      → range_with_len 0 (length (numbers ++ number ∷ []) - length listed) ++ listed
      ≡ docs ++ doc ∷ []
  next_docs none here = by_list listed none
    where
      by_list : (xs : List ℕ) → length xs ≡ 0
          → range_with_len 0 (length (numbers ++ number ∷ []) - length xs) ++ xs
          ≡ (range_with_len 0 (length numbers - length xs) ++ xs) ++ doc ∷ []
      by_list [] empty =
          let more : length (numbers ++ number ∷ []) - 0 ≡ (length numbers - 0) + 1 =
          omega (arith, length-append numbers (number ∷ [])) in
          let there : 0 + (length numbers - 0) ≡ doc = omega (arith, here) in
          append-nil (range_with_len 0 (length (numbers ++ number ∷ []) - 0))
          ∙ ap (range_with_len 0) more ∙ range_more 0 (length numbers - 0)
          ∙ ap (λ k. range_with_len 0 (length numbers - 0) ++ k ∷ []) there
          ∙ ap (λ r. r ++ doc ∷ []) (sym (append-nil (range_with_len 0 (length numbers - 0))))
      by_list (x ∷ xs) empty = absurd (omega (arith, empty))

  -- one more for a document that is listed
  listed_docs : range_with_len 0 (length (numbers ++ number ∷ []) - length (listed ++ doc ∷ []))
      ++ (listed ++ doc ∷ []) ≡ docs ++ doc ∷ []
  listed_docs =
      let same : length (numbers ++ number ∷ []) - length (listed ++ doc ∷ [])
      ≡ length numbers - length listed = omega (
        arith,
        length-append numbers (number ∷ []),
        length-append listed (doc ∷ []),
      ) in
      ap (λ k. range_with_len 0 k ++ (listed ++ doc ∷ [])) same
      ∙ sym (append_assoc (range_with_len 0 (length numbers - length listed)) listed (doc ∷ []))

  pub next_rows : length listed ≡ 0 → length numbers ≡ doc
      → zip (range_with_len 0 (length (numbers ++ number ∷ []) - length listed) ++ listed)
      (numbers ++ number ∷ []) ≡ zip docs numbers ++ (doc, number) ∷ []
  next_rows none here = ap (λ ds. zip ds (numbers ++ number ∷ [])) (next_docs none here)
      ∙ zip_more docs numbers doc number len

  pub next_rise : length listed ≡ 0 → length numbers ≡ doc
      → IsNonDecreasing (range_with_len 0 (length (numbers ++ number ∷ []) - length listed)
      ++ listed)
  next_rise none here = subst (λ ds. IsNonDecreasing ds) (sym (next_docs none here))
      (rise_more docs doc rising below)

  pub listed_rows : zip (range_with_len 0 (length (numbers ++ number ∷ [])
      - length (listed ++ doc ∷ [])) ++ (listed ++ doc ∷ [])) (numbers ++ number ∷ [])
      ≡ zip docs numbers ++ (doc, number) ∷ []
  listed_rows = ap (λ ds. zip ds (numbers ++ number ∷ [])) listed_docs
      ∙ zip_more docs numbers doc number len

  pub listed_rise : IsNonDecreasing (range_with_len 0 (length (numbers ++ number ∷ [])
      - length (listed ++ doc ∷ [])) ++ (listed ++ doc ∷ []))
  listed_rise = subst (λ ds. IsNonDecreasing ds) (sym listed_docs)
      (rise_more docs doc rising below)

-- ---- the document of a number

pub doc_at_front : (numbers listed : List ℕ) (at : ℕ) → at < length numbers - length listed
    → at ≡ get_or (range_with_len 0 (length numbers - length listed) ++ listed) at 0
doc_at_front numbers listed at l =
    let each = length numbers - length listed in
    let there : 0 + at ≡ at = omega arith in
    sym (get_or_append_left (range_with_len 0 each) listed 0 at
    (omega (arith, l, length-range_with_len 0 each))
    ∙ get_or-range_with_len 0 each at 0 l ∙ there)

pub doc_at_back : (numbers listed : List ℕ) (at : ℕ) → length numbers - length listed ≤ at
    → get_or listed (at - (length numbers - length listed)) 0
    ≡ get_or (range_with_len 0 (length numbers - length listed) ++ listed) at 0
doc_at_back numbers listed at l =
    let each = length numbers - length listed in
    let len : length (range_with_len 0 each) ≡ each = length-range_with_len 0 each in
    sym (get_or-append_right (range_with_len 0 each) listed each at 0 len l)

-- ---- the first numbers

range_take : (a n k : ℕ) → k ≤ n → take k (range_with_len a n) ≡ range_with_len a k
range_take a n zero low = refl
range_take a zero (suc k) low = absurd (omega (arith, low))
range_take a (suc n) (suc k) low = ap (λ r. a ∷ r) (range_take (a + 1) n k (omega (arith, low)))

-- the documents of the first numbers
pub docs_take : (numbers listed : List ℕ) (count : ℕ) → length listed ≤ length numbers
    → count ≤ length numbers
    → range_with_len 0 (length (take count numbers)
    - length (take (count - (length numbers - length listed)) listed))
    ++ take (count - (length numbers - length listed)) listed
    ≡ take count (range_with_len 0 (length numbers - length listed) ++ listed)
docs_take numbers listed count few low = elim (cases_lt count (length numbers - length listed)) [
  | inl short ↦
      let each = length numbers - length listed in
      let none : count - each ≡ 0 = omega (arith, short) in
      let as_long : length (take count numbers) - 0 ≡ count =
      omega (arith, length_take count numbers low) in
      rw none (append-nil (range_with_len 0 (length (take count numbers) - 0))
      ∙ ap (range_with_len 0) as_long
      ∙ sym (range_take 0 each count (omega (arith, short)))
      ∙ sym (take-append-le count (range_with_len 0 each) listed
      (omega (arith, short, length-range_with_len 0 each))))
  | inr past ↦
      let each = length numbers - length listed in
      let len : length (range_with_len 0 each) ≡ each = length-range_with_len 0 each in
      let short : length (take (count - each) listed) ≡ count - each =
      length_take (count - each) listed (omega (arith, few, low, past)) in
      let as_long : length (take count numbers) - length (take (count - each) listed) ≡ each =
      omega (arith, length_take count numbers low, short, past, few) in
      ap (λ k. range_with_len 0 k ++ take (count - each) listed) as_long
      ∙ sym (take_past (range_with_len 0 each) listed count (omega (arith, past, len))
      ∙ ap (λ k. range_with_len 0 each ++ take (count - k) listed) len)
]
  where
    length_take : (k : ℕ) (xs : List ℕ) → k ≤ length xs → length (take k xs) ≡ k
    length_take k xs low = grind (arith, length-take k xs, low)

    take_past : (xs ys : List ℕ) (k : ℕ) → length xs ≤ k
        → take k (xs ++ ys) ≡ xs ++ take (k - length xs) ys
    take_past [] ys k low = ap (λ n. take n ys) (let same : k ≡ k - 0 = omega arith in same)
    take_past (x ∷ xs) ys zero low = absurd (omega (arith, low))
    take_past (x ∷ xs) ys (suc k) low =
        let same : k - length xs ≡ suc k - suc (length xs) = omega arith in
        ap (λ r. x ∷ r) (take_past xs ys k (omega (arith, low))
        ∙ ap (λ n. xs ++ take n ys) same)

-- what is filtered is what comes first
pub filter_front : (p : ℕ → Bool) (docs numbers : List ℕ) (count : ℕ)
    → length docs ≡ length numbers → ((k : ℕ) → k < count → p (get_or docs k 0) ≡ true)
    → ((k : ℕ) → count ≤ k → k < length docs → p (get_or docs k 0) ≡ false)
    → take count (zip docs numbers) ≡ filter (λ r. p r.0) (zip docs numbers)
filter_front p [] numbers zero same before after = refl
filter_front p [] numbers (suc count) same before after = refl
filter_front p (d ∷ docs) [] count same before after = absurd (omega (arith, same))
filter_front p (d ∷ docs) (n ∷ numbers) zero same before after =
    let out : p d ≡ false = after 0 (omega arith) (omega arith) in
    rw out (filter_front p docs numbers zero (omega (arith, same)) (λ k l. absurd (omega
    (arith, l)))
    (λ k low l. after (suc k) (omega arith) (omega (arith, l))))
filter_front p (d ∷ docs) (n ∷ numbers) (suc count) same before after =
    let in' : p d ≡ true = before 0 (omega arith) in
    rw in' (ap (λ r. (d, n) ∷ r) (filter_front p docs numbers count (omega (arith, same))
    (λ k l. before (suc k) (omega (arith, l)))
    (λ k low l. after (suc k) (omega (arith, low)) (omega (arith, l)))))

module _ (numbers listed : List ℕ) (count doc : ℕ) (few : length listed ≤ length numbers)
    (rising : IsNonDecreasing (range_with_len 0 (length numbers - length listed) ++ listed))
    (low : count ≤ length numbers) (before : (k : ℕ) → k < count
    → get_or (range_with_len 0 (length numbers - length listed) ++ listed) k 0 < doc)
    (after : (k : ℕ) → count ≤ k → k < length numbers
    → doc ≤ get_or (range_with_len 0 (length numbers - length listed) ++ listed) k 0) where
  abbrev all : List ℕ
  all = range_with_len 0 (length numbers - length listed) ++ listed

  pub kept_rows : zip (range_with_len 0 (length (take count numbers)
      - length (take (count - (length numbers - length listed)) listed))
      ++ take (count - (length numbers - length listed)) listed) (take count numbers)
      ≡ filter (λ r. nat_lt r.0 doc) (zip all numbers)
  kept_rows =
      let len : length all ≡ length numbers = docs_length 0 numbers listed few in
      ap (λ ds. zip ds (take count numbers)) (docs_take numbers listed count few low)
      ∙ zip_take count all numbers
      ∙ filter_front (λ d. nat_lt d doc) all numbers count len (λ k l.
      let under = before k l in grind (arith, nat_tests))
      (λ k up l. let over = after k up (omega (arith, l, len)) in grind (arith, nat_tests))

  pub kept_rise : IsNonDecreasing (range_with_len 0 (length (take count numbers)
      - length (take (count - (length numbers - length listed)) listed))
      ++ take (count - (length numbers - length listed)) listed)
  kept_rise = subst (λ ds. IsNonDecreasing ds) (sym (docs_take numbers listed count few low))
      (IsNonDecreasingBy-take (λ d. d) count all rising)

-- ---- other numbers that replace those that are there

pub encoded_rows : {K : Type 0} (docs olds news : List ℕ) (f g : ℕ → K)
    → length news ≡ length olds
    → ((k : ℕ) → k < length olds → f (get_or news k 0) ≡ g (get_or olds k 0))
    → map {B = ℕ × K} (λ r. (r.0, f r.1)) (zip docs news)
    ≡ map {B = ℕ × K} (λ r. (r.0, g r.1)) (zip docs olds)
encoded_rows [] olds news f g same each = refl
encoded_rows (d ∷ docs) [] [] f g same each = refl
encoded_rows (d ∷ docs) [] (m ∷ news) f g same each = absurd (omega (arith, same))
encoded_rows (d ∷ docs) (n ∷ olds) [] f g same each = absurd (omega (arith, same))
encoded_rows {K} (d ∷ docs) (n ∷ olds) (m ∷ news) f g same each =
    ap (λ k. let r : ℕ × K = (d, k) in r ∷ map {B = ℕ × K} (λ r. (r.0, f r.1)) (zip docs news))
    (each 0 (omega arith))
    ∙ ap (λ rs. let r : ℕ × K = (d, g n) in r ∷ rs)
    (encoded_rows docs olds news f g (omega (arith, same)) (λ k l. each (suc k) (omega (arith, l))))

pub seconds_all : (P : ℕ → Type 0) (docs numbers : List ℕ)
    → ((k : ℕ) → k < length numbers → P (get_or numbers k 0)) → All (λ r. P r.1) (zip docs numbers)
seconds_all P [] numbers each k d l = absurd (omega (arith, l))
seconds_all P (e ∷ docs) [] each k d l = absurd (omega (arith, l))
seconds_all P (e ∷ docs) (n ∷ numbers) each zero d l = each 0 (omega arith)
seconds_all P (e ∷ docs) (n ∷ numbers) each (suc k) d l =
    seconds_all P docs numbers (λ i in'. each (suc i) (omega (arith, in'))) k d (omega (arith, l))

pub all_seconds : (P : ℕ → Type 0) (docs numbers : List ℕ) → length docs ≡ length numbers
    → All (λ r. P r.1) (zip docs numbers) → All P numbers
all_seconds P [] [] same all k d l = absurd (omega (arith, l))
all_seconds P [] (n ∷ numbers) same all k d l = absurd (omega (arith, same))
all_seconds P (e ∷ docs) [] same all k d l = absurd (omega (arith, same))
all_seconds P (e ∷ docs) (n ∷ numbers) same all zero d l = All-head (λ (r : ℕ × ℕ). P r.1) (e, n)
    (zip docs numbers) all
all_seconds P (e ∷ docs) (n ∷ numbers) same all (suc k) d l =
    all_seconds P docs numbers (omega (arith, same))
    (All-tail (λ (r : ℕ × ℕ). P r.1) (e, n) (zip docs numbers) all) k d (omega (arith, l))
