-- Keys by class.
use Rattle.std.proofs.Common.{◌≡◌, ◌≢◌, ◌<◌, ◌≤◌, ℕ, List, [], ◌∷◌, ◌++◌}
use Rattle.std.proofs.Common.{get_or, cond, true, false, refl, sym, ap, subst, ◌∙◌, inl, inr}
use Rattle.std.proofs.Common.{arith}
use Rattle.std.specs.Prelude.{Bool, ◌==◌, flat_map}
use Rattle.std.specs.List.{All}
use Rattle.std.specs.List.Sorted.{IsPermutation}
use Rattle.std.proofs.lemmas.Bool.{cases_eq, eq-eqb, ne_eqb}
use Rattle.std.proofs.lemmas.List.{append-nil}
use Rattle.std.proofs.lemmas.List.Elements.{filter-append, All-tail, All-head}
use Rattle.std.proofs.lemmas.List.Sorted.{IsPermutation-refl, IsPermutation-cons}
use Rattle.std.proofs.lemmas.List.Sorted.{IsPermutation-trans, IsPermutation-middle}
use Rattle.std.proofs.lemmas.List.Sorted.{IsPermutation-append_right}
use Rattle.agg_values.specs.Column.{class_rank}
use Rattle.agg_values.specs.TypedKey.{CompositeIntermediateKey}
use Rattle.agg_values.specs.declared.typed_key.CompositeIntermediateKey.TheVariants
    as key
use Rattle.agg_segment.specs.storage.Document.{by_class, of_class, class_ranks}

abbrev Keys : Type 0
Keys = List CompositeIntermediateKey

-- ---- the keys of one class

class_none : (keys : Keys) (rank : ℕ) → All (λ k. class_rank k ≢ rank) keys
    → of_class keys rank ≡ []
class_none [] rank none = refl
class_none (k ∷ keys) rank none =
    let P : CompositeIntermediateKey → Type 0 = λ l. class_rank l ≢ rank in
    rw (ne_eqb (class_rank k) rank (All-head P k keys none)) (class_none keys rank
    (All-tail P k keys none))

flat_map_agree : (f g : ℕ → Keys) (rs : List ℕ) → ((r : ℕ) → f r ≡ g r)
    → flat_map f rs ≡ flat_map g rs
flat_map_agree f g [] same = refl
flat_map_agree f g (r ∷ rs) same = ap (λ ks. ks ++ flat_map f rs) (same r) ∙ ap (λ ks. g r ++ ks)
    (flat_map_agree f g rs same)

-- only the keys of each class count
pub same_classes : (xs ys : Keys) → ((rank : ℕ) → of_class xs rank ≡ of_class ys rank)
    → by_class xs ≡ by_class ys
unfolding by_class
same_classes xs ys same = flat_map_agree (of_class xs) (of_class ys) class_ranks same

class_of_class : (keys : Keys) (j r : ℕ)
    → of_class (of_class keys j) r ≡ cond (j == r) (of_class keys r) []
class_of_class [] j r = by_case (j == r)
  where
    by_case : (b : Bool) → let empty : Keys = [] in empty ≡ cond b empty empty
    by_case true = refl
    by_case false = refl
class_of_class (k ∷ keys) j r = elim (cases_eq (class_rank k) j) [
  | inl same ↦ rw (eq-eqb (class_rank k) j same) (rw same (with_head (of_class (of_class keys j) r)
      (of_class keys r) (j == r) k (class_of_class keys j r)))
  | inr other ↦ rw (ne_eqb (class_rank k) j other) (class_of_class keys j r
      ∙ without_head k j r (of_class keys r) other)
]
  where
    with_head : (inner rest : Keys) (b : Bool) (k : CompositeIntermediateKey)
        → inner ≡ cond b rest [] → cond b (k ∷ inner) inner ≡ cond b (cond b (k ∷ rest) rest) []
    with_head inner rest true k is = ap (λ ks. k ∷ ks) is
    with_head inner rest false k is = is

    without_head : (k : CompositeIntermediateKey) (j r : ℕ) (rest : Keys) → class_rank k ≢ j
        → cond (j == r) rest [] ≡ cond (j == r) (cond (class_rank k == r) (k ∷ rest) rest) []
    without_head k j r rest other = elim (cases_eq j r) [
      | inl same ↦ rw (eq-eqb j r same, ne_eqb (class_rank k) r (λ is. other (is ∙ sym same))) refl
      | inr apart ↦ rw (ne_eqb j r apart) refl
    ]

rank_below : (k : CompositeIntermediateKey) → class_rank k < 6
rank_below key.Null = omega arith
rank_below (key.Bool b) = omega arith
rank_below (key.Str t) = omega arith
rank_below (key.I64 n) = omega arith
rank_below (key.U64 n) = omega arith
rank_below (key.IpAddr a) = omega arith
rank_below (key.DateTime n) = omega arith

-- the classes are as they were
pub classes_kept : (keys : Keys) (r : ℕ) → of_class (by_class keys) r ≡ of_class keys r
unfolding by_class
classes_kept keys r =
    let p : CompositeIntermediateKey → Bool = λ k. class_rank k == r in
    let c : ℕ → Keys = of_class keys in
    filter-append p (c 0) (c 1 ++ (c 2 ++ (c 3 ++ (c 4 ++ (c 5 ++ [])))))
    ∙ ap (λ ks. of_class (c 0) r ++ ks)
    (filter-append p (c 1) (c 2 ++ (c 3 ++ (c 4 ++ (c 5 ++ []))))
    ∙ ap (λ ks. of_class (c 1) r ++ ks)
    (filter-append p (c 2) (c 3 ++ (c 4 ++ (c 5 ++ []))) ∙ ap (λ ks. of_class (c 2) r ++ ks)
    (filter-append p (c 3) (c 4 ++ (c 5 ++ [])) ∙ ap (λ ks. of_class (c 3) r ++ ks)
    (filter-append p (c 4) (c 5 ++ []) ∙ ap (λ ks. of_class (c 4) r ++ ks) (filter-append p (c 5)
    [])))))
    ∙ rw (
      class_of_class keys 0 r,
      class_of_class keys 1 r,
      class_of_class keys 2 r,
      class_of_class
          keys 3 r,
      class_of_class keys 4 r,
      class_of_class keys 5 r,
    ) (by_rank (of_class keys r) refl)
  where
    by_rank : (ks : Keys) → of_class keys r ≡ ks
        → cond (0 == r) ks [] ++ (cond (1 == r) ks [] ++ (cond (2 == r) ks [] ++
        (cond (3 == r) ks [] ++ (cond (4 == r) ks [] ++ (cond (5 == r) ks [] ++ []))))) ≡ ks
    by_rank ks is = elim (cases_eq r 0) [
      | inl zeroth ↦ rw zeroth (append-nil ks)
      | inr not0 ↦ elim (cases_eq r 1) [
        | inl first ↦ rw first (append-nil ks)
        | inr not1 ↦ elim (cases_eq r 2) [
          | inl second ↦ rw second (append-nil ks)
          | inr not2 ↦ elim (cases_eq r 3) [
            | inl third ↦ rw third (append-nil ks)
            | inr not3 ↦ elim (cases_eq r 4) [
              | inl fourth ↦ rw fourth (append-nil ks)
              | inr not4 ↦ elim (cases_eq r 5) [
                | inl fifth ↦ rw fifth (append-nil ks)
                | inr not5 ↦
                    let none : of_class keys r ≡ [] = class_none keys r (λ i d l same.
                    let low : class_rank (get_or keys i d) < 6 = rank_below (get_or keys i d) in
                    omega (arith, low, same, not0, not1, not2, not3, not4, not5)) in
                    rw (
                      ne_eqb 0 r (λ e. not0 (sym e)),
                      ne_eqb 1 r (λ e. not1 (sym e)),
                      ne_eqb 2 r
                          (λ e. not2 (sym e)),
                      ne_eqb 3 r (λ e. not3 (sym e)),
                      ne_eqb 4 r (λ e.
                          not4 (sym e)),
                      ne_eqb 5 r (λ e. not5 (sym e)),
                    ) (sym none ∙ is)
              ]
            ]
          ]
        ]
      ]
    ]

pub by_class_twice : (keys : Keys) → by_class (by_class keys) ≡ by_class keys
by_class_twice keys = same_classes (by_class keys) keys (classes_kept keys)

pub by_class_more : (xs ys : Keys) → by_class (by_class xs ++ ys) ≡ by_class (xs ++ ys)
by_class_more xs ys =
    same_classes (by_class xs ++ ys) (xs ++ ys)
    (λ r. filter-append (λ k. class_rank k == r) (by_class xs) ys ∙ ap (λ ks. ks ++ of_class ys r)
    (classes_kept xs r) ∙ sym (filter-append (λ k. class_rank k == r) xs ys))

pub by_class_nil : by_class [] ≡ []
unfolding by_class
by_class_nil = refl

-- ---- keys that are by class already

-- the classes don't fall
abbrev pub Ascends : List CompositeIntermediateKey → Type 0
Ascends [] = Unit {0}
Ascends (k ∷ keys) = All (λ l. class_rank k ≤ class_rank l) keys × Ascends keys

lower_none : (k : CompositeIntermediateKey) (keys : Keys) (r : ℕ)
    → All (λ l. class_rank k ≤ class_rank l) keys → r < class_rank k → of_class keys r ≡ []
lower_none k keys r all l = class_none keys r (λ i d in' same. omega (arith, all i d in', l, same))

first_stays : (k : CompositeIntermediateKey) (keys : Keys)
    → All (λ l. class_rank k ≤ class_rank l) keys → by_class (k ∷ keys) ≡ k ∷ by_class keys
unfolding by_class
first_stays key.Null keys all = refl
first_stays (key.Bool b) keys all = let k : CompositeIntermediateKey = key.Bool b in
    rw (lower_none k keys 0 all (omega arith)) refl
first_stays (key.Str t) keys all = let k : CompositeIntermediateKey = key.Str t in
    rw (lower_none k keys 0 all (omega arith), lower_none k keys 1 all (omega arith)) refl
first_stays (key.I64 n) keys all = let k : CompositeIntermediateKey = key.I64 n in
    rw (
      lower_none k keys 0 all (omega arith),
      lower_none k keys 1 all (omega arith),
      lower_none k
          keys 2 all (omega arith),
    ) refl
first_stays (key.U64 n) keys all = let k : CompositeIntermediateKey = key.U64 n in
    rw (
      lower_none k keys 0 all (omega arith),
      lower_none k keys 1 all (omega arith),
      lower_none k
          keys 2 all (omega arith),
    ) refl
first_stays (key.IpAddr a) keys all =
    let k : CompositeIntermediateKey = key.IpAddr a in
    rw (
      lower_none k keys 0 all (omega arith),
      lower_none k keys 1 all (omega arith),
      lower_none k
          keys 2 all (omega arith),
      lower_none k keys 3 all (omega arith),
    ) refl
first_stays (key.DateTime n) keys all =
    let k : CompositeIntermediateKey = key.DateTime n in
    rw (
      lower_none k keys 0 all (omega arith),
      lower_none k keys 1 all (omega arith),
      lower_none k
          keys 2 all (omega arith),
      lower_none k keys 3 all (omega arith),
      lower_none k keys 4 all
          (omega arith),
    ) refl

pub ascending_stays : (keys : Keys) → Ascends keys → by_class keys ≡ keys
ascending_stays [] up = by_class_nil
ascending_stays (k ∷ keys) up = first_stays k keys up.0
    ∙ ap (λ ks. k ∷ ks) (ascending_stays keys up.1)

-- ---- a list and its keys by class are permutations

-- one key goes after the classes below its own
after : (k : CompositeIntermediateKey) (a b z : Keys) → IsPermutation (b ++ (k ∷ z)) (k ∷ (b ++ z))
    → IsPermutation (a ++ (b ++ (k ∷ z))) (k ∷ (a ++ (b ++ z)))
after k a b z inner = IsPermutation-trans (a ++ (b ++ (k ∷ z))) (a ++ (k ∷ (b ++ z))) (k
    ∷ (a ++ (b ++ z))) (IsPermutation-append_right a (b ++ (k ∷ z)) (k ∷ (b ++ z)) inner)
    (IsPermutation-middle a k (b ++ z))

after3 : (k : CompositeIntermediateKey) (a b c z : Keys)
    → IsPermutation (a ++ (b ++ (c ++ (k ∷ z)))) (k ∷ (a ++ (b ++ (c ++ z))))
after3 k a b c z =
    IsPermutation-trans (a ++ (b ++ (c ++ (k ∷ z)))) (a ++ (k ∷ (b ++ (c ++ z)))) (k
    ∷ (a ++ (b ++ (c ++ z)))) (IsPermutation-append_right a (b ++ (c ++ (k ∷ z))) (k
    ∷ (b ++ (c ++ z))) (after k b c z (IsPermutation-middle c k z)))
    (IsPermutation-middle a k (b ++ (c ++ z)))

after4 : (k : CompositeIntermediateKey) (a b c d z : Keys)
    → IsPermutation (a ++ (b ++ (c ++ (d ++ (k ∷ z))))) (k ∷ (a ++ (b ++ (c ++ (d ++ z)))))
after4 k a b c d z =
    IsPermutation-trans (a ++ (b ++ (c ++ (d ++ (k ∷ z))))) (a ++ (k ∷ (b ++ (c ++ (d ++ z))))) (k
    ∷ (a ++ (b ++ (c ++ (d ++ z)))))
    (IsPermutation-append_right a (b ++ (c ++ (d ++ (k ∷ z)))) (k ∷ (b ++ (c ++ (d ++ z))))
    (after3 k b c d z)) (IsPermutation-middle a k (b ++ (c ++ (d ++ z))))

after5 : (k : CompositeIntermediateKey) (a b c d e z : Keys)
    → IsPermutation (a ++ (b ++ (c ++ (d ++ (e ++ (k ∷ z)))))) (k
    ∷ (a ++ (b ++ (c ++ (d ++ (e ++ z))))))
after5 k a b c d e z =
    IsPermutation-trans (a ++ (b ++ (c ++ (d ++ (e ++ (k ∷ z))))))
    (a ++ (k ∷ (b ++ (c ++ (d ++ (e ++ z)))))) (k ∷ (a ++ (b ++ (c ++ (d ++ (e ++ z))))))
    (IsPermutation-append_right a (b ++ (c ++ (d ++ (e ++ (k ∷ z))))) (k
    ∷ (b ++ (c ++ (d ++ (e ++ z))))) (after4 k b c d e z)) (IsPermutation-middle a k
    (b ++ (c ++ (d ++ (e ++ z)))))

into_class : (k : CompositeIntermediateKey) (keys : Keys)
    → IsPermutation (by_class (k ∷ keys)) (k ∷ by_class keys)
unfolding by_class
into_class key.Null keys = IsPermutation-refl (key.Null ∷ flat_map (of_class keys) class_ranks)
into_class (key.Bool b) keys = let c : ℕ → Keys = of_class keys in
    IsPermutation-middle (c 0) (key.Bool b) (c 1 ++ (c 2 ++ (c 3 ++ (c 4 ++ (c 5 ++ [])))))
into_class (key.Str t) keys = let c : ℕ → Keys = of_class keys in
    let z : Keys = c 2 ++ (c 3 ++ (c 4 ++ (c 5 ++ []))) in
    after (key.Str t) (c 0) (c 1) z (IsPermutation-middle (c 1) (key.Str t) z)
into_class (key.I64 n) keys = let c : ℕ → Keys = of_class keys in
    after3 (key.I64 n) (c 0) (c 1) (c 2) (c 3 ++ (c 4 ++ (c 5 ++ [])))
into_class (key.U64 n) keys = let c : ℕ → Keys = of_class keys in
    after3 (key.U64 n) (c 0) (c 1) (c 2) (c 3 ++ (c 4 ++ (c 5 ++ [])))
into_class (key.IpAddr a) keys = let c : ℕ → Keys = of_class keys in
    after4 (key.IpAddr a) (c 0) (c 1) (c 2) (c 3) (c 4 ++ (c 5 ++ []))
into_class (key.DateTime n) keys = let c : ℕ → Keys = of_class keys in
    after5 (key.DateTime n) (c 0) (c 1) (c 2) (c 3) (c 4) (c 5 ++ [])

pub by_class_moves : (keys : Keys) → IsPermutation (by_class keys) keys
by_class_moves [] = subst (λ ks. IsPermutation ks []) (sym by_class_nil) (IsPermutation-refl [])
by_class_moves (k ∷ keys) = IsPermutation-trans (by_class (k ∷ keys)) (k ∷ by_class keys) (k ∷ keys)
    (into_class k keys) (IsPermutation-cons k (by_class keys) keys (by_class_moves keys))
