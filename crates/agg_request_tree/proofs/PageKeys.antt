-- Ascending keys: that they differ, that there is one list of the lowest of a kind, and their
-- fronts.
use Rattle.std.proofs.Common.{◌≡◌, ◌≢◌, ℕ, suc, ◌+◌, ◌-◌, ◌<◌, ◌≤◌, ◌⊎◌, ⊎_elim, inl, inr}
use Rattle.std.proofs.Common.{List, [], ◌∷◌, ◌++◌, zero, length, get_or, take, map, refl}
use Rattle.std.proofs.Common.{sym, ap, ◌∙◌, subst, arith, Ordering, Less, Equal, Greater}
use Rattle.std.specs.Cmp.{IsTotalOrder}
use Rattle.std.specs.Ordering.{ordering_reverse}
use Rattle.std.specs.List.{All, AllByRecursion, AllPairs, Contains}
use Rattle.std.specs.List.Sorted.{IsStrictlySortedBy}
use Rattle.std.proofs.lemmas.Cmp.{tied_itself}
use Rattle.std.proofs.lemmas.List.{get_or-map, get_or-take, get_or_default, length-append}
use Rattle.std.proofs.lemmas.List.{length-map, length-take, length-take-le}
use Rattle.std.proofs.lemmas.Map.Keys.{Less-from_sorted, sorted_head, sorted_tail}
use Rattle.std.proofs.lemmas.Bool.{cases_lt}
use Rattle.agg_request_tree.proofs.Lists.{Has, AllByRecursion-Has, AllByRecursion-append}
use Rattle.agg_request_tree.proofs.Lists.{AllByRecursion-both, AllByRecursion-from_Has}
use Rattle.agg_request_tree.proofs.Lists.{AllByRecursion-take, Has-append_left, Has-append_right}
pub use Rattle.agg_request_tree.proofs.Lists.{AllByRecursion-weaker}

-- keys ascend, are of the kind M and no more than n, and a key of the kind that isn't among them is
-- above them all, where they are n
pub record Lowest {K : Type 0} (R : K → K → Ordering) (M : K
    → Type 0) (n : ℕ) (ks : List K) : Type 0 where
  pub ascending : IsStrictlySortedBy R ks
  pub short : length ks ≤ n
  pub listed : AllByRecursion M ks
  pub complete : (k : K) → M k → ¬ (Has k ks) → AllByRecursion (λ l. R l k ≡ Less) ks
      × (length ks ≡ n)

-- the lowest keys of a kind are those of a kind that the same keys are of
pub Lowest-alike : {K : Type 0} (R : K → K → Ordering) (M N : K → Type 0) → ((x : K) → M x → N x)
    → ((x : K) → N x → M x) → (n : ℕ) (ks : List K) → Lowest R M n ks → Lowest R N n ks
Lowest-alike R M N there back n ks low = record {
  ascending = low.ascending;
  short = low.short;
  listed = AllByRecursion-weaker M N there ks low.listed;
  complete = λ x kind out. low.complete x (back x kind) out;
}

module _ {K : Type 0} (R : K → K → Ordering) (total : IsTotalOrder R) where
  -- no key is below itself
  not_below_itself : (k : K) → R k k ≡ Less → ⊥
  not_below_itself k less = let same = tied_itself total k in cc

  -- no two keys are each below the other
  pub not_both_below : (k l : K) → R k l ≡ Less → R l k ≡ Less → ⊥
  not_both_below k l less back = not_below_itself k (total.trans k l k less back)

  -- what ascends by its keys has a key once
  pub AllPairs-from_sorted : {X : Type 0} (key : X → K) (xs : List X)
      → IsStrictlySortedBy R (map key xs) → AllPairs (λ x y. key x ≢ key y) xs
  AllPairs-from_sorted key xs up i j d before within same =
      let lengths = length-map xs key in
      let less = Less-from_sorted R (map key xs) i j (key d) up before (omega arith) in
      let first = get_or-map key xs i d (key d) (omega arith) ∙ same in
      let second = get_or-map key xs j d (key d) within in
      not_below_itself (key (get_or xs j d)) (subst (λ z. R z (key (get_or xs j d)) ≡ Less) first
      (subst (λ z. R (get_or (map key xs) i (key d)) z ≡ Less) second less))

  -- a key below the first of ascending keys isn't among them
  pub absent_below : (k l : K) (ls : List K) → IsStrictlySortedBy R (l ∷ ls) → R k l ≡ Less
      → Has k (l ∷ ls) → ⊥
  absent_below k l ls up less (inl e) = not_below_itself k (subst (λ z. R k z ≡ Less) e less)
  absent_below k l ls up less (inr h) = not_both_below k l less (AllByRecursion-Has (λ y. R l y
      ≡ Less) ls k (sorted_head R l ls up) h)

  -- a key of the kind isn't below the first of the lowest
  none_below : (M : K → Type 0) (n : ℕ) (k l : K) (ls : List K) → M k → Lowest R M n (l ∷ ls)
      → R k l ≡ Less → ⊥
  none_below M n k l ls kind low less = not_both_below k l less
      ((low.complete k kind (absent_below k l ls low.ascending less)).0).0

  -- the first of two lists of the lowest keys are the same
  same_first : (M : K → Type 0) → ((x y : K) → M x → M y → R x y ≡ Equal → x ≡ y)
      → (n : ℕ) (k l : K) (ks ls : List K)
      → Lowest R M n (k ∷ ks) → Lowest R M n (l ∷ ls) → (o : Ordering) → R k l ≡ o → k ≡ l
  same_first M exact n k l ks ls a b Less is = absurd (none_below M n k l ls a.listed.0 b is)
  same_first M exact n k l ks ls a b Equal is = exact k l a.listed.0 b.listed.0 is
  same_first M exact n k l ks ls a b Greater is = absurd (none_below M n l k ks b.listed.0 a
      (total.antisymm l k ∙ ap ordering_reverse is))

  -- a key above the first is among the keys only after the first
  not_first : (M : K → Type 0) (k x : K) (ks : List K) → R k x ≡ Less → ¬ (Has x ks)
      → ¬ (Has x (k ∷ ks))
  not_first M k x ks above out (inl e) = not_below_itself k (subst (λ z. R k z ≡ Less) (sym e)
      above)
  not_first M k x ks above out (inr h) = out h

  -- after the first stand the lowest of the keys above it
  others : (M : K → Type 0) (n : ℕ) (k : K) (ks : List K) → Lowest R M n (k ∷ ks)
      → Lowest R (λ x. M x × (R k x ≡ Less)) (n - 1) ks
  others M n k ks low = record {
    ascending = sorted_tail R k ks low.ascending;
    short = let h = low.short in omega arith;
    listed = AllByRecursion-both M (λ x. R k x ≡ Less) ks low.listed.1
        (sorted_head R k ks low.ascending);
    complete = λ x kind out. let h = low.complete x kind.0 (not_first M k x ks kind.1 out) in
        (h.0.1, (let e = h.1 in omega arith));
  }

  -- there is one list of the lowest keys, where keys of the kind that compare as equal are one
  pub Lowest-same : (ks ls : List K) (M : K → Type 0) → ((x y : K) → M x → M y → R x y ≡ Equal
      → x ≡ y) → (n : ℕ) → Lowest R M n ks → Lowest R M n ls → ks ≡ ls
  Lowest-same [] [] M exact n a b = refl
  Lowest-same [] (l ∷ ls) M exact n a b = let e = (a.complete l b.listed.0 (λ h. h)).1 in
      let h = b.short in absurd (omega arith)
  Lowest-same (k ∷ ks) [] M exact n a b = let e = (b.complete k a.listed.0 (λ h. h)).1 in
      let h = a.short in absurd (omega arith)
  Lowest-same (k ∷ ks) (l ∷ ls) M exact n a b =
      let first = same_first M exact n k l ks ls a b (R k l) refl in
      let rest = subst (λ z. Lowest R (λ x. M x × (R z x ≡ Less)) (n - 1) ls) (sym first)
      (others M n l ls b) in
      let same = Lowest-same ks ls (λ x. M x × (R k x ≡ Less)) (λ x y m_x m_y e.
      exact x y m_x.0 m_y.0 e) (n - 1) (others M n k ks a) rest in
      λ i. first i ∷ same i

  -- ascending keys, and after them ascending keys that are above them
  pub sorted_append : (ks ls : List K) → IsStrictlySortedBy R ks → IsStrictlySortedBy R ls
      → ((x y : K) → Has x ks → Has y ls → R x y ≡ Less) → IsStrictlySortedBy R (ks ++ ls)
  unfolding IsStrictlySortedBy
  sorted_append [] ls up_ks up_ls above = up_ls
  sorted_append (k ∷ ks) ls up_ks up_ls above = (
    AllByRecursion-append (λ y. R k y ≡ Less) ks ls up_ks.0 (AllByRecursion-from_Has (λ y. R k y
        ≡ Less) ls (λ y h. above k y (inl refl) h)),
    sorted_append ks ls up_ks.1 up_ls (λ x y h_x h_y. above x y (inr h_x) h_y),
  )

  -- the lowest keys of the kind M, and after them the lowest of those that are above them, which
  -- are of the kind N
  pub Lowest-append : (M N : K → Type 0) → ((x : K) → N x → M x) → (n m : ℕ) (ks ls : List K)
      → Lowest R M n ks → Lowest R N m ls
      → ((x y : K) → Has x ks → N y → R x y ≡ Less)
      → ((x : K) → M x → AllByRecursion (λ l. R l x ≡ Less) ks → N x)
      → Lowest R M (n + m) (ks ++ ls)
  Lowest-append M N wider n m ks ls a b above rest = record {
    ascending = sorted_append ks ls a.ascending b.ascending (λ x y h_x h_y.
        above x y h_x (AllByRecursion-Has N ls y b.listed h_y));
    short = let h_a = a.short in let h_b = b.short in rw (length-append ks ls) (omega arith);
    listed = AllByRecursion-append M ks ls a.listed (AllByRecursion-weaker N M wider ls b.listed);
    complete = λ x kind out.
        let first = a.complete x kind (λ h. out (Has-append_left ks ls x h)) in
        let second = b.complete x (rest x kind first.0) (λ h. out (Has-append_right ks ls x h)) in (
          AllByRecursion-append (λ l. R l x ≡ Less) ks ls first.0 second.0,
          (let e = first.1 in
              let f = second.1 in length-append ks ls ∙ (λ i. e i + f i)),
        );
  }

module _ {K : Type 0} (R : K → K → Ordering) (total : IsTotalOrder R) (M : K
    → Type 0) (exact : (x y : K) → M x → M y → R x y ≡ Equal → x ≡ y) where
  -- a key that compares otherwise than as equal is another
  apart : (k l : K) (o : Ordering) → R k l ≡ o → (o ≡ Equal → ⊥) → k ≡ l → ⊥
  apart k l o is differs same = differs (sym is ∙ subst (λ z. R k z ≡ Equal) same
      (tied_itself total k))

  -- a key is among the others or not, and so among all, by how it compares with the first
  among_by_first : (x k : K) (ks : List K) → M x → M k → Has x ks ⊎ ¬ (Has x ks) → (o : Ordering)
      → R k x ≡ o → Has x (k ∷ ks) ⊎ ¬ (Has x (k ∷ ks))
  among_by_first x k ks m_x m_k (inl h) o is = inl (inr h)
  among_by_first x k ks m_x m_k (inr out) Less is = inr (λ h. ⊎_elim (apart k x Less is (λ e. cc))
      out h)
  among_by_first x k ks m_x m_k (inr out) Equal is = inl (inl (exact k x m_k m_x is))
  among_by_first x k ks m_x m_k (inr out) Greater is =
      inr (λ h. ⊎_elim (apart k x Greater is (λ e. cc)) out h)

  -- a key is among keys or not, where keys of the kind that compare as equal are one
  pub among_or_not : (x : K) (ks : List K) → M x → AllByRecursion M ks → Has x ks ⊎ ¬ (Has x ks)
  among_or_not x [] m_x all = inr (λ h. h)
  among_or_not x (k ∷ ks) m_x all = among_by_first x k ks m_x all.0 (among_or_not x ks m_x all.1)
      (R k x) refl

-- a front of an ascending list ascends
pub IsStrictlySortedBy-take : {K : Type 0} (R : K → K → Ordering) (n : ℕ) (ks : List K)
    → IsStrictlySortedBy R ks → IsStrictlySortedBy R (take n ks)
unfolding IsStrictlySortedBy
IsStrictlySortedBy-take R zero ks up = tt
IsStrictlySortedBy-take R (suc n) [] up = tt
IsStrictlySortedBy-take R (suc n) (k ∷ ks) up = (
  AllByRecursion-take (λ y. R k y ≡ Less) n ks up.0,
  IsStrictlySortedBy-take R n ks up.1,
)

-- the front of an ascending list holds an element of the list, or it is full and all in it is below
-- the element
pub in_front_or_above : {K : Type 0} (R : K → K → Ordering) (n : ℕ) (ks : List K) (k : K)
    → IsStrictlySortedBy R ks → Contains ks k
    → Contains (take n ks) k ⊎ (All (λ l. R l k ≡ Less) (take n ks) × (length (take n ks) ≡ n))
in_front_or_above R n ks k up c = by_place (cases_lt c.0 n)
  where
    by_place : (c.0 < n) ⊎ (n ≤ c.0) → Contains (take n ks) k ⊎ (All (λ l. R l k ≡ Less) (take n ks)
        × (length (take n ks) ≡ n))
    by_place (inl lt) = inl (c.0, simp length-take (omega arith), get_or-take n ks c.0 k lt ∙ c.2)
    by_place (inr le) = inr (below, length-take-le n ks (omega arith))
      where
        below : All (λ l. R l k ≡ Less) (take n ks)
        below j d lt =
            let within : j < n = omega (arith, length-take n ks) in
            let less = Less-from_sorted R ks j c.0 d up (omega arith) c.1 in
            let there = get_or_default ks c.0 d k c.1 ∙ c.2 in
            rw (get_or-take n ks j d within) (subst (λ l. R (get_or ks j d) l ≡ Less) there less)
