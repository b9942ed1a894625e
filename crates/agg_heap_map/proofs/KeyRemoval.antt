-- A key leaves a list of keys, and its entry leaves a list of entries.
use Rattle.std.proofs.Common.{◌≡◌, Bool, true, false, cond, List, [], ◌∷◌, refl, sym, ap, ◌∙◌}
use Rattle.std.specs.Cmp.{IsEquivalence}
use Rattle.std.specs.List.{AllByRecursion, IsDistinct, list_any}
use Rattle.std.specs.List.Sorted.{IsPermutation}
use Rattle.std.specs.Map.{keys_of, remove_entry}
use Rattle.std.specs.Set.{remove_key}
use Rattle.std.proofs.lemmas.Bool.{false≢true}
use Rattle.std.proofs.lemmas.List.Sorted.{IsPermutation-refl, IsPermutation-cons}
use Rattle.std.proofs.lemmas.List.Sorted.{IsPermutation-trans}
use Rattle.std.proofs.lemmas.Map.Keys.{IsDistinct-IsPermutation, IsDistinct-head, IsDistinct-tail}
use Rattle.agg_heap_map.proofs.Permutations.{along_permutation, turned}

-- ---- a key leaves a list

module _ {K : Type 0} (eq : K → K → Bool) (laws : IsEquivalence eq) (q : K) where
  turn-by : (b c : Bool) (k l : K) (ks : List K) → eq q k ≡ b → eq q l ≡ c → eq k l ≡ false
      → IsPermutation (cond b (l ∷ ks) (k ∷ cond c ks (l ∷ remove_key (eq q) ks)))
      (cond c (k ∷ ks) (l ∷ cond b ks (k ∷ remove_key (eq q) ks)))
  turn-by true true k l ks at has apart =
      absurd (false≢true (sym apart ∙ sym (laws.congr q k l at) ∙ has))
  turn-by true false k l ks at has apart = IsPermutation-refl (l ∷ ks)
  turn-by false true k l ks at has apart = IsPermutation-refl (k ∷ ks)
  turn-by false false k l ks at has apart = turned k l (remove_key (eq q) ks)

  under-by : (b : Bool) (k : K) (ks ls : List K) → IsPermutation ks ls
      → IsPermutation (remove_key (eq q) ks) (remove_key (eq q) ls)
      → IsPermutation (cond b ks (k ∷ remove_key (eq q) ks)) (cond b ls (k ∷ remove_key (eq q) ls))
  under-by true k ks ls whole left = whole
  under-by false k ks ls whole left =
      IsPermutation-cons k (remove_key (eq q) ks) (remove_key (eq q) ls) left

  abbrev Left : List K → List K → Type 0
  Left ks ls =
      IsPermutation ks ls
      × (IsDistinct eq ks → IsPermutation (remove_key (eq q) ks) (remove_key (eq q) ls))

  -- what is left of keys, in another order
  pub remove_key-permutation : (ks ls : List K) → IsPermutation ks ls → IsDistinct eq ks
      → IsPermutation (remove_key (eq q) ks) (remove_key (eq q) ls)
  remove_key-permutation ks ls m once =
      (along_permutation Left
      (λ xs. (IsPermutation-refl xs, λ o. IsPermutation-refl (remove_key (eq q) xs)))
      (λ x xs ys left. (
        IsPermutation-cons x xs ys left.0,
        λ o.
            under-by (eq q x) x xs ys left.0 (left.1 (IsDistinct-tail eq x xs o)),
      ))
      (λ x y xs. (
        turned x y xs,
        λ o.
            turn-by (eq q x) (eq q y) x y xs refl refl (IsDistinct-head eq x (y ∷ xs) o).0,
      ))
      (λ xs ys zs a b. (
        IsPermutation-trans xs ys zs a.0 b.0,
        λ o.
            IsPermutation-trans (remove_key (eq q) xs) (remove_key (eq q) ys) (remove_key (eq q) zs)
            (a.1 o) (b.1 (IsDistinct-IsPermutation eq laws.symm xs ys a.0 o)),
      ))
      ks ls m).1 once

-- ---- an entry leaves a list

module _ {K X : Type 0} (test : K → Bool) where
  keys-left-by : (b : Bool) (e : K × X) (es : List (K × X))
      → keys_of (remove_entry test es) ≡ remove_key test (keys_of es)
      → keys_of (cond b es (e ∷ remove_entry test es)) ≡ cond b (keys_of es)
      (e.0 ∷ remove_key test (keys_of es))
  keys-left-by true e es rest = refl
  keys-left-by false e es rest = ap (λ ks. e.0 ∷ ks) rest

  pub keys-left : (es : List (K × X))
      → keys_of (remove_entry test es) ≡ remove_key test (keys_of es)
  keys-left [] = refl
  keys-left (e ∷ es) = keys-left-by (test e.0) e es (keys-left es)

  -- the entry of a key that passes, before what it leaves
  abbrev pub Split : (K → Type 0) → List (K × X) → Type 0
  Split P es = (e : K × X) × (test e.0 ≡ true) × P e.0 × IsPermutation es (e ∷ remove_entry test es)

  split-by : (P : K → Type 0) (b : Bool) (e : K × X) (es : List (K × X)) → test e.0 ≡ b → P e.0
      → (b ≡ false → Split P es)
      → (f : K × X) × (test f.0 ≡ true) × P f.0
      × IsPermutation (e ∷ es) (f ∷ cond b es (e ∷ remove_entry test es))
  split-by P true e es at own rest = (e, at, own, IsPermutation-refl (e ∷ es))
  split-by P false e es at own rest =
      let s : Split P es = rest refl in
      let front = IsPermutation-cons e es (s.0 ∷ remove_entry test es) s.3 in (
        s.0,
        s.1,
        s.2,
        IsPermutation-trans (e ∷ es) (e ∷ s.0 ∷ remove_entry test es)
            (s.0 ∷ e ∷ remove_entry test es) front (turned e s.0 (remove_entry test es)),
      )

  pub split : (P : K → Type 0) (es : List (K × X)) → AllByRecursion P (keys_of es)
      → list_any test (keys_of es) ≡ true → Split P es
  split P [] all any = absurd (false≢true any)
  split P (e ∷ es) all any =
      split-by P (test e.0) e es refl all.0 (λ miss. split P es all.1 (rw miss at any))
