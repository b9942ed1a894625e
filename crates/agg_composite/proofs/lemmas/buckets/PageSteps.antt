-- A page with one bucket put.
use Rattle.std.proofs.Common.{◌≡◌, ℕ, suc, Bool, true, false, cond, [], ◌∷◌, length}
use Rattle.std.proofs.Common.{Option, Some, None, refl, sym, ap, ◌∙◌, arith, subst, inl}
use Rattle.std.proofs.Common.{Ordering, Less, Equal, Greater}
use Rattle.std.specs.BTreeMap.{insert_entry, is_at}
use Rattle.std.specs.Cmp.{IsTotalOrder}
use Rattle.std.specs.List.{AllByRecursion}
use Rattle.std.specs.List.Sorted.{IsStrictlySortedBy}
use Rattle.std.specs.Map.{keys_of, lookup, set_value}
use Rattle.std.specs.Option.{is_some}
use Rattle.std.specs.Ordering.{is_eq, match_ordering}
use Rattle.std.proofs.lemmas.Cmp.{alike_right, eq_by_cmp_equiv}
use Rattle.std.proofs.lemmas.Map.{keys-set_value, length-set_value, lookup-set_value}
use Rattle.agg_heap_map.proofs.EachItem.{on_entries, on_keys}
use Rattle.agg_heap_map.proofs.InsertionTurns.{tied}
use Rattle.agg_composite.specs.buckets.Page.{IsCountedMore, Page, PageTakes, Puts, more}
use Rattle.agg_composite.specs.declared.buckets.bucket.Bucket.{Bucket}
use Rattle.agg_composite.proofs.lemmas.buckets.Owners.{above-each, at-flips, at-itself, is-above}

module _ {S : Type 0} (R : S → S → Ordering) (total : IsTotalOrder R) where
  -- ---- a bucket that is there

  lookup-set : (t q : S) (b w : Bucket) (page : Page S) → lookup (is_at (R t)) page ≡ Some b
      → lookup (is_at (R q)) (set_value (is_at (R t)) page w)
      ≡ cond (is_at (R t) q) (Some w) (lookup (is_at (R q)) page)
  lookup-set t q b w page was =
      lookup-set_value (eq_by_cmp_equiv total) (is_at (R t))
      (λ x y e. (eq_by_cmp_equiv total).congr t x y e) q w page (ap is_some was)

  puts-more : (size : ℕ) (t : S) (b w : Bucket) (page : Page S)
      → IsStrictlySortedBy R (keys_of page) → lookup (is_at (R t)) page ≡ Some b
      → Puts R size t w page (set_value (is_at (R t)) page w)
  puts-more size t b w page up was =
      let keys = keys-set_value (is_at (R t)) page w in
      let long = length-set_value (is_at (R t)) page w in
      record {
        here = lookup-set t t b w page was
            ∙ ap (λ c. cond c (Some w) (lookup (is_at (R t)) page)) (at-itself R total t);
        others = λ q e. inl
            (lookup-set t q b w page was ∙ ap (λ c. cond c (Some w) (lookup (is_at (R q)) page)) e);
        ascending = subst (IsStrictlySortedBy R) (sym keys) up;
        fits = λ l. omega (arith, l, long);
        no_fewer = omega (arith, long);
        fuller = λ q above.
            is-above R size (set_value (is_at (R t)) page w) q (omega (arith, above.full, long))
            (on_entries (λ l. R l q ≡ Less) (set_value (is_at (R t)) page w)
            (subst (AllByRecursion (λ l. R l q ≡ Less)) (sym keys)
            (on_keys (λ l. R l q ≡ Less) page (above-each R size page q above))));
      }

  -- a visit that counts in a bucket
  pub takes-more : (size next : ℕ) (t : S) (id : ℕ) (old new : Page S)
      → IsCountedMore R t id old new → PageTakes R size t next next old new (Some id)
  takes-more size next t id old new counted =
      inl (
        counted.bucket,
        refl,
        counted.was,
        counted.id_is,
        subst (Puts R size t (more counted.bucket) old) (sym counted.set)
            (puts-more size t counted.bucket (more counted.bucket) old counted.ordered counted.was),
      )

  -- ---- a bucket more

  lookup-insert-by : (o : Ordering) (c d : Bool) (t q : S) (b : Bucket) (e : S × Bucket)
      (page inserted : Page S) → R t e.0 ≡ o → is_at (R q) e.0 ≡ c → is_at (R t) q ≡ d
      → lookup (is_at (R q)) inserted ≡ cond d (Some b) (lookup (is_at (R q)) page)
      → lookup (is_at (R q))
      (match_ordering o ((t, b) ∷ e ∷ page) ((e.0, b) ∷ page) (e ∷ inserted))
      ≡ cond d (Some b) (lookup (is_at (R q)) (e ∷ page))
  lookup-insert-by Less c d t q b e page inserted is at own rest =
      ap (λ x. cond x (Some b) (lookup (is_at (R q)) (e ∷ page))) (at-flips R total q t ∙ own)
  lookup-insert-by Equal c d t q b e page inserted is at own rest =
      let alike : c ≡ d =
      sym at ∙ at-flips R total q e.0
      ∙ sym (ap is_eq (total.congr t e.0 q is)) ∙ own in
      ap (λ x. cond x (Some b) (lookup (is_at (R q)) page)) at
      ∙ replaced c d (Some b) (Some e.1) (lookup (is_at (R q)) page) alike
      ∙ ap (λ x. cond d (Some b) (cond x (Some e.1) (lookup (is_at (R q)) page))) (sym at)
    where
      replaced : (x y : Bool) (u v w : Option Bucket) → x ≡ y
          → cond x u w ≡ cond y u (cond x v w)
      replaced true true u v w same = refl
      replaced false false u v w same = refl
      replaced true false u v w same = absurd (cc same)
      replaced false true u v w same = absurd (cc same)
  lookup-insert-by Greater true d t q b e page inserted is at own rest =
      let apart : d ≡ false =
      sym own ∙ ap is_eq (alike_right total q e.0 t (tied (R q e.0) at) ∙ is) in
      rw (at, apart) refl
  lookup-insert-by Greater false d t q b e page inserted is at own rest =
      rw at rest

  -- an entry is found once it is inserted, and the others as before
  pub lookup-insert : (t q : S) (b : Bucket) (page : Page S)
      → lookup (is_at (R q)) (insert_entry R page t b)
      ≡ cond (is_at (R t) q) (Some b) (lookup (is_at (R q)) page)
  lookup-insert t q b [] = ap (λ x. cond x (Some b) None) (at-flips R total q t)
  lookup-insert t q b (e ∷ page) =
      lookup-insert-by (R t e.0) (is_at (R q) e.0) (is_at (R t) q) t q b e page
      (insert_entry R page t b) refl refl refl (lookup-insert t q b page)

  length-insert-by : (o : Ordering) (t : S) (b : Bucket) (e : S × Bucket)
      (page inserted : Page S) → is_eq o ≡ false → length inserted ≡ suc (length page)
      → length (match_ordering o ((t, b) ∷ e ∷ page) ((e.0, b) ∷ page) (e ∷ inserted))
      ≡ suc (suc (length page))
  length-insert-by Less t b e page inserted apart rest = refl
  length-insert-by Equal t b e page inserted apart rest = cc
  length-insert-by Greater t b e page inserted apart rest = ap suc rest

  head-apart : (c : Bool) (v x : Option Bucket) → cond c v x ≡ None → (v ≡ None → ⊥)
      → (c ≡ false) × (x ≡ None)
  head-apart true v x none some = absurd (some none)
  head-apart false v x none some = (refl, none)

  -- a new tuple is one more entry
  pub length-insert : (t : S) (b : Bucket) (page : Page S) → lookup (is_at (R t)) page ≡ None
      → length (insert_entry R page t b) ≡ suc (length page)
  length-insert t b [] none = refl
  length-insert t b (e ∷ page) none =
      let apart = head-apart (is_at (R t) e.0) (Some e.1) (lookup (is_at (R t)) page) none
      (λ h. cc h) in
      length-insert-by (R t e.0) t b e page (insert_entry R page t b) apart.0
      (length-insert t b page apart.1)
