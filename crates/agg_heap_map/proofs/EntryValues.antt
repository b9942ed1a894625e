-- The values of entries: look-ups and replacements, before or after the entries are put in order.
use Rattle.std.proofs.Common.{◌≡◌, Bool, true, false, cond, List, [], ◌∷◌, Some, refl, sym, ap, ◌∙◌}
use Rattle.std.proofs.Common.{Ordering, Less, Equal, Greater}
use Rattle.std.specs.BTreeMap.{insert_entry, is_at}
use Rattle.std.specs.Cmp.{IsTotalOrder}
use Rattle.std.specs.List.{AllByRecursion, IsDistinct}
use Rattle.std.specs.Map.{keys_of, lookup, set_value}
use Rattle.std.specs.Ordering.{eq_by_cmp, is_eq, match_ordering}
use Rattle.std.proofs.lemmas.Bool.{false≢true}
use Rattle.std.proofs.lemmas.Cmp.{alike_right, tied_itself}
use Rattle.std.proofs.lemmas.Map.Keys.{IsDistinct-head, IsDistinct-tail}
use Rattle.agg_heap_map.specs.EntryOrder.{ascending}
use Rattle.agg_heap_map.proofs.EachItem.{moved, on_entries}
use Rattle.agg_heap_map.proofs.EntryOrder.{EachOnce, ascending-permutes}
use Rattle.agg_heap_map.proofs.InsertionTurns.{Apart, tied}
use Rattle.agg_heap_map.proofs.KeyEquality.{once_by_cmp}

module _ {K X : Type 0} (R : K → K → Ordering) (total : IsTotalOrder R) where
  -- ---- another value

  set-hit-by : (o : Ordering) (k : K) (v w : X) (e : K × X) (es : List (K × X)) → R k e.0 ≡ o
      → is_eq o ≡ false → insert_entry R es k w ≡ set_value (is_at (R k)) (insert_entry R es k v) w
      → match_ordering o ((k, w) ∷ e ∷ es) ((e.0, w) ∷ es) (e ∷ insert_entry R es k w)
      ≡ set_value (is_at (R k))
      (match_ordering o ((k, v) ∷ e ∷ es) ((e.0, v) ∷ es) (e ∷ insert_entry R es k v)) w
  set-hit-by Less k v w e es is apart rest = rw (tied_itself total k) refl
  set-hit-by Equal k v w e es is apart rest = cc
  set-hit-by Greater k v w e es is apart rest = rw is (ap (λ fs. e ∷ fs) rest)

  -- a new key with another value
  set-hit : (es : List (K × X)) (k : K) (v w : X) → AllByRecursion (λ e. Apart R k e.0) es
      → insert_entry R es k w ≡ set_value (is_at (R k)) (insert_entry R es k v) w
  set-hit [] k v w apart = rw (tied_itself total k) refl
  set-hit (e ∷ es) k v w apart =
      set-hit-by (R k e.0) k v w e es refl apart.0 (set-hit es k v w apart.1)

  set-miss-by : (o : Ordering) (b : Bool) (q k : K) (v w : X) (e : K × X) (es : List (K × X))
      → R k e.0 ≡ o → is_at (R q) e.0 ≡ b → is_at (R q) k ≡ false
      → insert_entry R (set_value (is_at (R q)) es w) k v ≡ set_value (is_at (R q))
      (insert_entry R es k v) w
      → insert_entry R (cond b ((e.0, w) ∷ es) (e ∷ set_value (is_at (R q)) es w)) k v
      ≡ set_value (is_at (R q))
      (match_ordering o ((k, v) ∷ e ∷ es) ((e.0, v) ∷ es) (e ∷ insert_entry R es k v)) w
  set-miss-by Less true q k v w e es is at miss rest = rw (is, miss, at) refl
  set-miss-by Less false q k v w e es is at miss rest = rw (is, miss, at) refl
  set-miss-by Equal true q k v w e es is at miss rest =
      absurd (false≢true (sym miss ∙ ap is_eq (alike_right total k e.0 q is) ∙ at))
  set-miss-by Equal false q k v w e es is at miss rest = rw (is, at) refl
  set-miss-by Greater true q k v w e es is at miss rest = rw (is, at) refl
  set-miss-by Greater false q k v w e es is at miss rest = rw (is, at) (ap (λ fs. e ∷ fs) rest)

  -- another key with a value, and a key with another value, in either order
  set-miss : (es : List (K × X)) (q k : K) (v w : X) → is_at (R q) k ≡ false
      → insert_entry R (set_value (is_at (R q)) es w) k v ≡ set_value (is_at (R q))
      (insert_entry R es k v) w
  set-miss [] q k v w miss = rw miss refl
  set-miss (e ∷ es) q k v w miss =
      set-miss-by (R k e.0) (is_at (R q) e.0) q k v w e es refl refl miss (set-miss es q k v w miss)

  ascending-set-by : (b : Bool) (q : K) (w : X) (e : K × X) (es : List (K × X))
      → is_at (R q) e.0 ≡ b → EachOnce R (e ∷ es)
      → ascending R (set_value (is_at (R q)) es w) ≡ set_value (is_at (R q)) (ascending R es) w
      → ascending R (cond b ((e.0, w) ∷ es) (e ∷ set_value (is_at (R q)) es w))
      ≡ set_value (is_at (R q)) (insert_entry R (ascending R es) e.0 e.1) w
  ascending-set-by true q w e es at once rest =
      let o = IsDistinct-tail (eq_by_cmp R) e.0 (keys_of es) once in
      let apart =
      moved (λ f. Apart R e.0 f.0) es (ascending R es) (ascending-permutes R total es o)
      (on_entries (Apart R e.0) es (IsDistinct-head (eq_by_cmp R) e.0 (keys_of es) once)) in
      let test : is_at (R e.0) ≡ is_at (R q) =
      λ i l. is_eq (sym (total.congr q e.0 l (tied (R q e.0) at)) i) in
      set-hit (ascending R es) e.0 e.1 w apart
      ∙ ap (λ t. set_value t (insert_entry R (ascending R es) e.0 e.1) w) test
  ascending-set-by false q w e es at once rest =
      ap (λ fs. insert_entry R fs e.0 e.1) rest ∙ set-miss (ascending R es) q e.0 e.1 w at

  -- a key with another value, before or after the entries are put in order
  pub ascending-set : (es : List (K × X)) (q : K) (w : X) → EachOnce R es
      → ascending R (set_value (is_at (R q)) es w) ≡ set_value (is_at (R q)) (ascending R es) w
  ascending-set [] q w once = refl
  ascending-set (e ∷ es) q w once =
      ascending-set-by (is_at (R q) e.0) q w e es refl once
      (ascending-set es q w (IsDistinct-tail (eq_by_cmp R) e.0 (keys_of es) once))

  -- ---- look-ups

  lookup-added-by : (o : Ordering) (b c : Bool) (q k : K) (v : X) (e : K × X) (es : List (K × X))
      → R k e.0 ≡ o → is_at (R q) e.0 ≡ b → is_at (R q) k ≡ c
      → lookup (is_at (R q)) (insert_entry R es k v) ≡ cond c (Some v) (lookup (is_at (R q)) es)
      → lookup (is_at (R q))
      (match_ordering o ((k, v) ∷ e ∷ es) ((e.0, v) ∷ es) (e ∷ insert_entry R es k v))
      ≡ cond c (Some v) (cond b (Some e.1) (lookup (is_at (R q)) es))
  lookup-added-by Less b c q k v e es is at has rest = rw (has, at) refl
  lookup-added-by Equal true true q k v e es is at has rest = rw at refl
  lookup-added-by Equal true false q k v e es is at has rest =
      absurd (false≢true (sym has ∙ ap is_eq (alike_right total k e.0 q is) ∙ at))
  lookup-added-by Equal false true q k v e es is at has rest =
      absurd (false≢true (sym at ∙ ap is_eq (sym (alike_right total k e.0 q is)) ∙ has))
  lookup-added-by Equal false false q k v e es is at has rest = rw at refl
  lookup-added-by Greater true true q k v e es is at has rest =
      let same : R k e.0 ≡ Equal = sym (total.congr q k e.0 (tied (R q k) has))
      ∙ tied (R q e.0) at in
      absurd (false≢true (ap is_eq (sym is ∙ same)))
  lookup-added-by Greater true false q k v e es is at has rest = rw at refl
  lookup-added-by Greater false true q k v e es is at has rest = rw at rest
  lookup-added-by Greater false false q k v e es is at has rest = rw at rest

  lookup-added : (es : List (K × X)) (q k : K) (v : X)
      → lookup (is_at (R q)) (insert_entry R es k v) ≡ cond (is_at (R q) k) (Some v)
      (lookup (is_at (R q)) es)
  lookup-added [] q k v = refl
  lookup-added (e ∷ es) q k v =
      lookup-added-by (R k e.0) (is_at (R q) e.0) (is_at (R q) k) q k v e es refl refl refl
      (lookup-added es q k v)

  -- what stands at a key, before or after the entries are put in order
  pub lookup-ascending : (es : List (K × X)) (q : K)
      → lookup (is_at (R q)) (ascending R es) ≡ lookup (is_at (R q)) es
  lookup-ascending [] q = refl
  lookup-ascending (e ∷ es) q =
      lookup-added (ascending R es) q e.0 e.1
      ∙ ap (cond (is_at (R q) e.0) (Some e.1)) (lookup-ascending es q)

  twice-by : (o : Ordering) (k : K) (v w : X) (e : K × X) (es : List (K × X)) → R k e.0 ≡ o
      → insert_entry R (insert_entry R es k v) k w ≡ insert_entry R es k w
      → insert_entry R
      (match_ordering o ((k, v) ∷ e ∷ es) ((e.0, v) ∷ es) (e ∷ insert_entry R es k v)) k
      w ≡ match_ordering o ((k, w) ∷ e ∷ es) ((e.0, w) ∷ es) (e ∷ insert_entry R es k w)
  twice-by Less k v w e es is rest = rw (tied_itself total k) refl
  twice-by Equal k v w e es is rest = rw is refl
  twice-by Greater k v w e es is rest = rw is (ap (λ fs. e ∷ fs) rest)

  -- the last of two values stays
  pub insert-twice : (es : List (K × X)) (k : K) (v w : X)
      → insert_entry R (insert_entry R es k v) k w ≡ insert_entry R es k w
  insert-twice [] k v w = rw (tied_itself total k) refl
  insert-twice (e ∷ es) k v w = twice-by (R k e.0) k v w e es refl (insert-twice es k v w)

  -- what was put is found
  pub lookup-put : (es : List (K × X)) (k : K) (v : X)
      → lookup (is_at (R k)) (insert_entry R es k v) ≡ Some v
  lookup-put es k v =
      lookup-added es k k v
      ∙ ap (λ o. cond (is_eq o) (Some v) (lookup (is_at (R k)) es)) (tied_itself total k)

-- ---- by a hash map's own test of keys

module _ {K X : Type 0} (R : K → K → Ordering) (total : IsTotalOrder R) (eq : K → K → Bool)
    (ties : (k l : K) → eq k l ≡ eq_by_cmp R k l) where
  pub lookup-by_eq : (es : List (K × X)) (k : K)
      → lookup (eq k) es ≡ lookup (is_at (R k)) (ascending R es)
  lookup-by_eq es k =
      let test : eq k ≡ is_at (R k) = λ i l. ties k l i in
      ap (λ t. lookup t es) test ∙ sym (lookup-ascending R total es k)

  pub set-by_eq : (es : List (K × X)) (k : K) (w : X) → IsDistinct eq (keys_of es)
      → ascending R (set_value (eq k) es w) ≡ set_value (is_at (R k)) (ascending R es) w
  set-by_eq es k w once =
      let test : eq k ≡ is_at (R k) = λ i l. ties k l i in
      ap (λ t. ascending R (set_value t es w)) test
      ∙ ascending-set R total es k w (once_by_cmp R eq ties (keys_of es) once)
