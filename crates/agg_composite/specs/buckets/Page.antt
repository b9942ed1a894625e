-- The buckets of one parent: a page of the lowest tuples.
use Rattle.std.specs.Prelude.{◌≡◌, ◌<◌, ◌≤◌, ◌^◌, ◌+◌, ◌++◌, ◌⊎◌, ℕ, List, [], ◌∷◌}
use Rattle.std.specs.Prelude.{All, IsSome, false, Option, None, Some, length, true}
use Rattle.std.specs.BTreeMap.{is_at}
use Rattle.std.specs.List.Sorted.{IsStrictlySortedBy}
use Rattle.std.specs.Map.{keys_of, lookup, set_value}
use Rattle.std.specs.declared.cmp.Ordering.{Ordering}
use Rattle.std.specs.declared.cmp.Ordering.TheVariants.{Less}
use Rattle.agg_composite.specs.declared.buckets.bucket.Bucket.{Bucket}

-- the buckets of a parent, each with its tuple
abbrev pub Page : Type 0 → Type 0
Page S = List (S × Bucket)

-- a bucket with one more document
abbrev pub more : Bucket → Bucket
more b = record { count = b.count + 1; id = b.id }

-- a new bucket, with one document
abbrev pub opened : ℕ → Bucket
opened id = record { count = 1; id = id }

-- a tuple has a bucket on a page
abbrev pub Has : {S : Type 0} → (S → S → Ordering) → Page S → S → Type 0
Has R page t = IsSome (lookup (is_at (R t)) page)

-- each tuple of the new page is of the old one, or is this
abbrev pub AddsAtMost : {S : Type 0} → (S → S → Ordering) → S → Page S → Page S → Type 0
AddsAtMost {S} R t old new = (q : S) → Has R new q → Has R old q ⊎ (is_at (R t) q ≡ true)

-- a tuple is above a full page: so many buckets are there, and each is below the tuple
pub record IsAbove {S : Type 0} (R : S → S → Ordering) (size : ℕ) (page : Page S) (t : S)
    : Type 0 where
  pub full : size ≤ length page
  pub below : All (λ e. R e.0 t ≡ Less) page

-- the tuples of a page ascend, and one has no bucket
pub record IsAbsent {S : Type 0} (R : S → S → Ordering) (page : Page S) (t : S) : Type 0 where
  pub ordered : IsStrictlySortedBy R (keys_of page)
  pub absent : lookup (is_at (R t)) page ≡ None

-- a tuple has this bucket now, and another one the bucket that it had, or none where it is above a
-- full page now
pub record Puts {S : Type 0} (R : S → S → Ordering) (size : ℕ) (t : S) (b : Bucket)
    (old new : Page S) : Type 0 where
  pub here : lookup (is_at (R t)) new ≡ Some b
  pub others : (q : S) → is_at (R t) q ≡ false
      → (lookup (is_at (R q)) new ≡ lookup (is_at (R q)) old)
      ⊎ ((lookup (is_at (R q)) new ≡ None) × IsAbove R size new q)
  pub ascending : IsStrictlySortedBy R (keys_of new)
  pub fits : length old ≤ size → length new ≤ size
  pub no_fewer : length old ≤ length new
  pub fuller : (q : S) → IsAbove R size old q → IsAbove R size new q

-- the bucket of a tuple has one more document, and this id
pub record IsCountedMore {S : Type 0} (R : S → S → Ordering) (t : S) (id : ℕ) (old new : Page S)
    : Type 0 where
  pub ordered : IsStrictlySortedBy R (keys_of old)
  pub bucket : Bucket
  pub was : lookup (is_at (R t)) old ≡ Some bucket
  pub id_is : bucket.id ≡ id
  pub set : new ≡ set_value (is_at (R t)) old (more bucket)

-- the bucket of a tuple has as many documents as a count may say
pub record IsFull {S : Type 0} (R : S → S → Ordering) (page : Page S) (t : S) : Type 0 where
  pub bucket : Bucket
  pub was : lookup (is_at (R t)) page ≡ Some bucket
  pub many : 2 ^ 64 ≤ bucket.count + 1

-- there is room for a tuple: fewer buckets than fit, or the greatest, which is above it, is gone
abbrev pub HasRoom : {S : Type 0} → (S → S → Ordering) → ℕ → S → Page S → Page S → Type 0
HasRoom {S} R size t old new =
    ((new ≡ old) × (length old < size))
    ⊎ ((e : S × Bucket) × (old ≡ new ++ e ∷ []) × (size ≤ length old) × (R t e.0 ≡ Less))

-- a visit of a tuple counts in its bucket, opens one with the next id, or finds the tuple above a
-- full page; the id is that of the bucket
abbrev pub PageTakes : {S : Type 0} → (S → S → Ordering) → ℕ → S → ℕ → ℕ → Page S → Page S
    → Option ℕ → Type 0
PageTakes R size t next next_now old new None =
    (new ≡ old) × (next_now ≡ next) × (lookup (is_at (R t)) old ≡ None) × IsAbove R size old t
PageTakes R size t next next_now old new (Some id) =
    ((b : Bucket) × (next_now ≡ next) × (lookup (is_at (R t)) old ≡ Some b) × (b.id ≡ id)
    × Puts R size t (more b) old new)
    ⊎ ((next_now ≡ next + 1) × (id ≡ next) × (lookup (is_at (R t)) old ≡ None)
    × ¬ (IsAbove R size old t) × Puts R size t (opened next) old new)
