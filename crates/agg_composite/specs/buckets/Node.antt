-- One node: the buckets of a composite by parent and tuple, and what it hands down.
use Rattle.std.specs.Prelude.{◌≡◌, ◌<◌, ◌≤◌, ◌^◌, ◌+◌, ◌++◌, ◌⊎◌, ⊤, ℕ, List, []}
use Rattle.std.specs.Prelude.{◌∷◌, Bool, true, Option, None, Some, length, get_or}
use Rattle.std.specs.BTreeMap.{is_at}
use Rattle.std.specs.List.{sum_by}
use Rattle.std.specs.List.Sorted.{IsStrictlySortedBy}
use Rattle.std.specs.Map.{keys_of, lookup}
use Rattle.std.specs.declared.cmp.Ordering.{Ordering}
use Rattle.agg_cache.specs.Waiting.{docs_of, is_id}
use Rattle.agg_composite.specs.buckets.Page.{AddsAtMost, IsAbove, Page}
use Rattle.agg_composite.specs.buckets.Visits.{Owner, Visit, Within, docs_in, is_owner, visits_at}
use Rattle.agg_composite.specs.declared.buckets.bucket.Bucket.{Bucket}

-- the buckets of each parent, how many a parent may have, the next id, the documents that were
-- visited under ids and not handed on yet, and the parent and the document that are visited now
pub record Node (S : Type 0) : Type 0 where
  pub parents : List (Page S)
  pub size : ℕ
  pub next : ℕ
  pub pushes : List (ℕ × ℕ)
  pub parent : ℕ
  pub doc : ℕ

-- a number counts the buckets of all parents: each took an id below the next, which has 32 bits
pub record Counts {S : Type 0} (num : ℕ) (parents : List (Page S)) (next : ℕ) : Type 0 where
  pub exact : num ≡ sum_by length parents
  pub few : num ≤ next
  pub fits : next < 2 ^ 32

-- each tuple of each parent's buckets was there, or is this
abbrev pub HoldsAtMost : {S : Type 0} → (S → S → Ordering) → S → Node S → Node S → Type 0
HoldsAtMost R t old new =
    (parent : ℕ) → AddsAtMost R t (get_or old.parents parent []) (get_or new.parents parent [])

-- ---- a node is right for what it visited

-- a bucket of an owner is right: its documents are handed on under its id, and counted
pub record Right {A : Type 0} (own : A → Bool) (visits : List (A × ℕ)) (handed : List (ℕ × ℕ))
    (next : ℕ) (b : Bucket) : Type 0 where
  pub exact : docs_of (is_id b.id) handed ≡ docs_of own visits
  pub counted : b.count ≡ length (docs_of own visits)
  pub some : 0 < b.count
  pub low : b.id < next

-- what an owner has is right: a bucket, or none where it has no visit or is above a full page
abbrev pub IsRightFor : {A : Type 0} → (A → Bool) → List (A × ℕ) → List (ℕ × ℕ) → ℕ → Type 0
    → Option Bucket → Type 0
IsRightFor own visits handed next above None = (docs_of own visits ≡ []) ⊎ above
IsRightFor own visits handed next above (Some b) = Right own visits handed next b

module _ {S : Type 0} (R : S → S → Ordering) where
  -- the bucket of an owner
  abbrev pub found : List (Page S) → Owner S → Option Bucket
  found parents o = lookup (is_at (R o.1)) (get_or parents o.0 [])

  -- the page of an owner's parent is full, and below its tuple
  abbrev pub IsPast : ℕ → List (Page S) → Owner S → Type 0
  IsPast size parents o = IsAbove R size (get_or parents o.0 []) o.1

  -- the buckets of each parent ascend
  abbrev pub AreAscending : List (Page S) → Type 0
  AreAscending parents = (p : ℕ) → IsStrictlySortedBy R (keys_of (get_or parents p []))

  -- how a bucket of an owner came of another, after so many visits: it keeps its id, a new one has
  -- an id that wasn't given, and one that is gone is above a full page
  abbrev pub IsGrown : ℕ → ℕ → Type 0 → Option Bucket → Option Bucket → Type 0
  IsGrown next n above None None = ⊤
  IsGrown next n above None (Some c) = (c.count ≤ n) × (next ≤ c.id)
  IsGrown next n above (Some b) None = above
  IsGrown next n above (Some b) (Some c) = (c.id ≡ b.id) × (c.count ≤ b.count + n)

-- no parent has more buckets than so many
abbrev pub AreWithinSize : {S : Type 0} → ℕ → List (Page S) → Type 0
AreWithinSize size parents = (p : ℕ) → length (get_or parents p []) ≤ size

-- the buckets, so many at most for a parent, are right for what was visited and handed on under ids
pub record BucketsFor {S : Type 0} (R : S → S → Ordering) (size : ℕ) (parents : List (Page S))
    (next : ℕ) (visits : List (Visit S)) (handed : List (ℕ × ℕ)) : Type 0 where
  pub ascending : AreAscending R parents
  pub fits : AreWithinSize size parents
  pub right : (o : Owner S)
      → IsRightFor (is_owner R o) visits handed next (IsPast R size parents o) (found R parents o)
  pub ids : (o q : Owner S) (b c : Bucket) → found R parents o ≡ Some b
      → found R parents q ≡ Some c → b.id ≡ c.id → is_owner R o q ≡ true
  pub fresh : (id : ℕ) → next ≤ id → docs_of (is_id id) handed ≡ []
  pub few : next ≤ length handed
  pub part : Within (docs_in handed) (docs_in visits)

-- a node is right for what was visited, where this was handed on before
abbrev pub NodeFor : {S : Type 0} → (S → S → Ordering) → Node S → List (Visit S) → List (ℕ × ℕ)
    → Type 0
NodeFor R node visits handed =
    BucketsFor R node.size node.parents node.next visits (handed ++ node.pushes)

-- ---- calls

-- a new node: one prepared parent, nothing visited
pub record IsNew {S : Type 0} (node : Node S) : Type 0 where
  pub parents : node.parents ≡ [] ∷ []
  pub next : node.next ≡ 0
  pub pushes : node.pushes ≡ []

-- parents are added that have no bucket
pub record Prepares {S : Type 0} (old new : Node S) : Type 0 where
  pub buckets : (p : ℕ) → get_or new.parents p [] ≡ get_or old.parents p []
  pub more : length old.parents ≤ length new.parents
  pub rest : new ≡ record old { parents = new.parents }

-- a node that was right is right with these visits after the others; no parent is added or has
-- fewer buckets, few ids are given, and what is above a full page stays above it
pub record NodeTakes {S : Type 0} (R : S → S → Ordering) (visits : List (Visit S))
    (old new : Node S) : Type 0 where
  pub takes : (visited : List (Visit S)) (handed : List (ℕ × ℕ)) → NodeFor R old visited handed
      → NodeFor R new (visited ++ visits) handed
  pub long : length new.parents ≡ length old.parents
  pub no_fewer : (p : ℕ) → length (get_or old.parents p []) ≤ length (get_or new.parents p [])
  pub size : new.size ≡ old.size
  pub drawn : old.next ≤ new.next
  pub few : new.next ≤ old.next + length visits
  pub grown : (o : Owner S)
      → IsGrown R old.next (length visits) (IsPast R new.size new.parents o)
      (found R old.parents o) (found R new.parents o)
  pub fuller : (o : Owner S) → IsPast R old.size old.parents o → IsPast R new.size new.parents o

-- with so many visits an id would be the last of its type, or a count would pass its type
abbrev pub TooManyVisits : {S : Type 0} → (S → S → Ordering) → ℕ → Node S → Type 0
TooManyVisits {S} R visits node =
    (4294967295 < node.next + visits)
    ⊎ ((o : Owner S) × (b : Bucket) × (found R node.parents o ≡ Some b)
    × (2 ^ 64 ≤ b.count + visits))

-- tuples of the document that is visited now are visited
pub record Takes {S : Type 0} (R : S → S → Ordering) (tuples : List S) (old new : Node S)
    : Type 0 where
  pub node : NodeTakes R (visits_at old.parent old.doc tuples) old new
  pub parent : new.parent ≡ old.parent
  pub doc : new.doc ≡ old.doc

-- the tuples of the document that is visited now are too many
abbrev pub TooMany : {S : Type 0} → (S → S → Ordering) → List S → Node S → Type 0
TooMany R tuples node = TooManyVisits R (length tuples) node
