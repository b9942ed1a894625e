-- Laws of nodes and of cuts.
use Rattle.std.specs.Prelude.{◌≡◌, ◌≤◌, ◌^◌, ◌+◌, ◌++◌, ℕ, zero, suc, List, [], Option, None, Some}
use Rattle.std.specs.Prelude.{count_by, get_or, length}
use Rattle.std.specs.BTreeMap.{is_at}
use Rattle.std.specs.List.Sorted.{IsStrictlySortedBy}
use Rattle.std.specs.Map.{keys_of, lookup}
use Rattle.std.specs.declared.cmp.Ordering.{Ordering}
use Rattle.std.specs.declared.cmp.Ordering.TheVariants.{Equal}
use Rattle.agg_composite.specs.buckets.Cut.{counts_of, cut, groups_of, spread, tuples_under}
use Rattle.agg_composite.specs.buckets.Node.{BucketsFor, Node, NodeFor, NodeTakes, IsNew, Prepares}
use Rattle.agg_composite.specs.buckets.Node.{Takes, TooMany, TooManyVisits}
use Rattle.agg_composite.specs.buckets.Page.{Page}
use Rattle.agg_composite.specs.buckets.Visits.{Visit, visits_at}

-- the buckets of a new node are right for no visits, whatever their number may be; those that are
-- right stay so once parents are prepared, and make a node that is right once a parent is begun
pub record StayRight {S : Type 0} (R : S → S → Ordering) : Type 0 where
  pub new : (node : Node S) (size : ℕ) → IsNew node
      → BucketsFor R size node.parents node.next [] node.pushes
  pub prepared : (old new : Node S) (size : ℕ) (visited : List (Visit S)) (handed : List (ℕ × ℕ))
      → Prepares old new → BucketsFor R size old.parents old.next visited handed
      → BucketsFor R size new.parents new.next visited handed
  pub begun : (node : Node S) (parent size : ℕ) (visited : List (Visit S)) (handed : List (ℕ × ℕ))
      → BucketsFor R size node.parents node.next visited handed
      → NodeFor R (record node { parent = parent; size = size; pushes = [] }) visited handed

-- visits in a row are visits of all, whatever their documents and parents; too many of the later
-- ones are too many with the earlier ones, and are 2^32 or more with all that came before
pub record VisitsCompose {S : Type 0} (R : S → S → Ordering) : Type 0 where
  pub none : (node : Node S) → NodeTakes R [] node node
  pub both : (xs ys : List (Visit S)) (a b c : Node S) → NodeTakes R xs a b → NodeTakes R ys b c
      → NodeTakes R (xs ++ ys) a c
  pub more : (m n : ℕ) (node : Node S) → m ≤ n → TooManyVisits R m node → TooManyVisits R n node
  pub after : (xs : List (Visit S)) (m : ℕ) (a b : Node S) → NodeTakes R xs a b
      → TooManyVisits R m b → TooManyVisits R (length xs + m) a
  pub large : (n : ℕ) (node : Node S) (visited : List (Visit S)) (handed : List (ℕ × ℕ))
      → NodeFor R node visited handed → TooManyVisits R n node → 2 ^ 32 ≤ length visited + n

-- tuples in a row, of the document and the parent that are visited now, are tuples of all, and
-- visits of that document; too many of some are too many with earlier or later ones
pub record TuplesCompose {S : Type 0} (R : S → S → Ordering) : Type 0 where
  pub none : (node : Node S) → Takes R [] node node
  pub both : (ts us : List S) (a b c : Node S) → Takes R ts a b → Takes R us b c
      → Takes R (ts ++ us) a c
  pub more : (ts us : List S) (node : Node S) → TooMany R ts node → TooMany R (ts ++ us) node
  pub after : (ts us : List S) (a b : Node S) → Takes R ts a b → TooMany R us b
      → TooMany R (ts ++ us) a
  pub document : (ts : List S) (doc : ℕ) (a b : Node S) → Takes R ts (record a { doc = doc }) b
      → NodeTakes R (visits_at a.parent doc ts) a b

-- a count of some, none for zero
abbrev pub positive : ℕ → Option ℕ
positive zero = None
positive (suc n) = Some (suc n)

-- the groups of a list are its distinct tuples, ascending, each with the number of its places, and
-- the cut of a list with another after it is that of the first one's cut with the other after it
pub record CutsCompose {S : Type 0} (R : S → S → Ordering) : Type 0 where
  pub ascending : (ts : List S) → IsStrictlySortedBy R (keys_of (groups_of R ts))
  pub counted : (ts : List S) (q : S)
      → lookup (is_at (R q)) (groups_of R ts) ≡ positive (count_by (is_at (R q)) ts)
  pub again : (size : ℕ) (ts us : List S)
      → cut R size (ts ++ us) ≡ cut R size (spread (cut R size ts) ++ us)

-- buckets that are right for visits have, for each parent, the cut of the tuples that were visited
-- under it, where tuples that compare as equal are the same
abbrev pub HaveTheCut : {S : Type 0} → (S → S → Ordering) → Type 0
HaveTheCut {S} R =
    ((t q : S) → R t q ≡ Equal → t ≡ q)
    → (size : ℕ) (parents : List (Page S)) (next : ℕ) (visits : List (Visit S))
    (handed : List (ℕ × ℕ)) → BucketsFor R size parents next visits handed
    → (p : ℕ) → counts_of (get_or parents p []) ≡ cut R size (tuples_under p visits)

-- visits leave each parent with the cut of the tuples that it had, each as often as its count says,
-- with those that are visited under it after them
abbrev pub VisitsCut : {S : Type 0} → (S → S → Ordering) → Type 0
VisitsCut {S} R =
    ((t q : S) → R t q ≡ Equal → t ≡ q)
    → (old new : Node S) (visited visits : List (Visit S)) (handed : List (ℕ × ℕ))
    → NodeFor R old visited handed → NodeTakes R visits old new
    → (p : ℕ) → counts_of (get_or new.parents p [])
    ≡ cut R old.size (spread (counts_of (get_or old.parents p [])) ++ tuples_under p visits)
