-- What a collector holds for the visits of its documents, and what it hands on. A visit is a
-- parent and a document.
use Rattle.std.specs.Prelude.{◌≡◌, ◌+◌, ◌++◌, ◌<◌, ◌≤◌, ℕ, Bool, true, false, List, [], Option}
use Rattle.std.specs.Prelude.{Contains, None, Some, filter, get_or, length, slice_get}
use Rattle.agg_cache.specs.Waiting.{docs_of, is_id, pairs_of}
use Rattle.agg_cache.specs.declared.cache.Batch.{Batch}

-- a collector: the count and the id of each prepared parent's bucket, the cache with the number of
-- its pushes, and whether documents are handed on at all
pub record Filter (C : Type 0) : Type 0 where
  pub counts : List ℕ
  pub ids : List ℕ
  pub cache : C × ℕ
  pub hands_on : Bool

-- the count of a parent's bucket, 0 for a parent that isn't prepared
abbrev pub count_of : {C : Type 0} → Filter C → ℕ → ℕ
count_of collector parent = get_or collector.counts parent 0

-- the id of a prepared parent's bucket
abbrev pub id_of : {C : Type 0} → Filter C → ℕ → Option ℕ
id_of collector parent = slice_get collector.ids parent

-- the documents that match, of the visits under a parent
abbrev pub matching_under : (ℕ → Bool) → ℕ → List (ℕ × ℕ) → List ℕ
matching_under is_match parent visits = filter is_match (docs_of (is_id parent) visits)

-- a collector is right for the visits that it made and for what it gave: each count is the number
-- of the documents that match under its parent; where documents are handed on, those that were
-- given or wait under its id are these, in order, and there are none under other ids; each prepared
-- parent has an id of its own, below the greatest number of its type, and one that isn't prepared
-- had no visit
pub record FilterFor {C : Type 0} (waiting : C → ℕ → List ℕ) (is_match : ℕ → Bool)
    (collector : Filter C) (visited : List (ℕ × ℕ)) (given : List (ℕ × ℕ)) : Type 0 where
  pub counted : (parent : ℕ)
      → count_of collector parent ≡ length (matching_under is_match parent visited)
  pub exact : collector.hands_on ≡ true → (parent id : ℕ) → id_of collector parent ≡ Some id
      → docs_of (is_id id) given ++ waiting collector.cache.0 id
      ≡ matching_under is_match parent visited
  pub others : collector.hands_on ≡ true → (id : ℕ) → ¬ Contains collector.ids id
      → docs_of (is_id id) given ++ waiting collector.cache.0 id ≡ []
  pub prepared : (parent : ℕ) → id_of collector parent ≡ None → length collector.counts ≤ parent
  pub distinct : (parent other id : ℕ) → id_of collector parent ≡ Some id
      → id_of collector other ≡ Some id → parent ≡ other
  pub low : (parent id : ℕ) → id_of collector parent ≡ Some id → id < 4294967295
  pub unprepared : (parent : ℕ) → length collector.counts ≤ parent
      → docs_of (is_id parent) visited ≡ []

-- parents are prepared: each that was keeps its id, and no count changes
pub record Prepares {C : Type 0} (old new : Filter C) : Type 0 where
  pub ids : (parent id : ℕ) → id_of old parent ≡ Some id → id_of new parent ≡ Some id
  pub counts : (parent : ℕ) → count_of new parent ≡ count_of old parent
  pub more : length old.counts ≤ length new.counts
  pub rest : new ≡ record old { counts = new.counts; ids = new.ids }

-- a collector made visits: where it was right, it is right with these after the others, each count
-- has grown by the documents that match under its parent, and these came to wait under its id; all
-- ids stay
pub record FilterTakes {C : Type 0} (waiting : C → ℕ → List ℕ) (is_match : ℕ → Bool)
    (visits : List (ℕ × ℕ)) (old new : Filter C) : Type 0 where
  pub takes : (visited : List (ℕ × ℕ)) (given : List (ℕ × ℕ))
      → FilterFor waiting is_match old visited given
      → FilterFor waiting is_match new (visited ++ visits) given
  pub counted : (parent : ℕ)
      → count_of new parent ≡ count_of old parent + length (matching_under is_match parent visits)
  pub pushed : old.hands_on ≡ true → (parent id : ℕ) → id_of old parent ≡ Some id
      → waiting new.cache.0 id
      ≡ waiting old.cache.0 id ++ matching_under is_match parent visits
  pub ids : new.ids ≡ old.ids
  pub hands_on : new.hands_on ≡ old.hands_on
  pub unpushed : old.hands_on ≡ false → new.cache ≡ old.cache

-- a collector gave batches: where it was right, it is right with these given, and nothing waits
pub record FilterGives {C : Type 0} (waiting : C → ℕ → List ℕ) (batches : List Batch)
    (old new : Filter C) : Type 0 where
  pub gives : (is_match : ℕ → Bool) (visited : List (ℕ × ℕ)) (given : List (ℕ × ℕ))
      → FilterFor waiting is_match old visited given
      → FilterFor waiting is_match new visited (given ++ pairs_of batches)
  pub emptied : (id : ℕ) → waiting new.cache.0 id ≡ []
