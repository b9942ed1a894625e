-- Visits of documents, each under a parent and a tuple, and the documents of labels.
use Rattle.std.specs.Prelude.{◌==◌, ◌&&◌, ◌≤◌, ◌+◌, ℕ, Bool, List, [], ◌∷◌, map}
use Rattle.std.specs.BTreeMap.{is_at}
use Rattle.std.specs.declared.cmp.Ordering.{Ordering}

-- the owner of a bucket: a parent and a tuple
abbrev pub Owner : Type 0 → Type 0
Owner S = ℕ × S

-- a visit: of a document, under an owner
abbrev pub Visit : Type 0 → Type 0
Visit S = Owner S × ℕ

-- whether an owner is this one
abbrev pub is_owner : {S : Type 0} → (S → S → Ordering) → Owner S → Owner S → Bool
is_owner R o q = (o.0 == q.0) && is_at (R o.1) q.1

-- the visits of a document under a parent and each of these tuples
abbrev pub visits_at : {S : Type 0} → ℕ → ℕ → List S → List (Visit S)
visits_at parent doc tuples = map (λ t. ((parent, t), doc)) tuples

-- the documents of pairs, whatever their labels
abbrev pub docs_in : {A : Type 0} → List (A × ℕ) → List ℕ
docs_in pairs = map (λ e. e.1) pairs

-- the sum of the weights of documents
abbrev pub weight : (ℕ → ℕ) → List ℕ → ℕ
weight f [] = 0
weight f (d ∷ ds) = f d + weight f ds

-- no document stands more often in the first list than in the second: no weights make the first
-- one heavier
pub record Within (xs ys : List ℕ) : Type 0 where
  pub lighter : (f : ℕ → ℕ) → weight f xs ≤ weight f ys
