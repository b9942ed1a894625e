-- The documents that a collector hands on are among those that it took.
use Rattle.std.proofs.Common.{◌≡◌, ◌≢◌, ◌<◌, ◌≤◌, ◌+◌, ◌⊎◌, ℕ, List, [], ◌∷◌, ◌++◌, true}
use Rattle.std.proofs.Common.{if◌then◌else◌}
use Rattle.std.proofs.Common.{inl, inr, append-nil, zero, suc, refl, sym, ap, ◌∙◌, subst, arith}
use Rattle.std.proofs.Common.{⊎_elim}
use Rattle.std.specs.List.{AllZip, Contains}
use Rattle.std.proofs.lemmas.Bool.{cases_eq, cases_lt}
use Rattle.agg_values.specs.Names.{Named}
use Rattle.agg_values.specs.declared.after_key.AfterKey.{AfterKey}
use Rattle.agg_cache.specs.Waiting.{docs_of, is_id}
use Rattle.agg_segment.specs.Segment.{Stored, documents_at}
use Rattle.agg_request_tree.specs.Occurrences.{bound_of, past_occurrences}
use Rattle.agg_request_tree.proofs.Lists.{Contains-from_Has, Has, Has-from_Contains}
use Rattle.agg_composite.specs.accessor.Encoding.{EncodedTuple}
use Rattle.agg_composite.specs.declared.accessor.request_data.CompositeAggReqData.{
  CompositeAggReqData,
}
use Rattle.agg_composite.specs.buckets.Visits.{Visit, Within, docs_in, visits_at, weight}
use Rattle.agg_composite.proofs.lemmas.buckets.Labels.{docs_in-append, is_id-other, is_id-same}
use Rattle.agg_composite.proofs.lemmas.buckets.Labels.{weight-append}
use Rattle.agg_composite.specs.Composite.{Composite, CompositeFor}
use Rattle.agg_composite.specs.Visits.{StandsForVisit, TypedVisit, visits_past}
use Rattle.agg_engine_tree.specs.collector_tree.Caches.{Cache, waiting_in}
use Rattle.agg_engine_tree.specs.collector_tree.Tree.{visits_of}
use Rattle.agg_engine_tree.proofs.lemmas.collector_tree.WithinLists.{within-both}

-- ---- by ids

-- the weight of the documents under ids below a number
abbrev pub below : (ℕ → ℕ) → ℕ → List (ℕ × ℕ) → ℕ
below f zero xs = 0
below f (suc n) xs = below f n xs + weight f (docs_of (is_id n) xs)

below-nil : (f : ℕ → ℕ) (n : ℕ) → below f n [] ≡ 0
below-nil f zero = refl
below-nil f (suc n) = omega (arith, below-nil f n)

one-id : (f : ℕ → ℕ) (n i d : ℕ) (xs : List (ℕ × ℕ)) → i ≡ n
    → weight f (docs_of (is_id n) ((i, d) ∷ xs)) ≡ f d + weight f (docs_of (is_id n) xs)
one-id f n i d xs is =
    ap (λ j. weight f ((if is_id n j then d ∷ [] else []) ++ docs_of (is_id n) xs)) is
    ∙ ap (λ t. weight f ((if t then d ∷ [] else []) ++ docs_of (is_id n) xs)) (is_id-same n)

no-id : (f : ℕ → ℕ) (n i d : ℕ) (xs : List (ℕ × ℕ)) → i ≢ n
    → weight f (docs_of (is_id n) ((i, d) ∷ xs)) ≡ weight f (docs_of (is_id n) xs)
no-id f n i d xs other =
    ap (λ t. weight f ((if t then d ∷ [] else []) ++ docs_of (is_id n) xs))
    (is_id-other n i (λ is. other (sym is)))

below-large : (f : ℕ → ℕ) (n i d : ℕ) (xs : List (ℕ × ℕ)) → n ≤ i
    → below f n ((i, d) ∷ xs) ≡ below f n xs
below-large f zero i d xs l = refl
below-large f (suc n) i d xs l =
    omega (arith, below-large f n i d xs (omega arith), no-id f n i d xs (omega arith))

below-small : (f : ℕ → ℕ) (n i d : ℕ) (xs : List (ℕ × ℕ)) → i < n
    → below f n ((i, d) ∷ xs) ≡ below f n xs + f d
below-small f zero i d xs l = absurd (omega arith)
below-small f (suc n) i d xs l = ⊎_elim
    (λ is. omega (arith, below-large f n i d xs (omega arith), one-id f n i d xs is))
    (λ other. omega (arith, below-small f n i d xs (omega arith), no-id f n i d xs other))
    (cases_eq i n)

pub below-le : (f : ℕ → ℕ) (n : ℕ) (xs : List (ℕ × ℕ)) → below f n xs ≤ weight f (docs_in xs)
below-le f n [] = omega (arith, below-nil f n)
below-le f n (e ∷ xs) = ⊎_elim
    (λ l. omega (arith, below-small f n e.0 e.1 xs l, below-le f n xs))
    (λ l. omega (arith, below-large f n e.0 e.1 xs l, below-le f n xs))
    (cases_lt e.0 n)

-- a number above all ids
abbrev pub top : List (ℕ × ℕ) → ℕ
top [] = 0
top (e ∷ xs) = suc (e.0 + top xs)

pub below-all : (f : ℕ → ℕ) (n : ℕ) (xs : List (ℕ × ℕ)) → top xs ≤ n
    → weight f (docs_in xs) ≤ below f n xs
below-all f n [] l = omega arith
below-all f n (e ∷ xs) l =
    omega (arith, below-small f n e.0 e.1 xs (omega arith), below-all f n xs (omega arith))

below-each : (f : ℕ → ℕ) (n : ℕ) (xs ys : List (ℕ × ℕ))
    → ((id : ℕ) → weight f (docs_of (is_id id) xs) ≤ weight f (docs_of (is_id id) ys))
    → below f n xs ≤ below f n ys
below-each f zero xs ys each = omega arith
below-each f (suc n) xs ys each = omega (arith, below-each f n xs ys each, each n)

-- what was given is within what was handed on under ids
pub given-within : (given handed : List (ℕ × ℕ)) (waiting : ℕ → List ℕ)
    → ((id : ℕ) → docs_of (is_id id) given ++ waiting id ≡ docs_of (is_id id) handed)
    → Within (docs_in given) (docs_in handed)
given-within given handed waiting waits = record {
  lighter = λ f. omega (
    arith,
    below-all f (top given) given (omega arith),
    below-le f (top given) handed,
    below-each f (top given) given handed (λ id. omega (
      arith,
      weight-append f (docs_of (is_id id) given) (waiting id),
      ap (weight f) (waits id),
    )),
  );
}

-- ---- visits

-- visits that stand for others are of the same documents
pub docs-stand : (req : CompositeAggReqData) (visits : List (Visit EncodedTuple))
    (typed : List TypedVisit) → AllZip (StandsForVisit req) visits typed
    → docs_in visits ≡ docs_in typed
docs-stand req [] [] stand = refl
docs-stand req [] (t ∷ typed) stand = absurd stand
docs-stand req (v ∷ visits) [] stand = absurd stand
docs-stand req (v ∷ visits) (t ∷ typed) stand =
    (λ j. stand.0.2 j ∷ docs-stand req visits typed stand.1 j)

-- what a composite gave is within its visits
pub given-visited : (req : CompositeAggReqData) (collector : Composite Cache)
    (visited : List TypedVisit) (given : List (ℕ × ℕ)) → collector.hands_on ≡ true
    → CompositeFor waiting_in req collector visited given
    → Within (docs_in given) (docs_in visited)
given-visited req collector visited given on f =
    within-both (docs_in given) (docs_in f.handed) (docs_in visited)
    (given-within given f.handed (waiting_in collector.cache.0) (f.waits on))
    (subst (Within (docs_in f.handed)) (docs-stand req f.visits visited f.stand) f.buckets.part)

-- what is in one of two lists, end to end
has-split : {X : Type 0} (xs ys : List X) (x : X) → Has x (xs ++ ys) → Has x xs ⊎ Has x ys
has-split [] ys x h = inr h
has-split (z ∷ xs) ys x (inl is) = inl (inl is)
has-split (z ∷ xs) ys x (inr h) =
    ⊎_elim (λ l. inl (inr l)) (λ r. inr r) (has-split xs ys x h)

has-own : {S : Type 0} (parent doc d : ℕ) (tuples : List S)
    → Has d (docs_in (visits_at parent doc tuples)) → doc ≡ d
has-own parent doc d [] h = absurd h
has-own parent doc d (t ∷ tuples) (inl is) = is
has-own parent doc d (t ∷ tuples) (inr h) = has-own parent doc d tuples h

module _ (req : CompositeAggReqData) (segment : Stored) (after : Named AfterKey) where
  has-visited : (d : ℕ) (taken : List (ℕ × ℕ))
      → Has d (docs_in (visits_of req segment after taken)) → Has d (docs_in taken)
  has-visited d [] h = absurd h
  has-visited d (e ∷ taken) h =
      let tuples = past_occurrences req.req.now.sources (bound_of req.req.now.sources after)
      (documents_at segment (e.1 ∷ [])) in
      let own = visits_past req.req.now.sources segment after e.0 (e.1 ∷ []) in
      let one : own ≡ visits_at e.0 e.1 tuples = append-nil (visits_at e.0 e.1 tuples) in
      ⊎_elim
      (λ l. inl (has-own e.0 e.1 d tuples (subst (λ vs. Has d (docs_in vs)) one l)))
      (λ r. inr (has-visited d taken r))
      (has-split (docs_in own) (docs_in (visits_of req segment after taken)) d
      (subst (Has d) (docs_in-append own (visits_of req segment after taken)) h))

  -- the documents of visits are those of the pairs
  pub visited-part : (taken : List (ℕ × ℕ)) (d : ℕ)
      → Contains (docs_in (visits_of req segment after taken)) d → Contains (docs_in taken) d
  visited-part taken d c =
      Contains-from_Has (docs_in taken) d
      (has-visited d taken (Has-from_Contains (docs_in (visits_of req segment after taken)) d c))
