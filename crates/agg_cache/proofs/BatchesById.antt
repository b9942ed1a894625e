-- Batches of the buckets 0, 1, 2 and so on, and what they give a reader of each id.
use Rattle.std.proofs.Common.{◌≡◌, ◌≢◌, ◌==◌, ◌+◌, ◌<◌, ℕ, zero, suc, Bool, true, false, not, cond}
use Rattle.std.proofs.Common.{if◌then◌else◌, List, [], ◌∷◌, ◌++◌, length, get_or, filter, map}
use Rattle.std.proofs.Common.{refl, sym, ap, ◌∙◌, arith, zero-add}
use Rattle.std.specs.List.{AllPairs, range_with_len}
use Rattle.std.proofs.Math.ListN.{set}
use Rattle.std.proofs.lemmas.Grind.{common_steps, flat_map-append}
use Rattle.std.proofs.lemmas.List.{append_assoc, append-nil, map-append, map-set, length-set}
use Rattle.std.proofs.lemmas.List.{length-map, get_or-map}
use Rattle.std.proofs.Math.Seq.{map-set_same}
use Rattle.std.proofs.lemmas.Bool.{eq-eqb, ne_eqb}
use Rattle.std.proofs.lemmas.List.Elements.{filter_passes}
use Rattle.std.proofs.lemmas.List.FromFn.{get_or-range_with_len}
use Rattle.std.proofs.lemmas.List.Kept.{AllPairs-filter}
use Rattle.agg_cache.specs.declared.cache.Batch.{Batch}
use Rattle.agg_cache.specs.Waiting.{AreBatchesOf, AreNumbered, docs_at, docs_of, has_docs, is_id}
use Rattle.agg_cache.specs.Waiting.{one_more, pairs_of, under}

-- the ids of batches
abbrev ids_of : List Batch → List ℕ
ids_of batches = map (λ batch. batch.bucket_id) batches

-- the batches are of the buckets from this one on
abbrev AreFrom : ℕ → List Batch → Type 0
AreFrom first batches = ids_of batches ≡ range_with_len first (length batches)

head-from : (batch : Batch) (batches : List Batch) (first : ℕ)
    → AreFrom first (batch ∷ batches) → batch.bucket_id ≡ first
head-from batch batches first from = cc

tail-from : (batch : Batch) (batches : List Batch) (first : ℕ)
    → AreFrom first (batch ∷ batches) → AreFrom (first + 1) batches
tail-from batch batches first from = cc

from-more : (batches : List Batch) (batch : Batch) (first : ℕ) → AreFrom first batches
    → batch.bucket_id ≡ first + length batches → AreFrom first (batches ++ batch ∷ [])
from-more [] batch first from next = let same : batch.bucket_id ≡ first = omega arith in cc
from-more (b ∷ bs) batch first from next =
    let head = head-from b bs first from in
    let later = from-more bs batch (first + 1) (tail-from b bs first from) (omega arith) in
    cc

-- one more batch, of the next bucket
pub numbered-more : (batches : List Batch) (batch : Batch) → AreNumbered batches
    → batch.bucket_id ≡ length batches → AreNumbered (batches ++ batch ∷ [])
numbered-more batches batch numbered next =
    from-more batches batch 0 numbered (omega arith)

-- a batch of the same bucket in the place of one
pub numbered-set : (batches : List Batch) (place : ℕ) (batch other : Batch) → AreNumbered batches
    → batch.bucket_id ≡ (get_or batches place other).bucket_id
    → AreNumbered (set batches place batch)
numbered-set batches place batch other numbered same =
    map-set_same (λ b. b.bucket_id) batches place batch other same
    ∙ numbered
    ∙ ap (λ n. range_with_len 0 n) (sym (length-set batches place batch))

-- an empty batch more leaves all documents where they are
pub docs-more : (batches : List Batch) (batch : Batch) (id : ℕ) → batch.docs ≡ []
    → docs_at (batches ++ batch ∷ []) id ≡ docs_at batches id
docs-more [] batch zero none = none
docs-more [] batch (suc n) none = refl
docs-more (b ∷ bs) batch zero none = refl
docs-more (b ∷ bs) batch (suc n) none = docs-more bs batch n none

documents-set : (lists : List (List ℕ)) (bucket doc : ℕ) → bucket < length lists → (id : ℕ)
    → get_or (set lists bucket (get_or lists bucket [] ++ doc ∷ [])) id []
    ≡ one_more bucket doc (λ i. get_or lists i []) id
documents-set lists bucket doc within id = grind (arith, common_steps)

-- a document more in one batch
pub docs-set : (batches : List Batch) (bucket doc : ℕ) (batch other : Batch)
    → bucket < length batches → batch.docs ≡ (get_or batches bucket other).docs ++ doc ∷ []
    → (waiting : ℕ → List ℕ) → ((id : ℕ) → docs_at batches id ≡ waiting id)
    → (id : ℕ) → docs_at (set batches bucket batch) id ≡ one_more bucket doc waiting id
docs-set batches bucket doc batch other within more waiting same id =
    let lists = map (λ b. b.docs) batches in
    let own = get_or-map (λ b. b.docs) batches bucket other [] within in
    let longer : batch.docs ≡ get_or lists bucket [] ++ doc ∷ [] = cc in
    ap (λ ls. get_or ls id []) (map-set (λ b. b.docs) batches bucket batch)
    ∙ ap (λ docs. get_or (set lists bucket docs) id []) longer
    ∙ documents-set lists bucket doc (omega (arith, length-map batches (λ b. b.docs))) id
    ∙ ap (λ docs. one_more bucket doc (λ i. docs) id) (same id)

without-docs : (bucket : ℕ) (docs : List ℕ) → not (length docs == 0) ≡ false
    → under bucket docs ≡ []
without-docs bucket [] none = refl
without-docs bucket (doc ∷ docs) none = absurd (grind arith)

pairs-kept : (keep : Bool) (batch : Batch) (rest : List Batch)
    → (keep ≡ false → under batch.bucket_id batch.docs ≡ [])
    → pairs_of (cond keep (batch ∷ rest) rest)
    ≡ under batch.bucket_id batch.docs ++ pairs_of rest
pairs-kept true batch rest none = refl
pairs-kept false batch rest none = sym (ap (λ docs. docs ++ pairs_of rest) (none refl))

-- what batches without a document leave out
pairs-filled : (batches : List Batch) → pairs_of (filter has_docs batches) ≡ pairs_of batches
pairs-filled [] = refl
pairs-filled (b ∷ bs) =
    pairs-kept (has_docs b) b (filter has_docs bs) (without-docs b.bucket_id b.docs)
    ∙ ap (λ pairs. under b.bucket_id b.docs ++ pairs) (pairs-filled bs)

-- the documents of a bucket are for its id
docs-same : (bucket : ℕ) (docs : List ℕ) → docs_of (is_id bucket) (under bucket docs) ≡ docs
docs-same bucket [] = refl
docs-same bucket (doc ∷ docs) =
    rw (eq-eqb bucket bucket refl) (ap (λ ds. doc ∷ ds) (docs-same bucket docs))

-- and for no other id
docs-other : (bucket id : ℕ) (docs : List ℕ) → bucket ≢ id
    → docs_of (is_id id) (under bucket docs) ≡ []
docs-other bucket id [] other = refl
docs-other bucket id (doc ∷ docs) other =
    rw (ne_eqb bucket id other) (docs-other bucket id docs other)

-- the documents for an id, in the first batch and in the others
docs-parts : (batch : Batch) (batches : List Batch) (id : ℕ) (own others : List ℕ)
    → docs_of (is_id id) (under batch.bucket_id batch.docs) ≡ own
    → docs_of (is_id id) (pairs_of batches) ≡ others
    → docs_of (is_id id) (pairs_of (batch ∷ batches)) ≡ own ++ others
docs-parts batch batches id own others is are =
    flat_map-append (λ e. if e.0 == id then e.1 ∷ [] else []) (under batch.bucket_id batch.docs)
    (pairs_of batches)
    ∙ ap (λ docs. docs ++ docs_of (is_id id) (pairs_of batches)) is ∙ ap (λ docs. own ++ docs) are

-- no document is for an id below the first
docs-below : (batches : List Batch) (first id : ℕ) → AreFrom first batches → id < first
    → docs_of (is_id id) (pairs_of batches) ≡ []
docs-below [] first id from below = refl
docs-below (b ∷ bs) first id from below =
    let other : b.bucket_id ≢ id = omega (arith, head-from b bs first from) in
    docs-parts b bs id [] [] (docs-other b.bucket_id id b.docs other)
    (docs-below bs (first + 1) id (tail-from b bs first from) (omega arith))

docs-from : (batches : List Batch) (first place id : ℕ) → AreFrom first batches
    → first + place ≡ id → docs_of (is_id id) (pairs_of batches) ≡ docs_at batches place
docs-from [] first place id from is = refl
docs-from (b ∷ bs) first zero id from is =
    let own : b.bucket_id ≡ id = omega (arith, head-from b bs first from) in
    let below = docs-below bs (first + 1) id (tail-from b bs first from) (omega arith) in
    docs-parts b bs id b.docs [] (ap (λ i. docs_of (is_id i) (under b.bucket_id b.docs)) (sym own)
    ∙ docs-same b.bucket_id b.docs) below
    ∙ append-nil b.docs
docs-from (b ∷ bs) first (suc n) id from is =
    let other : b.bucket_id ≢ id = omega (arith, head-from b bs first from) in
    docs-parts b bs id [] (docs_at bs n) (docs-other b.bucket_id id b.docs other)
    (docs-from bs (first + 1) n id (tail-from b bs first from) (omega arith))

some-docs : (docs : List ℕ) → not (length docs == 0) ≡ true → 0 < length docs
some-docs [] some = absurd (cc some)
some-docs (doc ∷ docs) some = omega arith

-- the batches that have documents are those of what waits at each place
pub filled-batches : (batches given : List Batch) (waiting : List (List ℕ)) → AreNumbered batches
    → map (λ b. b.docs) batches ≡ waiting → given ≡ filter has_docs batches
    → AreBatchesOf (λ id. get_or waiting id []) given
filled-batches batches given waiting numbered are filtered = rw filtered (record {
  all = λ id. ap (docs_of (is_id id)) (pairs-filled batches)
      ∙ docs-from batches 0 id id numbered (zero-add id)
      ∙ ap (λ lists. get_or lists id []) are;
  filled = λ k d within.
      some-docs (get_or (filter has_docs batches) k d).docs
      (filter_passes has_docs batches k d within);
})

id-at : (batches : List Batch) (place : ℕ) (other : Batch) → AreNumbered batches
    → place < length batches → (get_or batches place other).bucket_id ≡ place
id-at batches place other numbered within =
    sym (get_or-map (λ b. b.bucket_id) batches place other 0 within)
    ∙ ap (λ ids. get_or ids place 0) numbered
    ∙ get_or-range_with_len 0 (length batches) place 0 within ∙ zero-add place

-- those that have documents stay in the order of their ids
pub filled-ascending : (batches given : List Batch) → AreNumbered batches
    → given ≡ filter has_docs batches → AllPairs (λ a b. a.bucket_id < b.bucket_id) given
filled-ascending batches given numbered filtered = rw filtered (AllPairs-filter
    (λ a b. a.bucket_id < b.bucket_id) has_docs batches (λ i j d below within.
    let low = id-at batches i d numbered (omega arith) in
    let high = id-at batches j d numbered within in
    omega arith))

-- ---- one more document at the end

under-more : (bucket doc : ℕ) (docs : List ℕ)
    → under bucket (docs ++ doc ∷ []) ≡ under bucket docs ++ (bucket, doc) ∷ []
under-more bucket doc docs = map-append (λ d. (bucket, d)) docs (doc ∷ [])

-- a document more in the last batch
pub pairs-last : (batches : List Batch) (place : ℕ) (batch other : Batch) (bucket doc : ℕ)
    → place + 1 ≡ length batches → batch.bucket_id ≡ bucket
    → (get_or batches place other).bucket_id ≡ bucket
    → batch.docs ≡ (get_or batches place other).docs ++ doc ∷ []
    → pairs_of (set batches place batch) ≡ pairs_of batches ++ (bucket, doc) ∷ []
pairs-last [] place batch other bucket doc last same was more = absurd (omega (arith, last))
pairs-last (b ∷ []) zero batch other bucket doc last same was more =
    append-nil (under batch.bucket_id batch.docs)
    ∙ ap (λ i. under i batch.docs) same ∙ ap (under bucket) more
    ∙ under-more bucket doc b.docs
    ∙ ap (λ i. under i b.docs ++ (bucket, doc) ∷ []) (sym was)
    ∙ ap (λ pairs. pairs ++ (bucket, doc) ∷ []) (sym (append-nil (under b.bucket_id b.docs)))
pairs-last (b ∷ c ∷ bs) zero batch other bucket doc last same was more =
    absurd (omega (arith, last))
pairs-last (b ∷ bs) (suc n) batch other bucket doc last same was more =
    ap (λ pairs. under b.bucket_id b.docs ++ pairs)
    (pairs-last bs n batch other bucket doc (omega (arith, last)) same was more)
    ∙ sym (append_assoc (under b.bucket_id b.docs) (pairs_of bs) ((bucket, doc) ∷ []))
