-- Batches under the last id.
use Rattle.std.proofs.Common.{◌≡◌, ◌<◌, ◌≤◌, ◌^◌, ◌++◌, ◌⊎◌, ℕ, List, [], ◌∷◌, Bool, true, inl}
use Rattle.std.proofs.Common.{inr, ⊎_elim}
use Rattle.std.proofs.Common.{length, length-append, map, refl, sym, ap, ◌∙◌, arith}
use Rattle.std.specs.List.{All}
use Rattle.std.proofs.lemmas.Bool.{cases_lt}
use Rattle.std.proofs.lemmas.List.{length-map}
use Rattle.std.proofs.lemmas.Option.{slice_get_read}
use Rattle.std.proofs.lemmas.List.Elements.{All-cons, All-head, All-nil, All-tail}
use Rattle.agg_cache.specs.Waiting.{docs_of, is_id, pairs_of, under}
use Rattle.agg_cache.specs.declared.cache.Batch.{Batch}
use Rattle.agg_cache.proofs.UnderIds.{docs_of-same}
use Rattle.agg_composite.specs.declared.accessor.request_data.CompositeAggReqData.{
  CompositeAggReqData,
}
use Rattle.agg_composite.specs.buckets.Visits.{docs_in}
use Rattle.agg_composite.proofs.lemmas.buckets.Labels.{docs_of-append}
use Rattle.agg_composite.specs.Composite.{Composite, CompositeFor}
use Rattle.agg_composite.specs.Visits.{TypedVisit}
use Rattle.agg_filter.specs.Filter.{Filter, FilterFor}
use Rattle.agg_engine_tree.specs.collector_tree.Refusals.{AreNotLast}
use Rattle.agg_engine_tree.specs.collector_tree.Caches.{Cache, waiting_in}
use Rattle.agg_engine_tree.proofs.lemmas.collector_tree.LowerDocuments.{docs-stand}
use Rattle.agg_engine_tree.proofs.lemmas.collector_tree.WithinLists.{within-length}

abbrev IsLow : ℕ → Type 0
IsLow id = id < 4294967295

-- some document of batches is under an id that is not below the last
pub record HasLast (down : List Batch) : Type 0 where
  pub id : ℕ
  pub last : 4294967295 ≤ id
  pub some : 1 ≤ length (docs_of (is_id id) (pairs_of down))

pub low-or-last : (down : List Batch) → All (λ batch. 0 < length batch.docs) down
    → AreNotLast (map (λ batch. batch.bucket_id) down) ⊎ HasLast down
low-or-last [] filled = inl (All-nil IsLow)
low-or-last (b ∷ down) filled =
    let parts = λ (id : ℕ). ap length (docs_of-append (is_id id) (under b.bucket_id b.docs)
    (pairs_of down)) ∙ length-append (docs_of (is_id id) (under b.bucket_id b.docs))
    (docs_of (is_id id) (pairs_of down)) in
    let own : 0 < length b.docs = All-head (λ batch. 0 < length batch.docs) b down filled in
    ⊎_elim
    (λ less. ⊎_elim
    (λ low. inl (All-cons IsLow b.bucket_id (map (λ batch. batch.bucket_id) down) less low))
    (λ l. inr (record {
      id = l.id;
      last = l.last;
      some = omega (arith, l.some, parts l.id);
    }))
    (low-or-last down (All-tail (λ batch. 0 < length batch.docs) b down filled)))
    (λ last. inr (record {
      id = b.bucket_id;
      last = last;
      some = omega (arith, own, parts b.bucket_id, ap length (docs_of-same b.bucket_id b.docs));
    }))
    (cases_lt b.bucket_id 4294967295)

-- a composite that gave such a document made too many visits
pub last-visits : (req : CompositeAggReqData) (collector : Composite Cache)
    (visited : List TypedVisit) (given : List (ℕ × ℕ)) (down : List Batch)
    → collector.hands_on ≡ true
    → CompositeFor waiting_in req collector visited (given ++ pairs_of down) → HasLast down
    → 2 ^ 32 ≤ length visited
last-visits req collector visited given down on f l =
    let id = l.id in
    let all = given ++ pairs_of down in
    let handed : 1 ≤ length (docs_of (is_id id) f.handed) = omega (
      arith,
      l.some,
      ap length (f.waits on id),
      length-append (docs_of (is_id id) all) (waiting_in collector.cache.0 id),
      ap length (docs_of-append (is_id id) given (pairs_of down)),
      length-append (docs_of (is_id id) given) (docs_of (is_id id) (pairs_of down)),
    ) in
    let drawn : id < collector.node.next = ⊎_elim
    (λ less. less)
    (λ past. absurd (omega (arith, handed, ap length (f.buckets.fresh id past))))
    (cases_lt id collector.node.next) in
    omega (
      arith,
      l.last,
      drawn,
      f.buckets.few,
      within-length (docs_in f.handed) (docs_in f.visits) f.buckets.part,
      length-map f.handed (λ (e : ℕ × ℕ). e.1),
      ap length (docs-stand req f.visits visited f.stand),
      length-map visited (λ (e : TypedVisit). e.1),
    )

-- a filter gives no such document: its ids are below the last
pub filter-last : (is_match : ℕ → Bool) (collector : Filter Cache) (visited given : List (ℕ × ℕ))
    (down : List Batch) → collector.hands_on ≡ true
    → FilterFor waiting_in is_match collector visited (given ++ pairs_of down)
    → ¬ (HasLast down)
filter-last is_match collector visited given down on f l =
    let id = l.id in
    let all = given ++ pairs_of down in
    let none = f.others on id (λ c. omega (
      arith,
      l.last,
      f.low c.0 id
          (slice_get_read collector.ids (length collector.ids) c.0 id refl c.1 (sym c.2)),
    )) in
    omega (
      arith,
      l.some,
      ap length none,
      length-append (docs_of (is_id id) all) (waiting_in collector.cache.0 id),
      ap length (docs_of-append (is_id id) given (pairs_of down)),
      length-append (docs_of (is_id id) given) (docs_of (is_id id) (pairs_of down)),
    )
