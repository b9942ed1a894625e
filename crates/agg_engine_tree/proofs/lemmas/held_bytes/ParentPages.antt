-- The pages of a composite's collector, and the documents that were taken under each parent.
use Rattle.std.proofs.Common.{◌≡◌, ◌≤◌, ◌==◌, ◌&&◌, ℕ, List, [], ◌∷◌, ◌++◌, Bool, true}
use Rattle.std.proofs.Common.{append-nil, length, map, min, take, refl, sym, ap, ◌∙◌, subst}
use Rattle.std.proofs.Common.{false, arith}
use Rattle.std.specs.Prelude.{if◌then◌else◌, nat_le}
use Rattle.std.specs.List.{AllByRecursion, Contains, list_any, sum_by}
use Rattle.std.specs.Map.{keys_of}
use Rattle.std.proofs.lemmas.Bool.Decides.{nat_tests}
use Rattle.std.proofs.lemmas.List.{length-map, length-take, take_all}
use Rattle.std.proofs.lemmas.Cmp.{eq_by_cmp_equiv}
use Rattle.std.proofs.lemmas.List.Elements.{recursion_from_All}
use Rattle.std.proofs.lemmas.List.Folds.{list_any_at}
use Rattle.std.proofs.lemmas.List.Sums.{sum_by-cons}
use Rattle.agg_values.specs.KeyOrder.{SourceRules}
use Rattle.agg_values.specs.Names.{Named}
use Rattle.agg_values.specs.Tuple.{KeyTuple}
use Rattle.agg_values.proofs.TupleOrder.{tuple_order-total}
use Rattle.agg_values.specs.declared.after_key.AfterKey.{AfterKey}
use Rattle.agg_cache.specs.Waiting.{docs_of, is_id}
use Rattle.agg_segment.specs.storage.Document.{Fields}
use Rattle.agg_segment.specs.Segment.{Stored, documents_at}
use Rattle.agg_request_tree.specs.Groups.{Group, Groups}
use Rattle.agg_request_tree.specs.Occurrences.{bound_of, is_past, same_tuple}
use Rattle.agg_request_tree.specs.Page.{documents_with}
use Rattle.agg_request_tree.specs.Source.{Sources, rules_of}
use Rattle.agg_request_tree.specs.declared.aggregation.CompositeAggregation.{CompositeAggregation}
use Rattle.agg_request_tree.proofs.Lists.{All-from_map, AllByRecursion-both}
use Rattle.agg_request_tree.proofs.Lists.{AllByRecursion-weaker}
use Rattle.agg_request_tree.specs.charges.Laws.{AreGroupsOf}
use Rattle.agg_request_tree.specs.charges.Roof.{has_room, over_tuples, past_tuples}
use Rattle.agg_request_tree.proofs.lemmas.charges.CompositeTuples.{tuples-many, tuples-sums}
use Rattle.agg_request_tree.proofs.lemmas.charges.Sums.{sum_by-map}
use Rattle.agg_request_tree.proofs.lemmas.charges.Tests.{clash}
use Rattle.agg_composite.specs.accessor.Accessors.{Fits}
use Rattle.agg_composite.specs.declared.accessor.request_data.CompositeAggReqData.{
  CompositeAggReqData,
}
use Rattle.agg_composite.specs.buckets.Cut.{tuples_under}
use Rattle.agg_composite.specs.buckets.Visits.{Owner, weight}
use Rattle.agg_composite.specs.declared.buckets.bucket.Bucket.{Bucket}
use Rattle.agg_composite.specs.Composite.{Composite, CompositeFor, docs_under, page_of}
use Rattle.agg_composite.specs.PageEntries.{decoded_buckets, entry_bucket, entry_group}
use Rattle.agg_composite.specs.Visits.{TypedVisit}
use Rattle.agg_composite.specs.declared.page_entry.PageEntry.{PageEntry}
use Rattle.agg_composite.proofs.BucketDocuments.{page-handed}
use Rattle.agg_composite.proofs.BucketPages.{page-groups}
use Rattle.agg_results.specs.StandsFor.{GroupsStandFor}
use Rattle.agg_results.proofs.StandingGroups.{stands-lowest}
use Rattle.agg_engine_tree.specs.collector_tree.Caches.{Cache, waiting_in}
use Rattle.agg_engine_tree.specs.collector_tree.Tree.{visits_of}
use Rattle.agg_engine_tree.proofs.lemmas.tree_results.TakenVisits.{docs-with, tuples-taken}
use Rattle.agg_engine_tree.proofs.lemmas.held_bytes.LabelSums.{weight-covered}
use Rattle.agg_engine_tree.proofs.lemmas.held_bytes.ParentVisits.{is_under}

-- a bucket as an entry
abbrev entry_for : KeyTuple × Bucket → PageEntry
entry_for b = record { key = b.0; doc_count = b.1.count; bucket_id = b.1.id }

entries-buckets : (bs : List (KeyTuple × Bucket)) → map entry_bucket (map entry_for bs) ≡ bs
entries-buckets [] = refl
entries-buckets (b ∷ bs) = ap (λ cs. b ∷ cs) (entries-buckets bs)

keys-groups : (entries : List PageEntry)
    → keys_of (map entry_group entries) ≡ map (λ entry. entry.key) entries
keys-groups [] = refl
keys-groups (e ∷ entries) = ap (λ ks. e.key ∷ ks) (keys-groups entries)

-- sums of terms that are equal for each
sum-each : {X : Type 0} (f g : X → ℕ) (xs : List X) → AllByRecursion (λ x. f x ≡ g x) xs
    → sum_by f xs ≡ sum_by g xs
sum-each f g [] all = refl
sum-each f g (x ∷ xs) all = omega (
  arith,
  sum_by-cons f x xs,
  sum_by-cons g x xs,
  all.0,
  sum-each f g xs all.1,
)

module _ (segment : Stored) (after : Named AfterKey) (req : CompositeAggReqData)
    (fits : Fits segment after req) (collector : Composite Cache) (taken given : List (ℕ × ℕ))
    (right : CompositeFor waiting_in req collector (visits_of req segment after taken) given) where
  abbrev sources : Sources
  sources = req.req.now.sources

  abbrev rules : SourceRules
  rules = rules_of sources

  abbrev bound : KeyTuple
  bound = bound_of sources after

  -- the composite of the data, with the after key
  abbrev composite : CompositeAggregation
  composite = record { sources = req.req.now.sources; size = req.size; after = after }

  -- the documents that were taken under a parent
  abbrev documents : ℕ → List Fields
  documents p = documents_at segment (docs_of (is_id p) taken)

  abbrev visits : List TypedVisit
  visits = visits_of req segment after taken

  -- the collector, where all that was handed on is given
  abbrev emptied : Composite Cache
  emptied = record collector { cache = ([], 0); hands_on = true }

  nothing-waits : (id : ℕ) → waiting_in [] id ≡ []
  nothing-waits id = refl

  all-given : CompositeFor waiting_in req emptied visits right.handed
  all-given = record {
    visits = right.visits;
    handed = right.handed;
    stand = right.stand;
    buckets = right.buckets;
    waits = λ on id. append-nil (docs_of (is_id id) right.handed);
  }

  module _ (p : ℕ) where
    -- the parent's page, as entries
    abbrev entries : List PageEntry
    entries = map entry_for (decoded_buckets req (page_of collector p))

    -- its tuples are the lowest groups
    lowest : (groups : List Group)
        × Groups rules (tuples_under p visits) groups
        × (map entry_group entries ≡ take req.size groups)
    lowest =
        page-groups waiting_in req emptied visits right.handed p all-given segment after fits
        entries (entries-buckets (decoded_buckets req (page_of collector p)))

    abbrev groups : List Group
    groups = lowest.0

    are-groups : AreGroupsOf composite (documents p) groups
    are-groups =
        subst (λ ts. Groups rules ts groups) (tuples-taken req segment after p taken) lowest.1

    stand : GroupsStandFor sources req.size bound (documents p) (map entry_group entries)
    stand =
        subst (GroupsStandFor sources req.size bound (documents p)) (sym lowest.2)
        (stands-lowest sources req.size bound (documents p) groups are-groups)

    -- what was handed on under an entry's id
    abbrev handed_at : PageEntry → List ℕ
    handed_at entry = docs_of (is_id entry.bucket_id) right.handed

    -- these are the documents of the visits of its tuple
    abbrev IsHanded : PageEntry → Type 0
    IsHanded entry = handed_at entry ≡ docs_under rules p entry.key visits

    entries-handed : AllByRecursion IsHanded entries
    entries-handed =
        recursion_from_All IsHanded entries
        (page-handed segment after req fits waiting_in emptied visits right.handed p all-given refl
        nothing-waits entries (entries-buckets (decoded_buckets req (page_of collector p))))

    -- what is told of entries is told of the buckets
    sum-entries : (f : ℕ → ℕ) → sum_by (λ e. f e.1.id) (page_of collector p)
        ≡ sum_by (λ entry. f entry.bucket_id) entries
    sum-entries f = sym (
        sum_by-map (λ (entry : PageEntry). f entry.bucket_id) entry_for
        (decoded_buckets req (page_of collector p))
        ∙ sum_by-map (λ (b : KeyTuple × Bucket). f b.1.id) _ (page_of collector p))

    -- as many tuples as there is room for
    pub page-many : length (page_of collector p)
        ≡ min req.size (length (past_tuples composite (documents p)))
    page-many =
        let page = page_of collector p in
        sym (length-map page _)
        ∙ sym (length-map (decoded_buckets req page) entry_for)
        ∙ sym (length-map entries entry_group)
        ∙ ap length lowest.2
        ∙ length-take req.size groups
        ∙ ap (min req.size) (sym (tuples-many composite (documents p) groups are-groups))

    -- a key lies past the bound
    abbrev IsPast : KeyTuple → Type 0
    IsPast key = is_past rules bound key ≡ true

    -- the documents of each entry are those of the parent with its tuple
    entries-with : AllByRecursion (λ entry. documents_at segment (handed_at entry)
        ≡ documents_with sources (documents p) entry.key) entries
    entries-with =
        AllByRecursion-weaker (λ entry. IsHanded entry × IsPast entry.key)
        (λ entry. documents_at segment (handed_at entry)
        ≡ documents_with sources (documents p) entry.key)
        (λ entry both. ap (documents_at segment) both.0
        ∙ docs-with req segment after p entry.key both.1 taken) entries
        (AllByRecursion-both IsHanded (λ entry. IsPast entry.key) entries entries-handed
        (recursion_from_All (λ entry. IsPast entry.key) entries
        (All-from_map (λ (g : Group). IsPast g.0) entry_group entries stand.past)))

    module _ (room : has_room composite (documents p) ≡ true) where
      -- with room the page has all groups
      all-groups : map entry_group entries ≡ groups
      all-groups =
          lowest.2
          ∙ take_all req.size groups
          (fits-in (length (past_tuples composite (documents p))) (length groups)
          (tuples-many composite (documents p) groups are-groups) room)
        where
          fits-in : (m n : ℕ) → m ≡ n → nat_le m req.size ≡ true → n ≤ req.size
          fits-in m n is fits = grind (arith, nat_tests)

      -- what is counted over the documents of its buckets is what is over all tuples
      pub page-sums : (bytes : List Fields → ℕ)
          → sum_by (λ e. bytes (documents_at segment (docs_of (is_id e.1.id) right.handed)))
          (page_of collector p)
          ≡ over_tuples composite bytes (documents p)
      page-sums bytes =
          let each : Group → ℕ = λ g. bytes (documents_with sources (documents p) g.0) in
          sum-entries (λ id. bytes (documents_at segment (docs_of (is_id id) right.handed)))
          ∙ sum-each (λ entry. bytes (documents_at segment (handed_at entry)))
          (λ entry. each (entry_group entry)) entries
          (AllByRecursion-weaker (λ entry. documents_at segment (handed_at entry)
          ≡ documents_with sources (documents p) entry.key)
          (λ entry. bytes (documents_at segment (handed_at entry)) ≡ each (entry_group entry))
          (λ entry is. ap bytes is) entries entries-with)
          ∙ sym (sum_by-map each entry_group entries)
          ∙ ap (sum_by each) all-groups
          ∙ sym (tuples-sums composite (documents p) groups are-groups bytes)

      itself : (t : KeyTuple) → same_tuple rules t t ≡ true
      itself = (eq_by_cmp_equiv (tuple_order-total rules)).refl

      -- whether an owner is of the parent and a tuple
      abbrev is_of : KeyTuple → Owner KeyTuple → Bool
      is_of key o = (p == o.0) && same_tuple rules key o.1

      -- a visit, if it is under the parent, is of a tuple that has a bucket
      abbrev IsFound : TypedVisit → Type 0
      IsFound v = is_under p v.0 ≡ true → list_any (λ key. is_of key v.0) (keys_of groups) ≡ true

      visits-found : (vs : List TypedVisit)
          → AllByRecursion (Contains (keys_of groups)) (tuples_under p vs)
          → AllByRecursion IsFound vs
      visits-found [] all = tt
      visits-found (v ∷ vs) all = by_parent (visits-found vs) (is_under p v.0) refl all
        where
          by_parent : (AllByRecursion (Contains (keys_of groups)) (tuples_under p vs)
              → AllByRecursion IsFound vs) → (b : Bool) → is_under p v.0 ≡ b
              → AllByRecursion (Contains (keys_of groups))
              ((if b then v.0.1 ∷ [] else []) ++ tuples_under p vs)
              → IsFound v × AllByRecursion IsFound vs
          by_parent later true is all = (
            λ own. list_any_at (λ key. is_of key v.0) (keys_of groups) all.0.0 v.0.1 all.0.1
                ((λ i. is i && same_tuple rules (all.0.2 i) v.0.1) ∙ itself v.0.1),
            later all.1,
          )
          by_parent later false is all =
              ((λ own. absurd (clash (is_under p v.0) own is)), later all)

      -- so the documents of the buckets weigh as much as those of the visits at least
      pub page-covers : (f : ℕ → ℕ)
          → weight f (docs_of (is_under p) visits)
          ≤ sum_by (λ e. weight f (docs_of (is_id e.1.id) right.handed)) (page_of collector p)
      page-covers f =
          let each : KeyTuple → ℕ = λ key. weight f (docs_under rules p key visits) in
          omega (
            arith,
            weight-covered f is_of (keys_of groups) (is_under p) visits
                (visits-found visits (recursion_from_All (Contains (keys_of groups))
                (tuples_under p visits) lowest.1.complete)),
            ap (λ gs. sum_by each (keys_of gs)) (sym all-groups),
            ap (sum_by each) (keys-groups entries),
            sum_by-map each (λ entry. entry.key) entries,
            sum-each (λ entry. weight f (handed_at entry)) (λ entry. each entry.key) entries
                (AllByRecursion-weaker IsHanded
                (λ entry. weight f (handed_at entry) ≡ each entry.key)
                (λ entry is. ap (weight f) is) entries entries-handed),
            sum-entries (λ id. weight f (docs_of (is_id id) right.handed)),
          )
