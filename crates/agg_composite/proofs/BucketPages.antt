-- The buckets of a parent: the groups of what was visited under it, as the entries of a page.
use Rattle.std.proofs.Common.{◌≡◌, ◌==◌, ◌++◌, ℕ, zero, suc, Bool, true, false}
use Rattle.std.proofs.Common.{List, [], ◌∷◌, All}
use Rattle.std.proofs.Common.{take, map, append_assoc, refl, sym, ap, ◌∙◌, subst}
use Rattle.std.specs.Prelude.{if◌then◌else◌}
use Rattle.std.specs.List.{AllByRecursion, AllZip}
use Rattle.std.specs.Map.{keys_of}
use Rattle.std.proofs.lemmas.List.Elements.{All-from_recursion, recursion_from_All}
use Rattle.agg_values.specs.Names.{Named}
use Rattle.agg_values.specs.Tuple.{KeyTuple}
use Rattle.agg_values.specs.declared.after_key.AfterKey.{AfterKey}
use Rattle.agg_segment.specs.Segment.{Stored}
use Rattle.agg_request_tree.specs.Groups.{Group, Groups}
use Rattle.agg_request_tree.specs.Source.{rules_of}
use Rattle.agg_composite.specs.accessor.Accessors.{Fits}
use Rattle.agg_composite.specs.accessor.Decoded.{IsEncoded, decoded}
use Rattle.agg_composite.specs.accessor.Encoding.{EncodedTuple, StandsForTuple, encoded_tuple_order}
use Rattle.agg_composite.specs.declared.accessor.request_data.CompositeAggReqData.{
  CompositeAggReqData,
}
use Rattle.agg_composite.proofs.lemmas.accessor.EncodedOrder.{tuple-exact, tuple_order-total}
use Rattle.agg_composite.specs.buckets.Cut.{counts_of, cut, groups_of, tuples_under}
use Rattle.agg_composite.specs.buckets.Page.{Page}
use Rattle.agg_composite.specs.buckets.Visits.{Visit}
use Rattle.agg_composite.specs.declared.buckets.bucket.Bucket.{Bucket}
use Rattle.agg_composite.proofs.lemmas.buckets.CutPages.{have-the-cut}
use Rattle.agg_composite.specs.Composite.{Composite, CompositeFor, page_of}
use Rattle.agg_composite.specs.EncodedEntries.{encoded_of}
use Rattle.agg_composite.specs.PageEntries.{decoded_buckets, decoded_groups, entry_bucket}
use Rattle.agg_composite.specs.PageEntries.{IsNext, entry_group, entry_of, page_entries}
use Rattle.agg_composite.specs.Visits.{StandsForVisit, TypedVisit}
use Rattle.agg_composite.specs.declared.page_entries.EncodedEntries.{EncodedEntries}
use Rattle.agg_composite.specs.declared.page_entry.PageEntry.{PageEntry}
use Rattle.agg_composite.proofs.TypedGroups.{groups-encoded, groups-typed}

-- ---- what was visited under a parent

module _ (req : CompositeAggReqData) (parent : ℕ) where
  stand-if : (b : Bool) (t : EncodedTuple) (k : KeyTuple) (ts : List EncodedTuple)
      (ks : List KeyTuple) → StandsForTuple req t k → AllZip (StandsForTuple req) ts ks
      → AllZip (StandsForTuple req)
      ((if b then t ∷ [] else []) ++ ts) ((if b then k ∷ [] else []) ++ ks)
  stand-if true t k ts ks one rest = (one, rest)
  stand-if false t k ts ks one rest = rest

  -- the tuples that were visited under a parent stand for those of the typed visits
  pub under-stand : (visits : List (Visit EncodedTuple)) (typed : List TypedVisit)
      → AllZip (StandsForVisit req) visits typed
      → AllZip (StandsForTuple req) (tuples_under parent visits) (tuples_under parent typed)
  under-stand [] [] h = tt
  under-stand [] (k ∷ typed) h = absurd h
  under-stand (v ∷ visits) [] h = absurd h
  under-stand (v ∷ visits) (k ∷ typed) h =
      subst
      (λ p. AllZip (StandsForTuple req) (tuples_under parent (v ∷ visits))
      ((if parent == p then k.0.1 ∷ [] else []) ++ tuples_under parent typed))
      h.0.0
      (stand-if (parent == v.0.0) v.0.1 k.0.1 (tuples_under parent visits)
      (tuples_under parent typed) h.0.1 (under-stand visits typed h.1))

-- the tuples of a page are those of its counts
keys-counts : (page : Page EncodedTuple) → keys_of (counts_of page) ≡ keys_of page
keys-counts [] = refl
keys-counts (e ∷ page) = ap (λ ks. e.0 ∷ ks) (keys-counts page)

-- what holds of the tuples of all counts holds of those of the first
pub keys-first : (P : EncodedTuple → Type 0) (n : ℕ) (counts : List (EncodedTuple × ℕ))
    → AllByRecursion P (keys_of counts) → AllByRecursion P (keys_of (take n counts))
keys-first P zero counts all = tt
keys-first P (suc n) [] all = tt
keys-first P (suc n) (e ∷ counts) all = (all.0, keys-first P n counts all.1)

-- ---- a page as groups

-- a bucket as a group
abbrev bucket_group : KeyTuple × Bucket → Group
bucket_group e = (e.0, e.1.count)

groups-entries : (entries : List PageEntry)
    → map entry_group entries ≡ map bucket_group (map entry_bucket entries)
groups-entries [] = refl
groups-entries (e ∷ entries) = ap (λ (gs : List Group). entry_group e ∷ gs) (groups-entries entries)

groups-buckets : (req : CompositeAggReqData) (page : Page EncodedTuple)
    → map bucket_group (decoded_buckets req page) ≡ decoded_groups req (counts_of page)
groups-buckets req [] = refl
groups-buckets req (e ∷ page) =
    ap (λ (gs : List Group). (decoded req e.0, e.1.count) ∷ gs) (groups-buckets req page)

pub groups-first : (req : CompositeAggReqData) (n : ℕ) (counts : List (EncodedTuple × ℕ))
    → decoded_groups req (take n counts) ≡ take n (decoded_groups req counts)
groups-first req zero counts = refl
groups-first req (suc n) [] = refl
groups-first req (suc n) (e ∷ counts) =
    ap (λ (gs : List Group). (decoded req e.0, e.1) ∷ gs) (groups-first req n counts)

-- ---- the entries of a page, where these buckets are still to come

module _ (req : CompositeAggReqData) (left rest : Page EncodedTuple) (e : EncodedTuple × Bucket)
    (is : left ≡ e ∷ rest) where
  -- the tuple of the first stands for one where those of all do, and so do those of the others
  pub first-encoded : All (IsEncoded req) (keys_of left)
      → IsEncoded req e.0 × All (IsEncoded req) (keys_of rest)
  first-encoded encoded =
      let all = recursion_from_All (IsEncoded req) (keys_of (e ∷ rest))
      (subst (λ (es : Page EncodedTuple). All (IsEncoded req) (keys_of es)) is encoded) in
      (all.0, All-from_recursion (IsEncoded req) (keys_of rest) all.1)

  -- an entry more is that of the first
  pub entries-more : (whole entries entries_now : List PageEntry) (entry : PageEntry)
      → entries_now ≡ entries ++ entry ∷ [] → entry ≡ entry_of req e
      → entries ++ page_entries req left ≡ whole → entries_now ++ page_entries req rest ≡ whole
  entries-more whole entries entries_now entry pushed one so_far =
      ap (λ es. es ++ page_entries req rest) pushed
      ∙ append_assoc entries (entry ∷ []) (page_entries req rest)
      ∙ ap (λ x. entries ++ x ∷ page_entries req rest) one
      ∙ ap (λ bs. entries ++ page_entries req bs) (sym is)
      ∙ so_far

-- the tuples of buckets stand for tuples, whatever the room in them
pub encoded-sized : (req : CompositeAggReqData) (entries known : EncodedEntries)
    (buckets : Page EncodedTuple) → entries ≡ known → encoded_of entries ≡ buckets
    → All (IsEncoded req) (keys_of buckets) → All (IsEncoded req) (keys_of (encoded_of known))
encoded-sized req entries known buckets is seen =
    subst (λ (es : Page EncodedTuple). All (IsEncoded req) (keys_of es))
    (sym seen ∙ ap encoded_of is)

-- the next entry is before those that are left
pub next-entries : (req : CompositeAggReqData) (old new : Page EncodedTuple) (entry : PageEntry)
    → IsNext req old new entry → page_entries req old ≡ entry ∷ page_entries req new
next-entries req old new entry next =
    ap (page_entries req) next.split ∙ ap (λ x. x ∷ page_entries req new) (sym next.is)

-- the entries of buckets are these buckets, decoded
pub entries-decoded : (req : CompositeAggReqData) (buckets : Page EncodedTuple)
    → map entry_bucket (page_entries req buckets) ≡ decoded_buckets req buckets
entries-decoded req [] = refl
entries-decoded req (e ∷ buckets) =
    ap (λ (bs : List (KeyTuple × Bucket)). (decoded req e.0, e.1) ∷ bs)
    (entries-decoded req buckets)

-- ---- the page of a collector

module _ {C : Type 0} (waiting : C → ℕ → List ℕ) (req : CompositeAggReqData)
    (collector : Composite C) (visited : List TypedVisit) (given : List (ℕ × ℕ)) (parent : ℕ)
    (f : CompositeFor waiting req collector visited given) where
  -- the encoded tuples that were visited under the parent
  abbrev encoded_tuples : List EncodedTuple
  encoded_tuples = tuples_under parent f.visits

  -- the counts of the page are the lowest groups of them
  page-cut : counts_of (page_of collector parent) ≡ cut encoded_tuple_order req.size encoded_tuples
  page-cut =
      have-the-cut encoded_tuple_order tuple_order-total tuple-exact req.size collector.node.parents
      collector.node.next f.visits f.handed f.buckets parent

  -- its tuples stand for tuples
  pub page-encoded : All (IsEncoded req) (keys_of (page_of collector parent))
  page-encoded =
      let all = recursion_from_All (IsEncoded req)
      (keys_of (groups_of encoded_tuple_order encoded_tuples))
      (groups-encoded req encoded_tuples (tuples_under parent visited)
      (under-stand req parent f.visits visited f.stand)) in
      subst (All (IsEncoded req))
      (ap keys_of (sym page-cut) ∙ keys-counts (page_of collector parent))
      (All-from_recursion (IsEncoded req)
      (keys_of (cut encoded_tuple_order req.size encoded_tuples))
      (keys-first (IsEncoded req) req.size (groups_of encoded_tuple_order encoded_tuples) all))

  -- its entries are the lowest groups of them, decoded
  pub page-lowest : (entries : List PageEntry)
      → map entry_bucket entries ≡ decoded_buckets req (page_of collector parent)
      → map entry_group entries
      ≡ decoded_groups req (cut encoded_tuple_order req.size (tuples_under parent f.visits))
  page-lowest entries e =
      groups-entries entries ∙ ap (map bucket_group) e
      ∙ groups-buckets req (page_of collector parent)
      ∙ ap (decoded_groups req) page-cut

  -- the entries have the lowest groups of the tuples that were visited under the parent
  pub page-groups : (segment : Stored) (after : Named AfterKey) → Fits segment after req
      → (entries : List PageEntry)
      → map entry_bucket entries ≡ decoded_buckets req (page_of collector parent)
      → (groups : List Group)
      × Groups (rules_of req.req.now.sources) (tuples_under parent visited) groups
      × (map entry_group entries ≡ take req.size groups)
  page-groups segment after fits entries e = (
    decoded_groups req (groups_of encoded_tuple_order encoded_tuples),
    groups-typed segment after req fits encoded_tuples (tuples_under parent visited)
        (under-stand req parent f.visits visited f.stand),
    page-lowest entries e
        ∙ groups-first req req.size (groups_of encoded_tuple_order encoded_tuples),
  )
