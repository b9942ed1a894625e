use Rattle.std.proofs.Common.{◌≡◌, All, List, sym, ap, ◌∙◌, subst, map}
use Rattle.std.specs.Map.{keys_of}
use Rattle.std.proofs.lemmas.Result.{IfOk-weaker}
use Rattle.agg_composite.specs.accessor.Decoded.{IsEncoded}
use Rattle.agg_composite.specs.accessor.Encoding.{EncodedTuple}
use Rattle.agg_composite.specs.declared.accessor.request_data.CompositeAggReqData.{
  CompositeAggReqData,
}
use Rattle.agg_composite.specs.buckets.Page.{Page}
use Rattle.agg_composite.specs.PageEntries.{decoded_buckets, entry_bucket, page_entries}
use Rattle.agg_composite.specs.declared.page_entry.PageEntry.{PageEntry}
use Rattle.agg_composite.proofs.BucketDocuments.{page-handed}
use Rattle.agg_composite.proofs.BucketPages.{entries-decoded, page-groups}
use Rattle.agg_composite.proofs.collector.SegmentCompositeCollector.page.Goals as goal

-- the entries of buckets, decoded
decoded-page : (req : CompositeAggReqData) (buckets own : Page EncodedTuple) → buckets ≡ own
    → (page : List PageEntry) → page ≡ page_entries req buckets
    → map entry_bucket page ≡ decoded_buckets req own
decoded-page req buckets own same page is =
    ap (map entry_bucket) is ∙ entries-decoded req buckets ∙ ap (decoded_buckets req) same

pub into_list-requires : goal.into_list-requires
into_list-requires g c =
    subst (λ (es : Page EncodedTuple). All (IsEncoded c.args.req.now) (keys_of es))
    (sym c.in_ok-entries.ensures) (c.requires.tuples c.args.parent_bucket_id)

pub returns-clause-buckets : goal.returns-clause-buckets
returns-clause-buckets g c =
    IfOk-weaker c.into_list.result _ _
    (decoded-page c.args.req.now _ _ c.in_ok-entries.ensures)
    c.into_list.ensures

pub returns-clause-groups : goal.returns-clause-groups
returns-clause-groups g c =
    let req = c.args.req.now in
    let fits = c.requires.fits in
    IfOk-weaker c.into_list.result _ _
    (λ page is visited given f.
    page-groups g.C.SubAggCache.waiting req c.args.self.now visited given
    c.args.parent_bucket_id f fits.0 fits.1 fits.2 page
    (decoded-page req _ _ c.in_ok-entries.ensures page is))
    c.into_list.ensures

pub returns-clause-handed : goal.returns-clause-handed
returns-clause-handed g c =
    let req = c.args.req.now in
    let fits = c.requires.fits in
    IfOk-weaker c.into_list.result _ _
    (λ page is visited given f hands_on none.
    page-handed fits.0 fits.1 req fits.2 g.C.SubAggCache.waiting c.args.self.now visited given
    c.args.parent_bucket_id f hands_on none page
    (decoded-page req _ _ c.in_ok-entries.ensures page is))
    c.into_list.ensures
