use Rattle.agg_composite.specs.Composite.{page_of}
use Rattle.agg_composite.specs.PageEntries.{page_entries}
use Rattle.agg_composite.proofs.BucketDocuments.{page-handed}
use Rattle.agg_composite.proofs.BucketPages.{entries-decoded, page-encoded, page-groups}
use Rattle.agg_composite.proofs.laws.pages_have_the_lowest_groups.Goals as goal

pub returns-clause-encoded : goal.returns-clause-encoded
returns-clause-encoded g c = λ req collector visited given f parent.
    page-encoded g.C.SubAggCache.waiting req collector visited given parent f

pub returns-clause-groups : goal.returns-clause-groups
returns-clause-groups g c = λ segment after req fits collector visited given f parent.
    let buckets = page_of collector parent in
    page-groups g.C.SubAggCache.waiting req collector visited given parent f segment after fits
    (page_entries req buckets) (entries-decoded req buckets)

pub returns-clause-handed : goal.returns-clause-handed
returns-clause-handed g c = λ segment after req fits collector visited given all parent.
    let buckets = page_of collector parent in
    page-handed segment after req fits g.C.SubAggCache.waiting collector visited given parent all.0
    all.1 all.2 (page_entries req buckets) (entries-decoded req buckets)
