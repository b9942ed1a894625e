use Rattle.std.proofs.Common.{Err, ap}
use Rattle.agg_composite.proofs.lemmas.accessor.EncodedOrder.{tuple-exact}
use Rattle.agg_composite.proofs.ListedEntries.{accessors-long, listed-all, listed-uncounted}
use Rattle.agg_composite.proofs.ListedEntries.{listed-ungrouped}
use Rattle.agg_composite.proofs.walk.listing.list_entries.Goals as goal

pub count_documents-requires-clause-accessors : goal.count_documents-requires-clause-accessors
count_documents-requires-clause-accessors g c =
    let fits = c.requires.fits in
    accessors-long fits.0 fits.1 c.args.req.now fits.2

pub into_ascending-requires : goal.into_ascending-requires
into_ascending-requires g c = record { exact = tuple-exact }

pub returns-in_err-count_documents : goal.returns-in_err-count_documents
returns-in_err-count_documents g c = λ segment after fits range.
    listed-uncounted segment after c.args.req.now c.args.docs.now c.args.steps.now
    c.count_documents.new.steps c.new-counts.result c.count_documents.new.counts
    c.new-counts.ensures c.in_err-count_documents.field-0.0 c.from_residual.result
    (c.in_err-count_documents.ensures segment after fits range) c.from_residual.ensures.1

pub returns-in_err-lowest : goal.returns-in_err-lowest
returns-in_err-lowest g c = λ segment after fits range.
    listed-ungrouped segment after c.args.req.now c.args.docs.now c.args.steps.now
    c.count_documents.new.steps c.new-counts.result c.count_documents.new.counts
    c.new-counts.ensures (c.in_ok-count_documents.ensures segment after fits range)
    c.in_err-lowest.field-0.0 c.from_residual-in_err-lowest.result
    (λ e. c.in_err-lowest.ensures.too_many (ap (λ x. Err x) e))
    c.from_residual-in_err-lowest.ensures.1

pub returns : goal.returns
returns g c = λ segment after fits range.
    listed-all segment after c.args.req.now c.args.docs.now c.args.steps.now
    c.count_documents.new.steps c.new-counts.result c.count_documents.new.counts
    c.new-counts.ensures (c.in_ok-count_documents.ensures segment after fits range) fits
    c.in_ok-lowest.lowest c.in_ok-lowest.ensures.ok c.new.result c.new.ensures
