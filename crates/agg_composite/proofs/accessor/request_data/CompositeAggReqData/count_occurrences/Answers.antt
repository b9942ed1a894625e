use Rattle.std.proofs.Common.{◌≡◌, ◌-◌, ◌^◌, List, length, min, sym, ap, ◌∙◌, subst}
use Rattle.std.proofs.lemmas.Slice.Zip.{AllZip-long}
use Rattle.agg_segment.specs.Segment.{documents_at}
use Rattle.agg_request_tree.specs.Occurrences.{occurrences_in}
use Rattle.agg_request_tree.specs.Source.{Sources, after_of}
use Rattle.agg_request_tree.proofs.UncutLength.{length-counted}
use Rattle.agg_composite.specs.accessor.Accessors.{AllFit, AreAccessorsOf}
use Rattle.agg_composite.specs.declared.accessor.accessor.CompositeSourceAccessors.{
  CompositeSourceAccessors,
}
use Rattle.agg_composite.proofs.accessor.request_data.CompositeAggReqData.count_occurrences.Goals
    as goal

pub count_occurrences-requires : goal.count_occurrences-requires
count_occurrences-requires c =
    let req = c.args.self.now in
    let fits = c.requires in
    ap length c.as_slice-sources.ensures
    ∙ sym (AllZip-long (λ source a. AreAccessorsOf fits.0 source (after_of fits.1 source) a)
    req.req.now.sources req.composite_accessors fits.2)
    ∙ ap length (sym c.as_slice.ensures)

pub returns : goal.returns
returns c segment after fit =
    let req = c.args.self.now in
    let documents = documents_at segment c.args.docs.now in
    let result = c.count_occurrences.result in
    subst (λ (p : Sources × List CompositeSourceAccessors). AllFit segment after p.0 p.1
    → result ≡ min (length (occurrences_in p.0 documents)) (2 ^ 64 - 1))
    (λ x. (c.as_slice-sources.ensures x, c.as_slice.ensures x))
    (c.count_occurrences.ensures segment after) fit
    ∙ ap (λ n. min n (2 ^ 64 - 1)) (sym (length-counted req.req.now documents))
