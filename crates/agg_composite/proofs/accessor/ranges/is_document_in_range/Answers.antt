use Rattle.std.proofs.Common.{◌↔◌, All, filter, subst}
use Rattle.agg_request_tree.specs.Source.{is_from}
use Rattle.agg_composite.specs.accessor.Ranges.{AreNumbersWithin, IsDocumentWithin, IsKeyWithin}
use Rattle.agg_composite.proofs.lemmas.accessor.NumberRanges.{numbers-range}
use Rattle.agg_composite.proofs.accessor.ranges.is_document_in_range.Goals as goal

pub returns : goal.returns
unfolding IsDocumentWithin
returns c min least =
    let column = c.args.column.now in
    let within = IsKeyWithin column.divisor in
    let numbers = c.values_for_doc.result.now in
    let keys = column.column.now.keys in
    let range = subst (λ ks. AreNumbersWithin column.divisor keys c.args.least numbers
    ↔ All within (filter (is_from min) ks)) c.values_for_doc.ensures.keys
    (numbers-range column.divisor keys c.args.least min least numbers
    c.values_for_doc.ensures.stand) in (
      λ is. range.0 (c.are_numbers_in_range.ensures.0 is),
      λ all. c.are_numbers_in_range.ensures.1 (range.1 all),
    )
