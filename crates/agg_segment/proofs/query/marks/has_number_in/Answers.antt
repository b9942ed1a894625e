use Rattle.std.proofs.Common.{◌∙◌, ap}
use Rattle.std.specs.List.{list_any}
use Rattle.agg_segment.proofs.Marks.{span_finds}
use Rattle.agg_segment.proofs.query.marks.has_number_in.Goals as goal

pub returns : goal.returns
returns c is_such of =
    c.has_number.ensures.found
    ∙ span_finds c.args.column.now.keys is_such c.args.span of c.values_for_doc.result.now
    (λ k d l. (c.has_number.ensures.fit k d l, c.values_for_doc.ensures.stand k d l))
    ∙ ap (list_any is_such) c.values_for_doc.ensures.keys
