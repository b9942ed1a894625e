use Rattle.std.proofs.Common.{length, sym, ap, ◌∙◌}
use Rattle.std.specs.Prelude.{filter_map}
use Rattle.agg_segment.specs.storage.Columns.{numbers_at}
use Rattle.agg_request_tree.specs.Metrics.{number_of}
use Rattle.agg_engine_tree.specs.uncut.NodeData.{has_numbers}
use Rattle.agg_engine_tree.proofs.lemmas.uncut.FieldNumbers.{length-no_numbers, length-numbers}
use Rattle.agg_engine_tree.proofs.uncut.node_data.num_numbers_in.Goals as goal

pub returns-then-not-has_numbers : goal.returns-then-not-has_numbers
returns-then-not-has_numbers c =
    let column = c.args.column.now in
    sym (length-no_numbers column.keys (numbers_at column.cells c.args.doc)
    (sym (c.has_numbers.ensures ∙ ap has_numbers c.column_type.ensures.kind)
    ∙ c.if-not-has_numbers.true))

pub returns : goal.returns
returns c =
    let column = c.args.column.now in
    sym (ap (λ ks. length (filter_map number_of ks)) (sym c.values_for_doc.ensures.keys)
    ∙ length-numbers column.keys c.values_for_doc.result.now
    (sym (c.has_numbers.ensures ∙ ap has_numbers c.column_type.ensures.kind)
    ∙ c.if-not-has_numbers.false))
