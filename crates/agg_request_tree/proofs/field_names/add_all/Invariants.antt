use Rattle.agg_request_tree.proofs.FieldNames.{AreTakenUpTo}
use Rattle.agg_request_tree.proofs.field_names.add_all.Given as goal

abbrev pub invariant-loop-field : goal.invariant-loop-field
invariant-loop-field l = AreTakenUpTo l.fn.fields l.field-iterator.rest.items l.fn.names l.names
