use Rattle.std.proofs.Common.{◌≡◌, map, take}
use Rattle.agg_request_tree.specs.Source.{field_of}
use Rattle.agg_request_tree.proofs.field_names.source_fields.Given as goal

abbrev pub invariant-loop-source : goal.invariant-loop-source
invariant-loop-source l = l.fields ≡ map field_of (take l.source-index l.source-items)
