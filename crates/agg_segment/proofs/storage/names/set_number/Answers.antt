use Rattle.std.proofs.Common.{Some, cond, ap, ◌∙◌}
use Rattle.std.specs.Str.{bytes_eq}
use Rattle.std.specs.String.{string_bytes}
use Rattle.agg_segment.specs.storage.Cells.{number_of}
use Rattle.agg_segment.specs.storage.Names.{numbered_names}
use Rattle.agg_segment.proofs.lemmas.storage.Numbers.{number_set}
use Rattle.agg_segment.proofs.storage.names.set_number.Goals as goal

pub returns-clause-ok : goal.returns-clause-ok
returns-clause-ok c other =
    number_set c.args.names.now c.insert.new.self (string_bytes c.in_ok-from_str.field-0)
    c.args.number c.in_ok-insert.ensures.updates other
    ∙ ap (λ name. cond (bytes_eq name other) (Some c.args.number)
    (number_of (numbered_names c.args.names.now) other)) c.in_ok-from_str.ensures.ok
