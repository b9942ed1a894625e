use Rattle.std.proofs.Common.{◌≡◌, ◌++◌, map, take}
use Rattle.peslumok_command_line.specs.Asked.{column, columns_of}
use Rattle.peslumok_command_line.proofs.readings.push_columns.Given as goal

abbrev pub invariant-loop-field : goal.invariant-loop-field
invariant-loop-field l =
    map column l.columns.items
    ≡ map column l.fn.columns.items
    ++ columns_of l.kind (map (λ field. field.now) (take l.field-index l.fields))
