use Rattle.std.proofs.Common.{◌≡◌, false, take}
use Rattle.std.specs.List.{list_any, range_with_len}
use Rattle.peslumok_records.specs.record_index.Index.{has_keys}
use Rattle.peslumok_records.proofs.record_index.index.has_values.Given as goal

-- the columns so far have no key
abbrev pub invariant-loop-column : goal.invariant-loop-column
invariant-loop-column l =
    list_any (λ c. has_keys c (range_with_len 0 l.count)) (take l.column-index l.column-items)
    ≡ false
