use Rattle.std.proofs.Common.{◌≡◌, ◌<◌, ℕ, false}
use Rattle.std.specs.List.{list_any}
use Rattle.agg_segment.specs.storage.Columns.{column_keys}
use Rattle.agg_segment.specs.Query.{is_any}
use Rattle.peslumok_records.proofs.record_index.index.has_keys.Given as goal

-- the documents so far have no key
abbrev pub invariant-loop-doc : goal.invariant-loop-doc
invariant-loop-doc l =
    (doc : ℕ) → doc < l.doc → list_any is_any (column_keys l.column doc) ≡ false
