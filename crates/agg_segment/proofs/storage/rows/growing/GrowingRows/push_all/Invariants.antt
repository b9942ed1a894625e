use Rattle.std.proofs.Common.{◌≡◌, ◌≤◌, ◌++◌, take}
use Rattle.std.specs.List.{All}
use Rattle.agg_segment.specs.storage.Growing.{doc_rows}
use Rattle.agg_segment.proofs.storage.rows.growing.GrowingRows.push_all.Given as goal

abbrev pub invariant-loop-number : goal.invariant-loop-number
invariant-loop-number l = record {
  rows : l.self ≡ l.initial.self ++ doc_rows l.doc (take l.number-index l.numbers);
  after : All (λ r. r.0 ≤ l.doc) l.self;
}
