use Rattle.std.proofs.Common.{◌≡◌, ◌≤◌, ◌++◌, List, drop, length, map}
use Rattle.std.specs.Prelude.{filter, nat_lt}
use Rattle.std.specs.List.{All}
use Rattle.agg_segment.specs.Gatherings.{Raw, AreAlike}
use Rattle.agg_segment.specs.storage.Runs.{kinds, noted}
use Rattle.agg_segment.proofs.NotedKeys.{note_raw}
use Rattle.agg_segment.proofs.gatherings.Gatherings.add_all.Given as goal

abbrev pub invariant-loop-run : goal.invariant-loop-run
invariant-loop-run l = record {
  so_far : (more : List Raw) × AreAlike l.self (l.initial.self ++ more)
      × (more ++ map (note_raw l.doc) (noted (drop l.run-index l.runs) l.rest)
      ≡ map (note_raw l.doc) (noted l.runs l.numbers));
  fit : length (kinds (drop l.run-index l.runs)) ≡ length l.rest;
  undone : filter (λ r. nat_lt r.doc l.doc) l.self ≡ l.initial.self;
  after : All (λ r. r.doc ≤ l.doc) l.self;
}
