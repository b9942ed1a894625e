-- What is gone from the source is what was kept, and the count of faults hasn't fallen.
use Rattle.std.proofs.Common.{◌≤◌, ◌-◌, vec_len}
use Rattle.std.specs.Io.KnownBytes.{Consumes}
use Rattle.agg_pages.specs.declared.input_text.input.TheConstants.{MAX_INPUT_BYTES}
use Rattle.agg_pages.proofs.source.reading.read_all.Given as goal

abbrev pub invariant-loop-bytes : goal.invariant-loop-bytes
invariant-loop-bytes g l = record {
  within : vec_len l.bytes ≤ MAX_INPUT_BYTES;
  gone : Consumes (g.R.Source.left l.initial.source) (g.R.Source.left l.source) l.bytes.items;
  later : g.R.Source.faults l.initial.source ≤ g.R.Source.faults l.source;
}

abbrev pub decreases-loop-bytes : goal.decreases-loop-bytes
decreases-loop-bytes g l = MAX_INPUT_BYTES - vec_len l.bytes
