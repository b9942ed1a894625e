-- How many occurrences lie past a bound.
use Rattle.std.proofs.Common.{◌≤◌, List, length, arith}
use Rattle.std.proofs.lemmas.List.Sums.{length-filter, count_by-le-length}
use Rattle.agg_values.specs.Tuple.{KeyTuple}
use Rattle.agg_segment.specs.storage.Document.{Fields}
use Rattle.agg_request_tree.specs.Source.{Sources, rules_of}
use Rattle.agg_request_tree.specs.Occurrences.{past_occurrences, is_past, occurrences_in}

-- those past a bound are no more than all
pub past-fewer : (sources : Sources) (bound : KeyTuple) (documents : List Fields)
    → length (past_occurrences sources bound documents) ≤ length (occurrences_in sources documents)
past-fewer sources bound documents =
    let past = is_past (rules_of sources) bound in
    omega (
      arith,
      length-filter past (occurrences_in sources documents),
      count_by-le-length past
          (occurrences_in sources documents),
    )
