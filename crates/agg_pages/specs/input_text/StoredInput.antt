-- What an input in memory stands for.
use Rattle.agg_segment.specs.Snapshot.{snapshots_documents}
use Rattle.agg_pages.specs.declared.input_text.input.Input as stored
use Rattle.agg_pages.specs.input_text.Input.{Input}

-- what an input in memory stands for
abbrev pub input_of : {B : Type 0} → stored.Input B → Input B
input_of i = record { header = i.header; snapshots = snapshots_documents i.snapshots }
