use Rattle.peslumok_records.proofs.lemmas.record_index.OneSnapshot.{one-snapshot}
use Rattle.peslumok_records.proofs.record_index.index.Index.of.Goals as goal

pub returns-clause-snapshots : goal.returns-clause-snapshots
returns-clause-snapshots c =
    one-snapshot _ c.in_ok-segments.segments.items c.from_vec.result c.args.page_size
    c.new-snapshots.result c.push.new.self c.in_ok-segments.ensures c.from_vec.ensures
    c.new-snapshots.ensures c.in_ok-push.ensures.ok
