use Rattle.std.proofs.Common.{false}
use Rattle.agg_request.specs.reading.CompositeJson.{IsSourceJson}
use Rattle.agg_request.specs.ReadBack.{IsWritten}
use Rattle.agg_request.specs.WrittenJson.{data_of_source}
use Rattle.agg_request.proofs.WrittenSources.{each_written}
use Rattle.agg_request.proofs.writer.sources.write_sources.Goals as goal

pub loop-source-preserved : goal.loop-source-preserved
loop-source-preserved c =
    each_written (IsWritten data_of_source (IsSourceJson false)) c.loop-source.items.items
    c.push.new.self.items c.in_ok-write_source.field-0 c.args.sources.now
    c.loop-source.source-index c.source-item.result c.loop-source-test.true c.source-item.is
    c.loop-source.invariant c.in_ok-write_source.ensures c.in_ok-push.ensures.items
