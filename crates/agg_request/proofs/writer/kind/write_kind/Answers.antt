use Rattle.agg_request.proofs.writer.kind.write_kind.Goals as goal

pub returns-in-Filter : goal.returns-in-Filter
returns-in-Filter g c = rw c.in-Filter.is c.write_filter.ensures
