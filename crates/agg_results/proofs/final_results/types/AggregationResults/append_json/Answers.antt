use Rattle.std.proofs.Common.{string_bytes}
use Rattle.agg_results.specs.final_results.OwnMembers.{own_members}
use Rattle.agg_results.proofs.lemmas.final_results.AppendedResults.{results-alone}
use Rattle.agg_results.proofs.final_results.types.AggregationResults.append_json.Goals as goal

pub returns : goal.returns
returns c =
    results-alone c.write_results.result c.args.self.now (own_members c.none.result)
    (string_bytes c.args.text.now) (string_bytes c.write_results.new.text) c.none.ensures
    c.write_results.ensures.text c.write_results.ensures.ascending
