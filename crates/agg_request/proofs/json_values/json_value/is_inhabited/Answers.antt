use Rattle.std.proofs.Common.{rules}
use Rattle.serde_json.proofs.Views.{members_len-members_view}
use Rattle.agg_request.proofs.json_values.json_value.is_inhabited.Goals as goal

pub returns : goal.returns
returns c = rw members_len-members_view (search rules)
