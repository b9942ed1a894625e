use Rattle.std.proofs.Common.{rules}
use Rattle.agg_request.proofs.lemmas.reading.NamesBelow.{holds-members}
use Rattle.agg_request.proofs.reading.request.may_hold.Goals as goal

pub returns-then-is_inhabited : goal.returns-then-is_inhabited
returns-then-is_inhabited c = rw holds-members (search rules)

pub returns-then-not-has_member : goal.returns-then-not-has_member
returns-then-not-has_member c = rw holds-members (search rules)

pub returns-else-not-has_member : goal.returns-else-not-has_member
returns-else-not-has_member c = rw holds-members (search rules)
