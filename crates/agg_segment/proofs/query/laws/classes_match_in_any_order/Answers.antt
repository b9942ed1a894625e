use Rattle.agg_segment.proofs.ByClass.{matches-by_class}
use Rattle.agg_segment.proofs.query.laws.classes_match_in_any_order.Goals as goal

pub returns : goal.returns
returns c tree document = matches-by_class tree document
