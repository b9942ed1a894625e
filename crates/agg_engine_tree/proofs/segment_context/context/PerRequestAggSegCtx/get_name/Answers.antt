use Rattle.std.proofs.Common.{◌∙◌}
use Rattle.agg_engine_tree.proofs.lemmas.segment_context.Views.{plan-name}
use Rattle.agg_engine_tree.proofs.segment_context.context.PerRequestAggSegCtx.get_name.Goals as goal

pub returns-clause-request : goal.returns-clause-request
returns-clause-request c = λ meaning name a is.
    c.name_at.ensures ∙ plan-name meaning c.args.self.now name a c.args.node.now is
