use Rattle.std.proofs.Common.{rules}
use Rattle.agg_pages.specs.input_text.StoredInput.{input_of}
use Rattle.agg_pages.proofs.Replies.{may_not_refuse}
use Rattle.agg_pages.proofs.reply.summary_of.Goals as goal

pub unreachable-requires : goal.unreachable-requires
unreachable-requires g c =
    may_not_refuse
    (λ b. (goal.QueryBuilder-dyn g (b.builder.vtable, b.builder.value)).tree_for b.builder.value)
    (input_of c.args.input.now) c.in-Err.field-0 c.requires
    (c.in-Err.ensures.cause (search rules))
