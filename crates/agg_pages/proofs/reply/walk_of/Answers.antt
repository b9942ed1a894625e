use Rattle.agg_cache.proofs.SameLimits.{same-limits}
use Rattle.agg_pages.specs.input_text.StoredInput.{input_of}
use Rattle.agg_pages.specs.Answer.{limits_of}
use Rattle.agg_pages.proofs.Replies.{walked-IsValid, walked-refused}
use Rattle.agg_pages.proofs.reply.walk_of.Goals as goal

pub returns-clause-valid : goal.returns-clause-valid
returns-clause-valid g c =
    walked-IsValid
    (λ b. (goal.QueryBuilder-dyn g (b.builder.vtable, b.builder.value)).tree_for b.builder.value)
    (input_of c.args.input.now) c.new-limits.result
    (same-limits (limits_of (input_of c.args.input.now)) c.new-limits.result
    c.new-limits.ensures.in_use c.new-limits.ensures.memory c.new-limits.ensures.buckets)
    c.walk_pages.result c.walk_pages.ensures.asked c.walk_pages.ensures.fits

pub returns-clause-cause : goal.returns-clause-cause
returns-clause-cause g c =
    walked-refused
    (λ b. (goal.QueryBuilder-dyn g (b.builder.vtable, b.builder.value)).tree_for b.builder.value)
    (input_of c.args.input.now) c.new-limits.result
    (same-limits (limits_of (input_of c.args.input.now)) c.new-limits.result
    c.new-limits.ensures.in_use c.new-limits.ensures.memory c.new-limits.ensures.buckets)
    c.walk_pages.result c.walk_pages.ensures.cause
