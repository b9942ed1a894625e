use Rattle.std.proofs.Common.{ap, ◌∙◌}
use Rattle.serde_json.specs.View.{members_view}
use Rattle.agg_values.specs.Names.{put}
use Rattle.agg_request.proofs.lemmas.reading.AfterKeys.{IsReadUpTo-all, IsReadUpTo-more}
use Rattle.agg_request.proofs.lemmas.reading.AfterKeys.{IsReadUpTo-none, IsReadUpTo-refused}
use Rattle.agg_request.proofs.reading.composite.after.read_members.Goals as goal

pub loop-name-init : goal.loop-name-init
loop-name-init c = (
  tt,
  tt,
  IsReadUpTo-none c.args.members.now.entries c.new-after.result c.into_iter-name-iterator.result
      c.new-after.ensures
      (c.into_iter-name-iterator.ensures.into_iter_gives ∙ c.iter-name-items.ensures.rest)
      c.iter-name-items.ensures.ordered,
)

pub returns-in_err-read_key : goal.returns-in_err-read_key
returns-in_err-read_key c =
    IsReadUpTo-refused (members_view c.args.members.now.entries) c.loop-name.after
    c.loop-name.name-iterator c.in-Some.name.now c.in-Some.value.now c.next.new.self
    c.in_err-read_key.field-0.0 c.from_residual.result c.loop-name.invariant.2
    c.in-Some.ensures.steps c.from_residual.ensures.1 c.in_err-read_key.ensures

pub loop-name-preserved : goal.loop-name-preserved
loop-name-preserved c = (
  tt,
  tt,
  IsReadUpTo-more (members_view c.args.members.now.entries) c.loop-name.after c.put_key.new.after
      c.loop-name.name-iterator c.in-Some.name.now c.in-Some.value.now c.next.new.self
      c.in_ok-read_key.field-0 c.loop-name.invariant.2 c.in-Some.ensures.steps
      c.in_ok-read_key.ensures
      (c.in_ok-put_key.ensures
      ∙ ap (λ n. put n c.in_ok-read_key.field-0 c.loop-name.after) c.as_str.ensures.value),
)

pub returns : goal.returns
returns c =
    IsReadUpTo-all (members_view c.args.members.now.entries) c.loop-name.after
    c.loop-name.name-iterator c.loop-name.invariant.2 c.in-None.ensures.steps.0
