use Rattle.std.proofs.Common.{subst}
use Rattle.std.proofs.lemmas.Result.{err_from_is_err_and}
use Rattle.serde_json.specs.View.{view}
use Rattle.agg_pages.specs.document_json.DocumentLine.{field_values}
use Rattle.agg_pages.specs.document_json.Fields.{AddsValues}
use Rattle.agg_pages.proofs.lemmas.document_json.DocumentMembers.{HasRead-none, HasRead-more}
use Rattle.agg_pages.proofs.lemmas.document_json.DocumentMembers.{HasRead-refused}
use Rattle.agg_pages.proofs.document_json.document.document_of_members.Goals as goal

pub loop-name-init : goal.loop-name-init
loop-name-init c =
    let gives = c.into_iter-name-iterator.ensures.into_iter_gives in (
      tt,
      tt,
      rw (c.new-document.ensures, gives.0) (HasRead-none c.args.members.entries gives.5),
    )

pub returns-in_err-add_values-clause-not_input : goal.returns-in_err-add_values-clause-not_input
returns-in_err-add_values-clause-not_input c = λ refused.
    let p = err_from_is_err_and c.from_residual.result c.from_residual.ensures.1 in
    HasRead-refused c.args.members.entries c.loop-name.document c.loop-name.name-iterator
    c.in-Some.name c.in-Some.value c.next.new.self c.loop-name.invariant.2 c.in-Some.ensures.steps
    (c.in_err-add_values.ensures.not_input (cc (refused, p.1, p.2)))

pub loop-name-preserved : goal.loop-name-preserved
loop-name-preserved c = (
  tt,
  tt,
  HasRead-more c.args.members.entries c.loop-name.document c.add_values.new.document
      c.loop-name.name-iterator c.in-Some.name c.in-Some.value c.next.new.self
      c.loop-name.invariant.2 c.in-Some.ensures.steps
      (subst (λ name. AddsValues name (field_values (view c.in-Some.value)) c.loop-name.document
      c.add_values.new.document) c.as_str.ensures.value c.in_ok-add_values.ensures.ok),
)
