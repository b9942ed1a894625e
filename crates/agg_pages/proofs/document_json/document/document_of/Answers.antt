use Rattle.std.proofs.Common.{Some, ap, ◌∙◌}
use Rattle.serde_json.specs.Data.{object}
use Rattle.serde_json.specs.View.{members_view, view}
use Rattle.serde_json.proofs.Views.{view-Object}
use Rattle.agg_pages.proofs.lemmas.document_json.Documents.{no_document}
use Rattle.agg_pages.proofs.document_json.document.document_of.Goals as goal

pub returns-in-Object-clause-not_input : goal.returns-in-Object-clause-not_input
returns-in-Object-clause-not_input c = λ refused.
    no_document c.args.line.now (object (members_view c.in-Object.members.entries))
    (c.in_ok-members.ensures.ok ∙ ap (λ v. Some (view v)) c.in-Object.is
    ∙ ap Some (view-Object c.in-Object.members))
    (c.document_of_members.ensures.not_input refused)
