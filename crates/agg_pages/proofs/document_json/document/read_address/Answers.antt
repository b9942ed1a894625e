use Rattle.std.proofs.Common.{Some, ap, ◌∙◌}
use Rattle.serde_json.specs.View.{view}
use Rattle.agg_pages.proofs.lemmas.document_json.Documents.{no_address}
use Rattle.agg_pages.proofs.document_json.document.read_address.Goals as goal

pub returns-in_ok-copy_of-in-Some-clause-none : goal.returns-in_ok-copy_of-in-Some-clause-none
returns-in_ok-copy_of-in-Some-clause-none c =
    no_address (view c.args.value.now) c.in_ok-copy_of-in-Some.field-0 c.read-in-Some.result
    (ap Some c.in_ok-copy_of-in-Some.ensures ∙ c.in-Some.ensures)
    c.read-in-Some.ensures.each
