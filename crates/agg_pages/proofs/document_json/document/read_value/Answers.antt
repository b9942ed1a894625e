use Rattle.std.proofs.Common.{sym, ap, ◌∙◌, option_map}
use Rattle.serde_json.specs.View.{view}
use Rattle.agg_segment.specs.storage.Document.{key_of}
use Rattle.agg_pages.proofs.lemmas.document_json.Documents.{no_key}
use Rattle.agg_pages.proofs.document_json.document.read_value.Goals as goal

pub returns-in-None-2-clause-not_input : goal.returns-in-None-2-clause-not_input
returns-in-None-2-clause-not_input c = λ _.
    no_key (view c.args.value.now)
    (sym (ap (option_map key_of) c.in-None.is) ∙ c.in_ok-plain.ensures)
    (c.in_ok-address-in-None.ensures.none c.in-None-2.is)
