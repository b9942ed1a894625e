use Rattle.agg_pages.proofs.lemmas.document_json.TokenValues.{if_date}
use Rattle.agg_pages.proofs.document_json.tokens.value.read_date.Goals as goal

pub returns : goal.returns
returns c = rw c.in-Number.is (if_date c.in-Number.n c.date.result c.date.ensures)
