use Rattle.agg_segment.specs.storage.Document.{key_of}
use Rattle.agg_pages.specs.document_json.Tokens.{num_of}
use Rattle.agg_pages.proofs.lemmas.document_json.TokenValues.{bool_value, number_value}
use Rattle.agg_pages.proofs.document_json.tokens.value.read_value.Goals as goal

pub returns-in-Bool : goal.returns-in-Bool
returns-in-Bool g c =
    let rest = g.R.TokenReader.tokens c.args.reader.now in
    rw c.in-Bool.is (λ first is. rw is (bool_value c.in-Bool.b rest))

pub returns-in-Number : goal.returns-in-Number
returns-in-Number g c =
    let rest = g.R.TokenReader.tokens c.args.reader.now in
    rw c.in-Number.is (λ first stands. rw stands.1 (number_value stands.0 rest
    (num_of c.in-Number.n) (key_of c.value.result) stands.2 c.value.ensures))
