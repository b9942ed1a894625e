use Rattle.std.proofs.Common.{◌∷◌}
use Rattle.json.specs.Token as json
use Rattle.agg_segment.specs.storage.Document.{key_of}
use Rattle.agg_values.specs.declared.typed_key.CompositeIntermediateKey.TheVariants as key
use Rattle.agg_pages.proofs.lemmas.document_json.TokenFields.{null_item, one_item}
use Rattle.agg_pages.proofs.lemmas.document_json.TokenValues.{text_value}
use Rattle.agg_pages.proofs.document_json.tokens.values.read_item.Goals as goal

pub returns-in-Null-clause-taken : goal.returns-in-Null-clause-taken
returns-in-Null-clause-taken g c = λ taken.
    let rest = g.R.TokenReader.tokens c.args.reader.now in
    rw c.in-Null.is (λ first is. rw is (null_item c.args.field rest c.args.builder.now))

pub returns-in-Text-clause-taken : goal.returns-in-Text-clause-taken
returns-in-Text-clause-taken g c = λ taken.
    let text = c.in-Text.text.now in
    let rest = g.R.TokenReader.tokens c.args.reader.now in
    rw c.in-Text.is (λ first is. rw is (one_item c.args.field (json.string text ∷ rest) rest
    (key.Str text) c.args.builder.now c.push_text.new.self (text_value text rest)
    c.in_ok-push_text.ensures.ok c.in_ok-push_text.ensures.names))

pub returns : goal.returns
returns g c =
    let tokens = g.R.TokenReader.tokens in
    let value = rw c.in-Some.is at c.in_ok-value.ensures in record {
      taken = λ taken first stands.
          one_item c.args.field (first ∷ tokens c.args.reader.now)
          (tokens c.read_value.new.reader) (key_of c.in-Some.value) c.args.builder.now
          c.push.new.self (value first stands) c.in_ok-push.ensures.ok c.in_ok-push.ensures.names;
      documents = c.in_ok-push.ensures.documents;
    }
