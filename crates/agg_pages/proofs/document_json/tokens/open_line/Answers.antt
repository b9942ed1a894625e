use Rattle.std.proofs.Common.{◌∙◌}
use Rattle.agg_pages.proofs.lemmas.document_json.TokenLines.{line_taken}
use Rattle.agg_pages.proofs.document_json.tokens.open_line.Goals as goal

pub returns : goal.returns
returns c = record {
  taken = line_taken c.open_tokens-2.result c.in-Ok.reader c.args.line.now
      c.open_tokens-2.new.builder c.in-Ok.ensures.ok c.open_tokens-2.ensures.taken;
  documents = c.open_tokens-2.ensures.documents ∙ c.in_ok-open_tokens.ensures.documents;
}
