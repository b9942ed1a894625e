use Rattle.std.proofs.Common.{◌≡◌, length}
use Rattle.agg_segment.specs.Segment.{gathered_documents}
use Rattle.agg_pages.proofs.lemmas.document_json.TokenFields.{HasTakenItems}
use Rattle.agg_pages.proofs.document_json.tokens.values.read_items.Given as goal

-- the items so far were taken into the field, and no document was closed
abbrev pub invariant-items : goal.invariant-items
invariant-items g l =
    let tokens = g.R.TokenReader.tokens in
    HasTakenItems l.field (tokens l.initial.reader) (tokens l.reader) l.initial.builder l.builder
    × (gathered_documents l.builder ≡ gathered_documents l.initial.builder)

abbrev pub decreases-items : goal.decreases-items
decreases-items g l = length (g.R.TokenReader.tokens l.reader)
