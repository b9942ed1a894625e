use Rattle.std.proofs.Common.{◌≡◌, length}
use Rattle.agg_segment.specs.Segment.{gathered_documents}
use Rattle.agg_pages.proofs.lemmas.document_json.TokenMembers.{HasTakenMembers}
use Rattle.agg_pages.proofs.document_json.tokens.read_members.Given as goal

-- the members so far were taken, and no document was closed
abbrev pub invariant-members : goal.invariant-members
invariant-members g l =
    let tokens = g.R.TokenReader.tokens in
    HasTakenMembers (tokens l.fn.reader) (tokens l.reader) l.fields.items l.builder
    × (gathered_documents l.builder ≡ gathered_documents l.fn.builder)

abbrev pub decreases-members : goal.decreases-members
decreases-members g l = length (g.R.TokenReader.tokens l.reader)
