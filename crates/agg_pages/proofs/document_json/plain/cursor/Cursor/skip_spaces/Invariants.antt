use Rattle.std.proofs.Common.{◌≡◌, length}
use Rattle.json.specs.Lex.{between, lex}
use Rattle.agg_pages.proofs.document_json.plain.cursor.Cursor.skip_spaces.Given as goal

-- spaces are no lexemes
abbrev pub invariant-spaces : goal.invariant-spaces
invariant-spaces l = lex between l.self ≡ lex between l.fn.self

abbrev pub decreases-spaces : goal.decreases-spaces
decreases-spaces l = length l.self
