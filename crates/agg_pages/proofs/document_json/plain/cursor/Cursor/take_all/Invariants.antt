use Rattle.std.proofs.Common.{◌≡◌, ◌++◌, take}
use Rattle.agg_pages.proofs.document_json.plain.cursor.Cursor.take_all.Given as goal

-- the bytes so far were passed
abbrev pub invariant-loop-byte : goal.invariant-loop-byte
invariant-loop-byte l = l.fn.self ≡ take l.byte-index l.bytes ++ l.self
