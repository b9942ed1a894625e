use Rattle.std.proofs.Common.{◌++◌, ◌<◌, ◌∷◌, [], length, take, get_or, sym, ap, ◌∙◌, arith}
use Rattle.std.proofs.Common.{append_assoc, take_all}
use Rattle.std.proofs.lemmas.List.{take_more}
use Rattle.agg_pages.proofs.document_json.plain.cursor.Cursor.take_all.Goals as goal

pub loop-byte-preserved : goal.loop-byte-preserved
loop-byte-preserved c =
    let l = c.loop-byte in
    let bytes = c.args.bytes.now in
    let within : l.byte-index < length bytes = grind arith in
    let left = c.take.new.self in
    l.invariant
    ∙ ap (λ r. take l.byte-index bytes ++ r) c.if-not-take.ensures
    ∙ sym (append_assoc (take l.byte-index bytes) (get_or bytes l.byte-index 0 ∷ []) left)
    ∙ ap (λ passed. passed ++ left) (sym (take_more bytes l.byte-index 0 within))

pub returns : goal.returns
returns c = λ _.
    let l = c.loop-byte in
    l.invariant ∙ ap (λ passed. passed ++ l.self)
    (take_all l.byte-index c.args.bytes.now c.loop-byte-test.false)
