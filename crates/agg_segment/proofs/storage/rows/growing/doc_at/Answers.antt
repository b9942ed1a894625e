use Rattle.std.proofs.Common.{◌≡◌, ◌-◌, length, get_or, arith, ap, ◌∙◌}
use Rattle.std.proofs.lemmas.List.{get_or_read}
use Rattle.agg_segment.proofs.lemmas.storage.GrowingNumbers.{doc_at_front, doc_at_back}
use Rattle.agg_segment.proofs.storage.rows.growing.doc_at.Goals as goal

pub returns-then-at-each : goal.returns-then-at-each
returns-then-at-each c =
    let m = c.args.many.now in
    doc_at_front m.numbers.items m.docs.items c.args.at
    (omega (arith, c.if-at-each.true, c.len.ensures, c.len-2.ensures, m.numbers.ok, m.docs.ok))

pub returns : goal.returns
returns c =
    let m = c.args.many.now in
    let each : c.len.result - c.len-2.result ≡ length m.numbers.items - length m.docs.items =
    omega (arith, c.len.ensures, c.len-2.ensures, m.numbers.ok, m.docs.ok) in
    get_or_read m.docs.items _ _ (omega (
      arith,
      c.requires.many.0,
      c.requires.within,
      c.if-at-each.false,
      each,
    )) c.index.ensures 0
    ∙ ap (λ k. get_or m.docs.items (c.args.at - k) 0) each
    ∙ doc_at_back m.numbers.items m.docs.items c.args.at (omega (arith, c.if-at-each.false, each))
