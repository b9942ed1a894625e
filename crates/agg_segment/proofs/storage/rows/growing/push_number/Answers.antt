use Rattle.std.proofs.Common.{◌≡◌, length, arith, length-append, ◌∷◌, [], ◌∙◌, ap, sym}
use Rattle.std.proofs.lemmas.Bool.Decides.{nat_tests}
use Rattle.agg_segment.proofs.lemmas.storage.GrowingNumbers.{next_rows, next_rise, listed_rows}
use Rattle.agg_segment.proofs.lemmas.storage.GrowingNumbers.{listed_rise}
use Rattle.agg_segment.proofs.storage.rows.growing.push_number.Goals as goal

pub returns-then-len-doc-clause-many : goal.returns-then-len-doc-clause-many
returns-then-len-doc-clause-many c =
    let m = c.args.many.now in
    let empty = sym c.is_empty.ensures ∙ c.if-is_empty.true in
    let none : length m.docs.items ≡ 0 = grind (arith, nat_tests) in
    let same : c.reserve.new.self.items ≡ m.numbers.items = c.in_ok-reserve.ensures.items in
    let here : length m.numbers.items ≡ c.args.doc =
    omega (arith, ap length same, c.len.ensures, c.if-len-doc.true, c.reserve.new.self.ok) in
    rw (c.in_ok-push.ensures.items, same) (
      omega (arith, none),
      next_rise m.numbers.items m.docs.items c.args.doc c.args.number
          c.requires.many.0 c.requires.many.1 c.requires.after none here,
    )

pub returns-then-len-doc-clause-ok : goal.returns-then-len-doc-clause-ok
returns-then-len-doc-clause-ok c =
    let m = c.args.many.now in
    let empty = sym c.is_empty.ensures ∙ c.if-is_empty.true in
    let none : length m.docs.items ≡ 0 = grind (arith, nat_tests) in
    let same : c.reserve.new.self.items ≡ m.numbers.items = c.in_ok-reserve.ensures.items in
    let here : length m.numbers.items ≡ c.args.doc =
    omega (arith, ap length same, c.len.ensures, c.if-len-doc.true, c.reserve.new.self.ok) in
    rw (c.in_ok-push.ensures.items, same)
    (next_rows m.numbers.items m.docs.items c.args.doc c.args.number
    c.requires.many.0 c.requires.many.1 c.requires.after none here)

pub returns-clause-many : goal.returns-clause-many
returns-clause-many c =
    let m = c.args.many.now in
    rw (c.in_ok-push-2.ensures.items, c.in_ok-push-3.ensures.items, c.in_ok-reserve.ensures.items) (
      omega (
        arith,
        c.requires.many.0,
        length-append m.numbers.items (c.args.number ∷ []),
        length-append m.docs.items (c.args.doc ∷ []),
      ),
      listed_rise m.numbers.items m.docs.items c.args.doc c.args.number
          c.requires.many.0 c.requires.many.1 c.requires.after,
    )

pub returns-clause-ok : goal.returns-clause-ok
returns-clause-ok c =
    let m = c.args.many.now in
    rw (c.in_ok-push-2.ensures.items, c.in_ok-push-3.ensures.items, c.in_ok-reserve.ensures.items)
    (listed_rows m.numbers.items m.docs.items c.args.doc c.args.number
    c.requires.many.0 c.requires.many.1 c.requires.after)
