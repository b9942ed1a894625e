use Rattle.std.proofs.Common.{◌≡◌, ◌-◌, length, arith, length-take}
use Rattle.agg_segment.proofs.lemmas.storage.GrowingNumbers.{kept_rows, kept_rise}
use Rattle.agg_segment.proofs.storage.rows.growing.keep_before.Goals as goal

-- how many numbers are of documents that aren't listed
each_is : (c : goal.After-truncate-2) → c.saturating_sub.result
    ≡ c.count_before-count.result
    - (length c.args.many.now.numbers.items - length c.args.many.now.docs.items)
each_is c =
    let m = c.args.many.now in
    omega (arith, c.saturating_sub.ensures, c.len.ensures, c.len-2.ensures, m.numbers.ok, m.docs.ok)

pub returns-clause-many : goal.returns-clause-many
returns-clause-many c =
    let m = c.args.many.now in
    let e = c.count_before-count.ensures in
    rw (c.truncate.ensures.items, c.truncate-2.ensures.items, each_is c) (
      grind (
        arith,
        c.requires.0,
        e.within,
        length-take c.count_before-count.result m.numbers.items,
        length-take (c.count_before-count.result
            - (length m.numbers.items - length m.docs.items)) m.docs.items,
      ),
      kept_rise m.numbers.items m.docs.items c.count_before-count.result c.args.doc c.requires.0
          c.requires.1 e.within e.before e.after,
    )

pub returns-clause-rows : goal.returns-clause-rows
returns-clause-rows c =
    let m = c.args.many.now in
    let e = c.count_before-count.ensures in
    rw (c.truncate.ensures.items, c.truncate-2.ensures.items, each_is c)
    (kept_rows m.numbers.items m.docs.items c.count_before-count.result c.args.doc c.requires.0
    c.requires.1 e.within e.before e.after)
