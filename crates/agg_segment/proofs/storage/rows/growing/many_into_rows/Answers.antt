use Rattle.std.proofs.Common.{◌≡◌, ◌-◌, ◌++◌, length, arith, ap, ◌∙◌}
use Rattle.std.specs.List.{range_with_len}
use Rattle.agg_segment.proofs.lemmas.storage.GrowingNumbers.{docs_length}
use Rattle.agg_segment.proofs.storage.rows.growing.many_into_rows.Goals as goal

pub of-requires-clause-each : goal.of-requires-clause-each
of-requires-clause-each c =
    let m = c.args.many in
    let each : c.len.result - c.len-2.result ≡ length m.numbers.items - length m.docs.items =
    omega (arith, c.len.ensures, c.len-2.ensures, m.numbers.ok, m.docs.ok) in
    ap length (c.deref-2.ensures.value ∙ c.in_ok-docs.ensures)
    ∙ ap (λ ds. length (range_with_len 0 (c.len.result - c.len-2.result) ++ ds))
    c.deref.ensures.value
    ∙ ap (λ k. length (range_with_len 0 k ++ m.docs.items)) each
    ∙ docs_length 0 m.numbers.items m.docs.items c.requires.0
