use Rattle.std.proofs.Common.{ap, arith, subst, sym, take, ◌∙◌}
use Rattle.peslumok_front.specs.front.Columns.{ShareHeader, has_header}
use Rattle.peslumok_front.proofs.lemmas.front.ColumnNames.{apart-all, apart-more, shared}
use Rattle.peslumok_front.proofs.front.columns.shared_header.Goals as goal

pub returns-then-has_header-clause-shared : goal.returns-then-has_header-clause-shared
returns-then-has_header-clause-shared c =
    subst (λ n. ShareHeader n c.args.columns.now) (sym c.header-then-has_header.ensures)
    (shared c.args.columns.now c.loop-place.place c.index-columns-place.result (omega arith)
    c.index-columns-place.is
    (ap (λ n. has_header n (take c.loop-place.place c.args.columns.now)) (sym c.header.ensures)
    ∙ sym c.has_header.ensures ∙ c.if-has_header.true))

pub loop-place-preserved : goal.loop-place-preserved
loop-place-preserved c =
    apart-more c.args.columns.now c.loop-place.place c.index-columns-place.result (omega arith)
    c.index-columns-place.is
    (ap (λ n. has_header n (take c.loop-place.place c.args.columns.now)) (sym c.header.ensures)
    ∙ sym c.has_header.ensures ∙ c.if-has_header.false)
    c.loop-place.invariant

pub returns-clause-apart : goal.returns-clause-apart
returns-clause-apart c =
    apart-all c.args.columns.now c.loop-place.place (omega arith) c.loop-place.invariant
