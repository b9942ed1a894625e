use Rattle.std.proofs.Common.{sym, subst}
use Rattle.std.proofs.lemmas.Result.{err_from_is_err_and}
use Rattle.agg_pages.specs.declared.input_text.input.Input.{Input as Stored}
use Rattle.agg_pages.specs.input_text.Input.{IsInputOfLines}
use Rattle.agg_pages.specs.input_text.StoredInput.{input_of}
use Rattle.agg_pages.proofs.lemmas.input_text.Inputs.{no_header_lines, no_snapshot_lines}
use Rattle.agg_pages.proofs.input_text.input.read_lines.Goals as goal

pub returns-in_err-header-clause-not_input : goal.returns-in_err-header-clause-not_input
returns-in_err-header-clause-not_input g c = λ refused.
    let p = err_from_is_err_and c.from_residual-in_err-header.result
    c.from_residual-in_err-header.ensures.1 in
    let step = rw c.in_ok-first.ensures.ok_part at c.next.ensures.steps in
    no_header_lines c.args.builders.items g.B.HasName.name_of c.args.lines c.in_ok-first.first.now
    c.next.new.self step
    (c.in_err-header.ensures.not_input (cc (refused, p.1, p.2)))

pub returns-in_err-snapshots-clause-not_input : goal.returns-in_err-snapshots-clause-not_input
returns-in_err-snapshots-clause-not_input g c = λ refused.
    let p = err_from_is_err_and c.from_residual-in_err-snapshots.result
    c.from_residual-in_err-snapshots.ensures.1 in
    let step = rw c.in_ok-first.ensures.ok_part at c.next.ensures.steps in
    no_snapshot_lines c.args.builders.items g.B.HasName.name_of c.args.lines c.in_ok-first.first.now
    c.next.new.self step
    (c.in_err-snapshots.ensures.not_input (cc (refused, p.1, p.2)))

pub returns-clause-ok : goal.returns-clause-ok
returns-clause-ok g c =
    let step = rw c.in_ok-first.ensures.ok_part at c.next.ensures.steps in
    let i : Stored _ = record {
      header = c.in_ok-header.header;
      snapshots = c.in_ok-snapshots.snapshots;
    } in
    subst (λ lines. IsInputOfLines c.args.builders.items g.B.HasName.name_of lines (input_of i))
    (sym step)
    (c.in_ok-header.ensures.ok, c.in_ok-snapshots.ensures.ok)
