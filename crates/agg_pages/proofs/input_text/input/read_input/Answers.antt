use Rattle.std.proofs.Common.{ap, ◌∙◌, arith, subst}
use Rattle.std.proofs.lemmas.Result.{IfOk-weaker}
use Rattle.agg_pages.specs.input_text.Input.{IsInput, IsInputOfLines}
use Rattle.agg_pages.specs.input_text.StoredInput.{input_of}
use Rattle.agg_pages.specs.input_text.Lines.{lines_of}
use Rattle.agg_values.specs.Nothing.{NoneIs}
use Rattle.agg_pages.proofs.lemmas.input_text.Inputs.{input_some, no_lines, no_text}
use Rattle.agg_pages.proofs.input_text.input.read_input.Goals as goal

pub returns-in-Ok-clause-ok : goal.returns-in-Ok-clause-ok
returns-in-Ok-clause-ok g c =
    let lines = c.new.ensures ∙ ap lines_of c.in-Ok.ensures.cases.0 in
    IfOk-weaker c.read_lines.result
    (λ i. IsInputOfLines c.args.builders.items g.B.HasName.name_of c.new.result (input_of i))
    (λ i. IsInput c.args.builders.items g.B.HasName.name_of c.args.bytes.now (input_of i))
    (λ i reads. input_some c.args.builders.items g.B.HasName.name_of c.args.bytes.now (input_of i)
    (omega arith) c.in-Ok.ensures.cases.1
    (subst (λ l. IsInputOfLines c.args.builders.items g.B.HasName.name_of l (input_of i)) lines
    reads))
    c.read_lines.ensures.ok

pub returns-in-Ok-clause-not_input : goal.returns-in-Ok-clause-not_input
returns-in-Ok-clause-not_input g c = λ refused.
    no_lines c.args.builders.items g.B.HasName.name_of c.args.bytes.now
    (subst (λ lines. NoneIs (IsInputOfLines c.args.builders.items g.B.HasName.name_of lines))
    (c.new.ensures ∙ ap lines_of c.in-Ok.ensures.cases.0)
    (c.read_lines.ensures.not_input refused))

pub returns-in-Err-clause-not_input : goal.returns-in-Err-clause-not_input
returns-in-Err-clause-not_input g c = λ _.
    no_text c.args.builders.items g.B.HasName.name_of c.args.bytes.now c.in-Err.ensures.cases.0
