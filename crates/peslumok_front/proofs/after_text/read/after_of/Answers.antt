use Rattle.std.proofs.Common.{ap, arith, option_map, sym, ◌∙◌}
use Rattle.csv.specs.Records.{fields_of}
use Rattle.peslumok_front.proofs.lemmas.after_text.NamedKeys.{extra-none}
use Rattle.peslumok_front.proofs.after_text.read.after_of.Goals as goal

pub returns-then-len-clause-each : goal.returns-then-len-clause-each
returns-then-len-clause-each c after is =
    absurd (extra-none c.args.grouping.now c.args.text.now (fields_of c.in-Some.values)
    (sym c.in_ok-values.ensures ∙ ap (option_map fields_of) c.in-Some.is) (omega arith) after is)
