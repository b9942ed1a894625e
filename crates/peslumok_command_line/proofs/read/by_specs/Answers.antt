use Rattle.std.proofs.Common.{◌<◌, ℕ, arith, length, subst}
use Rattle.std.proofs.lemmas.Grind.{common_steps}
use Rattle.std.proofs.lemmas.Slice.Zip.{AllZip-long}
use Rattle.peslumok_command_line.specs.Asked.{ReadsBy}
use Rattle.peslumok_command_line.proofs.read.by_specs.Goals as goal

pub returns-then-len-gt16-clause-told : goal.returns-then-len-gt16-clause-told
returns-then-len-gt16-clause-told c =
    let many : 16 < length c.in_ok-by.by.items =
    grind (arith, common_steps, c.if-len-gt16.true, c.len.ensures) in
    subst (λ (n : ℕ). 16 < n) (AllZip-long ReadsBy _ c.in_ok-by.by.items c.in_ok-by.ensures.read)
    many
