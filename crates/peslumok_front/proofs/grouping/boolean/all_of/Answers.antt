use Rattle.std.proofs.Common.{◌≢◌, arith, length}
use Rattle.std.proofs.lemmas.Bool.Decides.{nat_tests}
use Rattle.peslumok_front.proofs.lemmas.grouping.MatchedTerms.{matches-all}
use Rattle.peslumok_front.proofs.grouping.boolean.all_of.Goals as goal

pub returns : goal.returns
returns c document =
    let some : length c.args.must ≢ 0 =
    grind (arith, nat_tests, c.as_slice.ensures, c.is_empty.ensures, c.if-is_empty.false) in
    matches-all c.args.must c.new.result c.new-2.result document some c.new-2.ensures
