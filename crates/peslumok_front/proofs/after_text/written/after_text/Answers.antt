use Rattle.peslumok_front.proofs.lemmas.after_text.WrittenKeys.{written-cell}
use Rattle.peslumok_front.proofs.after_text.written.after_text.Goals as goal

pub returns-else-branch-clause-cell : goal.returns-else-branch-clause-cell
returns-else-branch-clause-cell c =
    written-cell c.args.key.now.0 c.write.result c.write.ensures.text
