use Rattle.std.proofs.Common.{length, rules, subst, sym}
use Rattle.std.proofs.lemmas.Iterator.Adapters.{YieldsList-from_vec}
use Rattle.std.proofs.lemmas.Iterator.Consumers.{YieldsList-turn}
use Rattle.peslumok_records.specs.held.Held.{held_documents}
use Rattle.peslumok_records.specs.records.Formats.{AreDocumentsOf}
use Rattle.peslumok_front.proofs.lemmas.front.FileDocuments.{file-more}
use Rattle.peslumok_front.proofs.front.files.records_of.Goals as goal

pub returns-in-Err-clause-cause : goal.returns-in-Err-clause-cause
returns-in-Err-clause-cause c =
    let turn = YieldsList-turn
    (YieldsList-from_vec {s = c.into_iter-file-iterator.result} c.args.files.items (search rules)
    (search rules)) c.loop-file.yielded c.loop-file.file-iterator c.loop-file.yielded_by
    c.next.result c.next.new.self c.in-Some.file c.in-Some.is c.next.ensures.steps in
    (length c.loop-file.yielded, c.in-Some.file, turn.0, sym turn.1, c.refusal.ensures)

pub loop-file-preserved : goal.loop-file-preserved
loop-file-preserved c =
    let held = c.in-Ok.ensures.held in (
      tt,
      tt,
      file-more c.args.asked.now c.loop-file.yielded c.in-Some.file
          (held_documents c.loop-file.records) held.0 (held_documents c.read_records.new.into)
          c.loop-file.invariant.2
          (subst (λ bytes. AreDocumentsOf c.in-Some.file.format c.args.asked.now bytes held.0)
          c.deref.ensures.value held.1) held.2,
    )
