use Rattle.std.proofs.Common.{IfOk, List, None, subst, sym, ℕ}
use Rattle.std.specs.Io.KnownBytes.{Appends}
use Rattle.agg_segment.specs.storage.Document.{Fields}
use Rattle.agg_segment.specs.Snapshot.{snapshots_documents}
use Rattle.peslumok_records.specs.record_index.Index.{AreOneOf}
use Rattle.peslumok_front.specs.front.Answer.{IsWritten}
use Rattle.peslumok_front.specs.front.Pages.{room_of}
use Rattle.peslumok_front.proofs.front.grouped.write_answer.Goals as goal

pub returns-in_default-clause-written : goal.returns-in_default-clause-written
returns-in_default-clause-written g c =
    let question = c.args.question.now in
    let asked = question.asked.now in
    subst (λ top. IfOk c.write_pages.result (λ told. (documents : List Fields)
    → AreOneOf documents (room_of asked.pages) (snapshots_documents question.snapshots.now)
    → (text : List ℕ)
    × Appends (g.W.Sink.contents c.args.sink.now) (g.W.Sink.contents c.write_pages.new.sink) text
    × IsWritten top asked question.query.now documents told text))
    (sym c.in_default.is) c.write_pages.ensures.written

pub returns-clause-written : goal.returns-clause-written
returns-clause-written g c = λ documents are.
    let question = c.args.question.now in
    let run = c.in_ok-write_top.ensures.written documents are in (
      run.0,
      run.1,
      subst (λ top. IsWritten top question.asked.now question.query.now documents None run.0)
          (sym c.in-Some.is) run.2,
    )
