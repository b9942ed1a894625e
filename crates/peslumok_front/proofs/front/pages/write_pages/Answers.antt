use Rattle.std.proofs.Common.{subst, sym}
use Rattle.peslumok_front.specs.after_text.After.{NamesFirst}
use Rattle.peslumok_front.specs.front.Columns.{columns_asked}
use Rattle.peslumok_front.specs.front.Pages.{room_of}
use Rattle.peslumok_front.proofs.lemmas.front.NextKeys.{tells-next}
use Rattle.peslumok_front.proofs.lemmas.front.PageRuns.{written-as}
use Rattle.peslumok_front.proofs.lemmas.front.ShownKeys.{last-names}
use Rattle.peslumok_front.proofs.front.pages.write_pages.Goals as goal

pub returns-clause-written : goal.returns-clause-written
returns-clause-written g c = λ documents are.
    let question = c.args.question.now in
    let asked = question.asked.now in
    let run = c.in_ok-next.ensures.written documents are in
    let names = subst (NamesFirst asked.grouping.by.items) (sym run.2.shown)
    (last-names asked.grouping question.query.now documents asked.pages.is_all
    (room_of asked.pages) c.in_ok-first.first run.2.pages run.2.are_pages) in (
      run.0,
      run.1,
      record {
        first = c.in_ok-first.first;
        begins = c.in_ok-first.ensures.begins;
        written = (
          c.in_ok-next.next,
          written-as asked.grouping question.query.now documents asked.pages
              c.in_ok-writer.writer.output asked.output c.in_ok-writer.writer.columns
              (columns_asked asked.grouping) c.in_ok-first.first c.in_ok-next.next run.0
              c.in_ok-writer.ensures.output c.in_ok-writer.ensures.columns run.2,
          tells-next asked.grouping c.in_ok-next_text.field-0 c.in_ok-next.next
              c.in_ok-writer.ensures.apart names c.in_ok-next_text.ensures,
        );
      },
    )
