use Rattle.std.proofs.Common.{◌≡◌, ◌∙◌, refl, subst, sym, ap}
use Rattle.agg_pages.specs.input_text.StoredInput.{input_of}
use Rattle.agg_pages.specs.generator.Generator.{generated}
use Rattle.agg_pages.specs.Answer.{IsNeverRefused, IsSummary, IsSummaryPrefix}
use Rattle.agg_pages.specs.Commands.{AskFor}
use Rattle.agg_pages.specs.Observed.{over}
use Rattle.agg_pages.specs.Run.{HasAppended}
use Rattle.agg_pages.specs.declared.command.Command.TheVariants.{Make, Walk}
use Rattle.agg_pages.proofs.GeneratedInputs.{generated-never-refused}
use Rattle.agg_pages.proofs.Seeds.{IsSeed-unique, no_walk_made}
use Rattle.agg_pages.proofs.Statuses.{no_usage_made}
use Rattle.agg_pages.proofs.program.run.Goals as goal

pub summarize-requires : goal.summarize-requires
summarize-requires g c =
    subst
    (λ i. IsNeverRefused
    (λ b. (goal.QueryBuilder-dyn g (b.builder.vtable, b.builder.value)).tree_for
    b.builder.value) i) (sym c.in-Ok.ensures)
    (generated-never-refused
    (λ b. (goal.QueryBuilder-dyn g (b.builder.vtable, b.builder.value)).tree_for b.builder.value)
    c.in-Some-Make.seed)

pub returns-in-Ok : goal.returns-in-Ok
returns-in-Ok g c =
    let words = c.args.words.now in
    let seed = c.in-Some-Make.seed in
    let asked : AskFor words (Make seed) = rw c.in-Some-Make.field-0-is at c.in-Some-Make.ensures in
    let (digits, are, is) = asked in
    let written = c.summarize.ensures in
    let sink = over g.W.Sink.contents g.W.Sink.faults c.args.sink.now c.summarize.new.sink in
    record {
      usage = (
        (λ status. absurd (no_usage_made _ written.kinds status)),
        (λ none. absurd (none (Make seed) asked)),
      );
      untouched = λ status. absurd (no_usage_made _ written.kinds status);
      walked = λ walk. absurd (no_walk_made digits (sym walk ∙ are));
      made = λ others other so also.
          let same = IsSeed-unique words digits others seed other are is so also in
          let input : input_of c.in-Ok.input ≡ generated other =
          c.in-Ok.ensures ∙ ap (λ n. generated n) same in
          record {
            ok = λ status. subst (λ i. HasAppended (IsSummary
                (λ b. (goal.QueryBuilder-dyn g (b.builder.vtable, b.builder.value)).tree_for
                b.builder.value)
                i) sink) input (written.ok status);
            kinds = written.kinds;
            write_fault = written.fault;
            prefix = λ status. subst (λ i. HasAppended (IsSummaryPrefix
                (λ b. (goal.QueryBuilder-dyn g (b.builder.vtable, b.builder.value)).tree_for
                b.builder.value)
                i) sink) input (written.prefix status);
            quiet = written.quiet;
            unread = refl;
          };
    }

pub returns : goal.returns
returns g c =
    let none = c.in-None.ensures in
    record {
      usage = ((λ _. none), (λ _. refl));
      untouched = λ _. (refl, refl);
      walked = λ walk. absurd (none Walk walk);
      made = λ digits seed are is. absurd (none (Make seed) (digits, are, is));
    }
