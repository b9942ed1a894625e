use Rattle.std.proofs.Common.{◌≡◌, ◌∙◌, ◌-◌, ◌^◌, drop, false, length, suc, sym, subst, ap, lit<}
use Rattle.std.proofs.Common.{rules}
use Rattle.std.proofs.lemmas.Iterator.Consumers.{YieldsList-at, YieldsList-end}
use Rattle.std.proofs.lemmas.Iterator.Consumers.{YieldsList-so_far, YieldsList-turn}
use Rattle.std.proofs.lemmas.Iterator.Splits.{YieldsList-from_str_split}
use Rattle.peslumok_records.specs.held.Causes.{is_fault}
use Rattle.peslumok_records.specs.held.Held.{Adds}
use Rattle.peslumok_records.proofs.lemmas.held.HeldDocuments.{adds_one}
use Rattle.peslumok_records.specs.objects.JsonRecords.{text_document}
use Rattle.peslumok_records.specs.objects.Lines.{AreLineDocuments, all_lines_of, is_blank}
use Rattle.peslumok_records.specs.objects.Lines.{without_blank}
use Rattle.peslumok_records.proofs.lemmas.objects.LineRecords.{around_next, counted_after}
use Rattle.peslumok_records.proofs.lemmas.objects.LineRecords.{counted_more, filled_line, texts_of}
use Rattle.peslumok_records.proofs.lemmas.objects.NoJsonDocuments.{none_of_lines}
use Rattle.peslumok_records.proofs.objects.lines.read_lines.Goals as goal

pub loop-line-preserved-in_default : goal.loop-line-preserved-in_default
loop-line-preserved-in_default c =
    let l = c.loop-line in
    let line = c.in-Some.line in
    let asked = c.args.asked.now in
    let filled : is_blank line.now ≡ false = search rules in
    record {
      counted = c.saturating_add-number.ensures ∙ counted_more l.yielded line l.number (2 ^ 64 - 1)
          l.invariant.counted;
      added = subst (λ ls. Adds (AreLineDocuments asked ls) c.args.into.now c.read_line.new.into)
          (sym (filled_line l.yielded line filled))
          (adds_one (text_document asked) (without_blank (texts_of l.yielded)) line.now
          c.args.into.now l.into c.read_line.new.into l.invariant.added (search rules));
    }

pub returns-clause-ok : goal.returns-clause-ok
returns-clause-ok c =
    let l = c.loop-line in
    let split = c.split-line-items in
    let cut = YieldsList-at c.into_iter-line-iterator.ensures.into_iter_gives
    (YieldsList-from_str_split 10 c.args.text.now (lit< tt) split.ensures.text
    split.ensures.has_more split.ensures.pattern) in
    let end = YieldsList-end cut l.yielded _ l.yielded_by _ _ c.in-None.is c.next.ensures.steps in
    subst (λ ls. Adds (AreLineDocuments c.args.asked.now ls) c.args.into.now l.into)
    (ap without_blank end.0) l.invariant.added

pub returns-in-Err-clause-none : goal.returns-in-Err-clause-none
returns-in-Err-clause-none c = λ fault.
    let l = c.loop-line in
    let line = c.in-Some.line in
    let split = c.split-line-items in
    let cut = YieldsList-at c.into_iter-line-iterator.ensures.into_iter_gives
    (YieldsList-from_str_split 10 c.args.text.now (lit< tt) split.ensures.text
    split.ensures.has_more split.ensures.pattern) in
    let turn = YieldsList-turn cut l.yielded _ l.yielded_by _ _ line c.in-Some.is
    c.next.ensures.steps in
    let filled : is_blank line.now ≡ false = search rules in
    none_of_lines (text_document c.args.asked.now) (all_lines_of c.args.text.now)
    (length l.yielded) line.now turn.0 turn.1 filled
    (c.in-Err.ensures.none (ap is_fault (sym c.at.ensures.cause) ∙ fault))

pub returns-in-Err-clause-line : goal.returns-in-Err-clause-line
returns-in-Err-clause-line c = λ fault.
    let l = c.loop-line in
    let line = c.in-Some.line in
    let asked = c.args.asked.now in
    let all = all_lines_of c.args.text.now in
    let split = c.split-line-items in
    let cut = YieldsList-at c.into_iter-line-iterator.ensures.into_iter_gives
    (YieldsList-from_str_split 10 c.args.text.now (lit< tt) split.ensures.text
    split.ensures.has_more split.ensures.pattern) in
    let turn = YieldsList-turn cut l.yielded _ l.yielded_by _ _ line c.in-Some.is
    c.next.ensures.steps in
    let (documents, read, added) = l.invariant.added in
    record {
      before = texts_of l.yielded;
      line = line.now;
      after = drop (suc (length l.yielded)) all;
      lines = around_next all l.yielded line.now turn.0 turn.1
          (YieldsList-so_far cut l.yielded _ l.yielded_by);
      counted = c.at.ensures.line ∙ c.saturating_add-number.ensures
          ∙ counted_after l.yielded l.number (2 ^ 64 - 1) l.invariant.counted;
      documents = documents;
      read = read;
      filled = search rules;
      none = c.in-Err.ensures.none (ap is_fault (sym c.at.ensures.cause) ∙ fault);
    }
