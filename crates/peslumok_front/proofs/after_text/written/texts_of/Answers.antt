use Rattle.std.proofs.Common.{ap, arith, option_map, sym, ◌∙◌}
use Rattle.peslumok_front.proofs.lemmas.after_text.WrittenKeys.{begin-all, begin-more, begin-none}
use Rattle.peslumok_front.proofs.lemmas.after_text.WrittenKeys.{named-same, reads-same}
use Rattle.peslumok_front.proofs.after_text.written.texts_of.Goals as goal

pub returns-in-None : goal.returns-in-None
returns-in-None c =
    begin-none c.args.grouping.now.types c.args.grouping.now.by.items c.args.after.now
    c.loop-by.by-index _ c.in_ok-name.name c.loop-by.texts.items (omega arith)
    (named-same c.deref-by-items.result.now c.args.grouping.now.by.items c.loop-by.by-index _
    c.in_ok-name.name c.deref-by-items.ensures.value (c.in_ok-name.ensures ∙ c.column_of.ensures))
    (sym c.get.ensures.value ∙ ap (option_map (λ v. v.now)) c.in-None.is) c.loop-by.invariant

pub loop-by-preserved : goal.loop-by-preserved
loop-by-preserved c =
    begin-more c.args.grouping.now.types c.args.grouping.now.by.items c.args.after.now
    c.loop-by.by-index _ c.in_ok-name.name c.in_ok-text-in-Some.text c.loop-by.texts.items
    c.push.new.self.items c.in-Some.key.now (omega arith)
    (named-same c.deref-by-items.result.now c.args.grouping.now.by.items c.loop-by.by-index _
    c.in_ok-name.name c.deref-by-items.ensures.value (c.in_ok-name.ensures ∙ c.column_of.ensures))
    (sym c.get.ensures.value ∙ ap (option_map (λ v. v.now)) c.in-Some.is)
    c.in_ok-text-in-Some.ensures.cell
    (reads-same c.args.grouping.now.types c.deref-by-items.result.now
    c.args.grouping.now.by.items c.loop-by.by-index _ c.get-in-Some.result
    c.in_ok-field-in-Some.field c.in_ok-text-in-Some.text c.in-Some.key.now.0
    c.deref-by-items.ensures.value c.get-in-Some.ensures c.in_ok-field-in-Some.ensures
    c.in_ok-text-in-Some.ensures.back)
    c.in_ok-push-in-Some.ensures.items c.loop-by.invariant

pub returns : goal.returns
returns c =
    begin-all c.args.grouping.now.types c.args.grouping.now.by.items c.args.after.now
    c.loop-by.by-index c.loop-by.texts.items (omega arith) c.loop-by.invariant
