use Rattle.std.proofs.Common.{◌≡◌, ◌+◌, get_or, take, drop, ap, sym, subst}
use Rattle.std.proofs.Common.{◌∷◌, [], ◌∙◌, arith}
use Rattle.std.specs.Str.Lines.{strip_carriage_return}
use Rattle.std.proofs.lemmas.Str.{IsCharBoundary-after_ascii}
use Rattle.agg_pages.specs.input_text.Lines.{all_lines_of}
use Rattle.agg_pages.proofs.lemmas.input_text.LinesLemmas.{FeedsAt, NoFeed, cut_at_place}
use Rattle.agg_pages.proofs.lemmas.input_text.LinesLemmas.{cut_nowhere, feed_there}
use Rattle.agg_pages.proofs.input_text.lines.cut_line.Goals as goal

pub range_from-requires : goal.range_from-requires
range_from-requires c = λ _.
    let feed = c.in-Some.feed in
    let found : FeedsAt c.args.text.now feed =
    subst (λ bytes. FeedsAt bytes feed) c.as_bytes.ensures.value c.in-Some.ensures in
    let here : get_or c.args.text.now feed 0 ≡ 10 = feed_there c.args.text.now feed found in
    IsCharBoundary-after_ascii c.args.text.now feed c.utf8.text found.0.high (omega (arith, here))

pub returns-in-Some : goal.returns-in-Some
returns-in-Some c =
    let text = c.args.text.now in
    let feed = c.in-Some.feed in
    let left = drop (feed + 1) text in
    let line : c.range.result.now ≡ take feed text =
    c.range.ensures.value ∙ ap (λ n. take n text) (omega arith) in
    cut_at_place text feed
    (subst (λ bytes. FeedsAt bytes feed) c.as_bytes.ensures.value c.in-Some.ensures)
    ∙ ap (λ l. strip_carriage_return l ∷ all_lines_of left) (sym line)
    ∙ ap (λ l. l ∷ all_lines_of left) (sym c.without_return.ensures)
    ∙ ap (λ l. c.without_return.result.now ∷ all_lines_of l) (sym c.range_from.ensures.value)

pub returns-in-None : goal.returns-in-None
returns-in-None c =
    cut_nowhere c.args.text.now (subst NoFeed c.as_bytes.ensures.value c.in-None.ensures)
    ∙ ap (λ line. line ∷ []) (sym c.without_return-in-None.ensures)
