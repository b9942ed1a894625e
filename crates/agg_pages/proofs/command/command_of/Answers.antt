use Rattle.std.proofs.Common.{◌∷◌, [], sym, ap, ◌∙◌, codes, arith}
use Rattle.std.proofs.lemmas.Slice.Eq.{bytes_eq-Decides}
use Rattle.agg_pages.proofs.Words.{one_word, two_words}
use Rattle.agg_pages.proofs.command.command_of.Goals as goal

pub returns-in-len1 : goal.returns-in-len1
returns-in-len1 c =
    let word = c.name-item.result in
    let only = one_word c.args.words.now word c.in-len1.len_at_least (omega arith) c.name-item.is in
    let test = bytes_eq-Decides c.as_str.result.now (codes "walk") in
    only ∙ ap (λ x. x ∷ []) (sym c.as_str.ensures ∙ test.0 (sym c.eq.ensures ∙ c.if-eq.true))

pub returns-in_ok-seed_of-in-len2 : goal.returns-in_ok-seed_of-in-len2
returns-in_ok-seed_of-in-len2 c =
    let name = c.name-item-then-words-lt3.result in
    let digits = c.digits-item.result in
    let both = two_words c.args.words.now name digits c.in-len2.len_at_least (omega arith)
    c.name-item-then-words-lt3.is c.digits-item.is in
    let test = bytes_eq-Decides c.as_str-then-words-lt3.result.now (codes "make") in
    let make = sym c.as_str-then-words-lt3.ensures
    ∙ test.0 (sym c.eq-then-words-lt3.ensures ∙ c.if-eq-2.true) in (
      c.as_str-in-len2.result.now,
      both ∙ (λ i. make i ∷ sym c.as_str-in-len2.ensures i ∷ []),
      c.in_ok-seed_of-in-len2.ensures,
    )
