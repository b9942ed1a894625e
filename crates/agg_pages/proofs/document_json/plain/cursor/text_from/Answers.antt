use Rattle.std.proofs.Common.{◌≡◌, ◌+◌, ◌-◌, ◌<◌, ◌∷◌, ◌++◌, take, drop, get_or, length, ap}
use Rattle.std.proofs.Common.{sym, ◌∙◌, subst, arith}
use Rattle.std.specs.List.{prefix_len}
use Rattle.json.specs.Run.{is_plain}
use Rattle.agg_pages.specs.document_json.Plain.{IsPlain}
use Rattle.agg_pages.proofs.lemmas.document_json.PlainTexts.{front_is_plain, up_to_quote}
use Rattle.agg_pages.proofs.document_json.plain.cursor.text_from.Goals as goal

pub returns-clause-value : goal.returns-clause-value
returns-clause-value c =
    let line = c.args.line.now in
    let from = c.args.from in
    let stop = c.plain_end-quote.result in
    let bytes : c.as_bytes-bytes.result.now ≡ line = c.as_bytes-bytes.ensures.value in
    let is : stop ≡ from + prefix_len is_plain (drop from line) =
    c.plain_end-quote.ensures.value ∙ ap (λ b. from + prefix_len is_plain (drop from b)) bytes in
    let long : stop - from ≡ prefix_len is_plain (drop from line) = omega (arith, is) in
    let text : c.in_ok-plain.plain.now ≡ take (stop - from) (drop from line) =
    c.in_ok-plain.ensures.cases.0 in
    let within : stop < length line = grind arith in
    let quote : get_or line stop 0 ≡ 34 = grind arith in (
      subst IsPlain (sym text) (front_is_plain (drop from line) (stop - from) long),
      up_to_quote line from stop (omega (arith, is)) within quote
          ∙ ap (λ l. l ++ 34 ∷ drop (stop + 1) line) (sym text),
    )
