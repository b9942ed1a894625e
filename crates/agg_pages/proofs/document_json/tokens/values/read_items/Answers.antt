use Rattle.std.proofs.Common.{◌≡◌, ◌∷◌, None, sym, refl, ap, ◌∙◌, subst, arith}
use Rattle.json.specs.Json.{after_end_array}
use Rattle.agg_pages.specs.document_json.Tokens.{TakesItem}
use Rattle.agg_pages.proofs.lemmas.document_json.TokenFields.{all_items, no_array_end}
use Rattle.agg_pages.proofs.lemmas.document_json.TokenFields.{no_items_yet, one_more}
use Rattle.agg_pages.proofs.document_json.tokens.values.read_items.Goals as goal

pub items-init : goal.items-init
items-init g c = (
  no_items_yet c.args.field (g.R.TokenReader.tokens c.args.reader.now) c.args.builder.now,
  refl,
)

pub items-preserved : goal.items-preserved
items-preserved g c =
    let l = c.items in
    let tokens = g.R.TokenReader.tokens in
    let next = c.in-Some.ensures in
    let rest = tokens c.next_token.new.self in
    let same : tokens c.take_array_end.new.self ≡ tokens l.reader = c.items-test.ensures in
    let is : tokens l.reader ≡ next.0 ∷ rest = sym same ∙ next.2 in
    let going : after_end_array (tokens l.reader) ≡ None =
    ap after_end_array is ∙ no_array_end c.in-Some.token next.0 rest next.1 in
    let one = subst (λ ts. TakesItem c.args.field ts (tokens c.read_item.new.reader) l.builder
    c.read_item.new.builder) (sym is) (c.in_ok-read_item.ensures.taken (grind arith) next.0
    next.1) in (
      one_more c.args.field (tokens c.args.reader.now) (tokens l.reader)
          (tokens c.read_item.new.reader) c.args.builder.now l.builder c.read_item.new.builder
          l.invariant.0 going one,
      c.in_ok-read_item.ensures.documents ∙ l.invariant.1,
    )

pub returns-clause-taken : goal.returns-clause-taken
returns-clause-taken g c = λ taken.
    let l = c.items in
    let tokens = g.R.TokenReader.tokens in
    all_items c.args.field (tokens c.args.reader.now) (tokens l.reader)
    (tokens c.take_array_end.new.self) c.args.builder.now l.builder l.invariant.0
    c.items-test.ensures
