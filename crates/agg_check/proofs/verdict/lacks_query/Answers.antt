use Rattle.std.proofs.Common.{◌≡◌, ◌≢◌, ◌∙◌, sym, length, arith}
use Rattle.std.proofs.lemmas.Bool.Decides.{nat_tests}
use Rattle.agg_check.proofs.Verdicts.{built_where_some, no_fields, unbuilt_where_none}
use Rattle.agg_check.proofs.verdict.lacks_query.Goals as goal

pub returns-then-is_empty : goal.returns-then-is_empty
returns-then-is_empty c =
    let few : length c.fields.result.now ≡ 0 = grind (arith, nat_tests, c.if-is_empty.ensures) in
    unbuilt_where_none c.args.header.now.schema c.args.header.now.request
    c.asks_for_builder.result (sym c.fields.ensures ∙ no_fields c.fields.result.now few)
    c.asks_for_builder.ensures

pub returns : goal.returns
returns c =
    let many : length c.fields.result.now ≢ 0 = grind (arith, nat_tests, c.if-is_empty.ensures) in
    built_where_some c.fields.result.now c.args.header.now.schema c.args.header.now.request
    c.fields.ensures many
