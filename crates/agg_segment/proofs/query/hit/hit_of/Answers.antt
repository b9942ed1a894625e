use Rattle.std.proofs.Common.{◌∙◌, sym, subst}
use Rattle.agg_segment.specs.Spans.{IsHitOf}
use Rattle.agg_segment.proofs.QueryHits.{text_hit, address_hit}
use Rattle.agg_segment.proofs.query.hit.hit_of.Goals as goal

pub returns-in-Str-column_type-clause-hit : goal.returns-in-Str-column_type-clause-hit
returns-in-Str-column_type-clause-hit c =
    let keys = c.args.column.now.keys in
    let hit = c.term_ord_or_next in
    subst (λ value. IsHitOf keys value hit.result) (sym c.in-Str.is)
    (text_hit keys c.in-Str.text hit.result (sym c.column_type-in-Str.ensures.kind
    ∙ c.in-Str-column_type.is) hit.ensures.ascending hit.ensures.hit)

pub returns-in-IpAddr-clause-hit : goal.returns-in-IpAddr-clause-hit
returns-in-IpAddr-clause-hit c =
    let keys = c.args.column.now.keys in
    let hit = c.address_or_next in
    subst (λ value. IsHitOf keys value hit.result) (sym c.in-Ip.is)
    (address_hit keys c.in-Ip.address hit.result (sym c.column_type-in-Ip.ensures.kind
    ∙ c.in-IpAddr.is) hit.ensures.ascending hit.ensures.hit)
