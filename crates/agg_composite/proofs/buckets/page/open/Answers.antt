use Rattle.std.proofs.Common.{◌≡◌, None, rules}
use Rattle.std.specs.BTreeMap.{is_at}
use Rattle.std.specs.Map.{lookup}
use Rattle.agg_composite.specs.buckets.Page.{opened}
use Rattle.agg_composite.proofs.lemmas.buckets.PageRoom.{one-more}
use Rattle.agg_composite.proofs.buckets.page.open.Goals as goal

pub returns-clause-one_more : goal.returns-clause-one_more
returns-clause-one_more g c =
    let R = g.S.Ord.cmp in
    let page = c.args.page.now in
    let key = c.in_ok-clone.field-0 in
    let absent : lookup (is_at (R key)) page ≡ None = search rules in
    one-more R g.met.S.Ord.total key (opened c.args.id) page c.insert_new.new.self
    c.insert_new.result absent c.insert_new.ensures.ok c.insert_new.ensures.err
