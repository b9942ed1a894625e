use Rattle.std.proofs.Common.{leb, rules}
use Rattle.std.proofs.lemmas.List.Sorted.{IsPartitionPoint-from_clause}
use Rattle.peslumok_front.proofs.lemmas.top_groups.TopPlaces.{cut-by-count, last-count}
use Rattle.peslumok_front.proofs.lemmas.top_groups.TopPlaces.{place-at-cut, place-at-end}
use Rattle.peslumok_front.proofs.top_groups.groups.rank_of.Goals as goal

pub returns-clause-place : goal.returns-clause-place
returns-clause-place c = λ sorted.
    place-at-end c.args.doc_count c.args.groups.now c.in-Some.last.now sorted
    (last-count c.args.doc_count c.args.groups.now c.in-Some.last.now c.in-Some.ensures.value
    c.if-last-doc_count.true)

pub returns-2-clause-place : goal.returns-2-clause-place
returns-2-clause-place c = λ sorted.
    let count = c.args.doc_count in
    let groups = c.args.groups.now in
    place-at-cut count c.partition_point.result groups c.partition_point.ensures.bound
    (IsPartitionPoint-from_clause (λ g. leb count g.doc_count) groups c.partition_point.result
    c.partition_point.ensures.partitioned (cut-by-count count groups sorted)
    (λ a r q k. search rules))
