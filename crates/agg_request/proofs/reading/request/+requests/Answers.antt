use Rattle.std.proofs.Common.{◌≡◌, ◌<◌, ◌+◌, ◌*◌, Some, true, codes, ap, ◌∙◌, arith, rules}
use Rattle.serde_json.specs.Data.{depth, members_depth}
use Rattle.serde_json.specs.Find.{as_object, get}
use Rattle.serde_json.specs.View.{view, members_view}
use Rattle.agg_values.specs.Names.{put}
use Rattle.agg_request.specs.reading.Builders.{left_behind}
use Rattle.agg_request.specs.json_values.Json.{names_in, only_other}
use Rattle.agg_request.specs.reading.RequestJson.{IsAggregation}
use Rattle.agg_request.specs.reading.Unsupported.{HasUnsupportedAggregation}
use Rattle.agg_request.specs.reading.Kinds.{may_hold}
use Rattle.agg_request.proofs.lemmas.reading.AggregationReadings.{left_by_both, left_there}
use Rattle.agg_request.proofs.lemmas.reading.AggregationReadings.{object_lower, read_both}
use Rattle.agg_request.proofs.lemmas.reading.AggregationReadings.{read_there, refused_below}
use Rattle.agg_request.proofs.lemmas.reading.AggregationReadings.{refused_kind}
use Rattle.agg_request.proofs.lemmas.json_values.FilterLists.{get_lower}
use Rattle.agg_request.proofs.lemmas.reading.PoolMembers.{IsInOrder-more, IsInOrder-none}
use Rattle.agg_request.proofs.lemmas.reading.PoolMembers.{IsPartRead-all, IsPartRead-left}
use Rattle.agg_request.proofs.lemmas.reading.PoolMembers.{IsPartRead-more, IsPartRead-none}
use Rattle.agg_request.proofs.lemmas.reading.PoolMembers.{IsPartRead-refused, next_lower, put_last}
use Rattle.agg_request.proofs.reading.request.+requests.Goals as goal

pub read_aggregation-returns-in_err-agg-clause-read
    : goal.read_aggregation-returns-in_err-agg-clause-read
read_aggregation-returns-in_err-agg-clause-read g t c =
    let found : only_other (codes "aggs") (view c.args.value.now)
    ≡ Some (c.in-Some.kind.now, view c.in-Some.body.now) = search rules in
    λ n deep. refused_kind g.B.HasName.name_of (view c.args.value.now) c.in-Some.kind.now
    (view c.in-Some.body.now) found n c.args.pool.now.items c.in_err-agg.field-0.0
    c.from_residual.result deep c.from_residual.ensures.1 c.in_err-agg.ensures.read

pub read_aggregation-returns-in_err-sub_aggregation-clause-read
    : goal.read_aggregation-returns-in_err-sub_aggregation-clause-read
read_aggregation-returns-in_err-sub_aggregation-clause-read g t c =
    let found : only_other (codes "aggs") (view c.args.value.now)
    ≡ Some (c.in-Some.kind.now, view c.in-Some.body.now) = search rules in
    λ n deep. refused_below g.B.HasName.name_of (view c.args.value.now) c.in-Some.kind.now
    (view c.in-Some.body.now) found n c.read_kind.new.pool.items c.args.pool.now.items
    c.in_err-sub_aggregation.field-0.0 c.from_residual-in_err-sub_aggregation.result deep
    c.from_residual-in_err-sub_aggregation.ensures.1 c.in_ok-agg.ensures.left
    c.in_err-sub_aggregation.ensures.read

pub read_aggregation-returns-clause-read : goal.read_aggregation-returns-clause-read
read_aggregation-returns-clause-read g t c =
    let found : only_other (codes "aggs") (view c.args.value.now)
    ≡ Some (c.in-Some.kind.now, view c.in-Some.body.now) = search rules in
    λ n deep. read_both g.B.HasName.name_of (view c.args.value.now) c.in-Some.kind.now
    (view c.in-Some.body.now) found n c.read_kind.new.pool.items c.args.pool.now.items
    c.in_ok-agg.agg c.in_ok-sub_aggregation.sub_aggregation deep
    c.in_ok-agg.ensures.read c.in_ok-agg.ensures.left c.in_ok-sub_aggregation.ensures.read

pub read_aggregation-returns-clause-left : goal.read_aggregation-returns-clause-left
read_aggregation-returns-clause-left g t c =
    let found : only_other (codes "aggs") (view c.args.value.now)
    ≡ Some (c.in-Some.kind.now, view c.in-Some.body.now) = search rules in
    λ n deep. left_by_both g.B.HasName.name_of (view c.args.value.now) c.in-Some.kind.now
    (view c.in-Some.body.now) found n c.read_kind.new.pool.items c.args.pool.now.items
    c.read_below.new.pool.items deep c.in_ok-agg.ensures.left c.in_ok-sub_aggregation.ensures.left

pub read_below-read_members-requires : goal.read_below-read_members-requires
read_below-read_members-requires g t c κs within =
    let d = view c.args.value.now in
    let e = view c.in-Some.below.now in
    let members = members_view c.in-Some-as_object.members.now.entries in
    let found : get (codes "aggs") (view c.args.value.now) ≡ Some (view c.in-Some.below.now) =
    search rules in
    let inner : as_object (view c.in-Some.below.now)
    ≡ Some (members_view c.in-Some-as_object.members.now.entries) = search rules in
    let smaller : 2 * members_depth (members_view c.in-Some-as_object.members.now.entries) + 2
    < 2 * depth (view c.args.value.now) =
    omega (arith, get_lower (codes "aggs") d e found, object_lower e members inner) in
    search rules

pub read_below-returns-clause-read : goal.read_below-returns-clause-read
read_below-returns-clause-read g t c =
    let found : get (codes "aggs") (view c.args.value.now) ≡ Some (view c.in-Some.below.now) =
    search rules in
    let inner : as_object (view c.in-Some.below.now)
    ≡ Some (members_view c.in-Some-as_object.members.now.entries) = search rules in
    let good : may_hold c.args.kind.now
    (names_in (members_view c.in-Some-as_object.members.now.entries)) ≡ true = search rules in
    λ n deep. read_there g.B.HasName.name_of c.args.kind.now (view c.args.value.now)
    (view c.in-Some.below.now) found (members_view c.in-Some-as_object.members.now.entries) inner
    good n c.args.pool.now.items c.read_members.result deep c.read_members.ensures.read

pub read_below-returns-clause-left : goal.read_below-returns-clause-left
read_below-returns-clause-left g t c =
    let found : get (codes "aggs") (view c.args.value.now) ≡ Some (view c.in-Some.below.now) =
    search rules in
    let inner : as_object (view c.in-Some.below.now)
    ≡ Some (members_view c.in-Some-as_object.members.now.entries) = search rules in
    λ n deep. left_there g.B.HasName.name_of c.args.kind.now (view c.args.value.now)
    (view c.in-Some.below.now) found (members_view c.in-Some-as_object.members.now.entries) inner n
    c.args.pool.now.items c.read_members.new.pool.items c.read_members.result deep
    c.read_members.ensures.left

pub read_members-loop-name-init : goal.read_members-loop-name-init
read_members-loop-name-init g t c =
    let entries = c.args.members.now.entries in
    let given = c.into_iter-name-iterator.ensures.into_iter_gives in
    let all = given ∙ c.iter-name-items.ensures.rest in (
      tt,
      tt,
      IsInOrder-none entries c.new-request.result c.into_iter-name-iterator.result
          c.new-request.ensures all c.iter-name-items.ensures.ordered,
      λ n deep. IsPartRead-none (left_behind g.B.HasName.name_of n)
          (λ lenient. IsAggregation lenient g.B.HasName.name_of n) (HasUnsupportedAggregation n)
          entries c.args.pool.now.items c.new-request.result c.into_iter-name-iterator.result
          c.new-request.ensures all,
    )

pub read_members-returns-in_err-aggregation-clause-read
    : goal.read_members-returns-in_err-aggregation-clause-read
read_members-returns-in_err-aggregation-clause-read g t c =
    let l = c.loop-name in
    let all = members_view c.args.members.now.entries in
    let lower = next_lower all l.request l.name-iterator c.in-Some.name.now c.in-Some.member.now
    c.next.new.self l.invariant.2 c.in-Some.ensures.steps in
    λ n deep. IsPartRead-refused (left_behind g.B.HasName.name_of n)
    (λ lenient. IsAggregation lenient g.B.HasName.name_of n) (HasUnsupportedAggregation n) all
    c.args.pool.now.items l.request l.pool.items l.name-iterator c.in-Some.name.now
    c.in-Some.member.now c.next.new.self (l.invariant.3 n deep) c.in-Some.ensures.steps
    c.in_err-aggregation.field-0.0 c.from_residual.result c.from_residual.ensures.1
    (c.in_err-aggregation.ensures.read n (omega (arith, lower, deep)))

pub read_members-loop-name-preserved : goal.read_members-loop-name-preserved
read_members-loop-name-preserved g t c =
    let l = c.loop-name in
    let all = members_view c.args.members.now.entries in
    let name = c.in-Some.name.now in
    let member = c.in-Some.member.now in
    let a = c.in_ok-aggregation.aggregation in
    let lower = next_lower all l.request l.name-iterator name member c.next.new.self l.invariant.2
    c.in-Some.ensures.steps in
    let put_is = c.in_ok-put_aggregation.ensures
    ∙ ap (λ k. put k c.in_ok-aggregation.aggregation c.loop-name.request) c.as_str.ensures.value in
    let last = put_last all l.request l.name-iterator name member c.next.new.self l.invariant.2
    c.in-Some.ensures.steps c.put_aggregation.new.request a put_is in (
      tt,
      tt,
      IsInOrder-more all l.request l.name-iterator name member c.next.new.self l.invariant.2
          c.in-Some.ensures.steps c.put_aggregation.new.request a put_is,
      λ n deep. IsPartRead-more (left_behind g.B.HasName.name_of n)
          (λ lenient. IsAggregation lenient g.B.HasName.name_of n) (HasUnsupportedAggregation n) all
          c.args.pool.now.items l.request l.pool.items l.name-iterator name member
          c.next.new.self (l.invariant.3 n deep) c.in-Some.ensures.steps
          c.put_aggregation.new.request c.read_aggregation.new.pool.items a
          (c.in_ok-aggregation.ensures.read n (omega (arith, lower, deep)))
          (c.in_ok-aggregation.ensures.left n (omega (arith, lower, deep))) last,
    )

pub read_members-returns-clause-read : goal.read_members-returns-clause-read
read_members-returns-clause-read g t c =
    let l = c.loop-name in
    λ n deep. IsPartRead-all (left_behind g.B.HasName.name_of n)
    (λ lenient. IsAggregation lenient g.B.HasName.name_of n) (HasUnsupportedAggregation n)
    (members_view c.args.members.now.entries) c.args.pool.now.items l.request l.pool.items
    l.name-iterator (l.invariant.3 n deep) c.in-None.ensures.steps.0

pub read_members-returns-clause-left : goal.read_members-returns-clause-left
read_members-returns-clause-left g t c =
    let l = c.loop-name in
    λ n deep. IsPartRead-left (left_behind g.B.HasName.name_of n)
    (λ lenient. IsAggregation lenient g.B.HasName.name_of n) (HasUnsupportedAggregation n)
    (members_view c.args.members.now.entries) c.args.pool.now.items l.request l.pool.items
    l.name-iterator (l.invariant.3 n deep) c.in-None.ensures.steps.0
