use Rattle.std.proofs.Common.{◌≡◌, ◌<◌, ◌+◌, ◌*◌, ap, ◌∙◌, arith, rules}
use Rattle.serde_json.specs.Data.{object, member, no_members, put}
use Rattle.serde_json.specs.View.{members_view, view}
use Rattle.agg_request_tree.specs.Request.{agg_of, below_of}
use Rattle.agg_request.specs.ReadBack.{IsWritten, SaysAggregation}
use Rattle.agg_request.specs.reading.RequestJson.{kind_word}
use Rattle.agg_request.specs.WrittenJson.{data_of_aggregation, with_below}
use Rattle.agg_request_tree.proofs.RequestTrees.{height, height-out, levels}
use Rattle.agg_request.proofs.Writable.{AreWritable-more, may-below, no-null-min}
use Rattle.agg_request.proofs.WrittenMembers.{AreWrittenUpTo-more}
use Rattle.agg_request.proofs.WrittenRequests.{is-aggregation}
use Rattle.agg_request.proofs.writer.+written.Goals as goal

pub write_aggregation-write_request-requires : goal.write_aggregation-write_request-requires
write_aggregation-write_request-requires g t c =
    let a = c.args.aggregation.now in
    let may = may-below a c.requires in
    let smaller : 2 * levels (below_of a) + 1 < 2 * height a = omega (arith, height-out a) in
    search (rules, may)

pub write_request-loop-name-preserved : goal.write_request-loop-name-preserved
write_request-loop-name-preserved g t c =
    let before = members_view c.loop-name.members.entries in
    let d = view c.in_ok-write_aggregation.field-0 in
    let a = c.in-Some.aggregation.now in
    let name = c.in-Some.name.now in (
      AreWrittenUpTo-more (IsWritten (data_of_aggregation g.B.HasName.name_of)
          (SaysAggregation g.B.HasName.name_of)) c.args.request.now
          c.loop-name.name-iterator before (members_view c.put.new.map.entries) name d a
          c.next.new.self c.loop-name.invariant.0 c.in-Some.ensures.steps
          c.in_ok-write_aggregation.ensures
          (c.in_ok-put.ensures.ok ∙ ap (λ n. put n d before) c.as_str.ensures),
      AreWritable-more c.args.request.now c.loop-name.name-iterator name a c.next.new.self
          c.loop-name.invariant.1 c.in-Some.ensures.steps,
    )

pub write_aggregation-returns : goal.write_aggregation-returns
write_aggregation-returns g t c =
    let a = c.args.aggregation.now in
    let body = view c.in_ok-body.body in
    let below = members_view c.in_ok-write_request.field-0.entries in
    let own : members_view c.put.new.map.entries ≡ member (kind_word (agg_of a)) body no_members =
    search rules in
    is-aggregation g.B.HasName.name_of (view c.from.result) body below a
    (c.from.ensures ∙ ap object (c.in_ok-put_below.ensures ∙ ap (with_below below) own))
    c.in_ok-body.ensures c.in_ok-write_request.ensures c.requires

pub write_aggregation-write_kind-requires : goal.write_aggregation-write_kind-requires
write_aggregation-write_kind-requires g t c = no-null-min c.args.aggregation.now c.requires
