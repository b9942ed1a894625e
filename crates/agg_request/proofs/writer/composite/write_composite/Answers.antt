use Rattle.std.proofs.Common.{◌≡◌, codes, false, map, ap, ◌∙◌, subst, sym, rules}
use Rattle.serde_json.specs.Data.{object, array, number, unsigned, member, no_members}
use Rattle.serde_json.specs.View.{items_of, items_view, members_view, view}
use Rattle.agg_request.specs.reading.CompositeJson.{IsCompositeJson, IsSourceJson}
use Rattle.agg_request.specs.json_values.Json.{EachIs, IsWhole, small_number}
use Rattle.agg_request.specs.ReadBack.{IsWritten}
use Rattle.agg_request.specs.WrittenJson.{data_of_composite, data_of_source, with_after}
use Rattle.agg_request.proofs.WrittenComposites.{is-composite}
use Rattle.agg_request.proofs.WrittenMembers.{items-say, items-written}
use Rattle.agg_request.proofs.writer.composite.write_composite.Goals as goal

pub returns : goal.returns
returns c =
    let composite = c.args.composite.now in
    let items = items_view c.in_ok-sources.sources.items in
    let each : EachIs (IsWritten data_of_source (IsSourceJson false)) items composite.sources =
    subst (EachIs (IsWritten data_of_source (IsSourceJson false)) items) c.as_slice.ensures
    c.in_ok-sources.ensures in
    let written : items ≡ items_of (map data_of_source composite.sources) =
    items-written data_of_source (IsSourceJson false) items composite.sources each in
    let base : members_view c.put-2.new.map.entries
    ≡ member (codes "size") (view c.write_size.result)
    (member (codes "sources") (array items) no_members) = search rules in
    let body : view c.from-2.result ≡ data_of_composite composite =
    c.from-2.ensures ∙ ap object (c.in_ok-put_after.ensures.written
    ∙ ap (with_after composite.after) (base
    ∙ ap (λ d. member (codes "size") d (member (codes "sources") (array items) no_members))
    c.write_size.ensures.written
    ∙ ap (λ ds. member (codes "size") (number (unsigned composite.size))
    (member (codes "sources") (array ds) no_members)) written)) in (
      body,
      subst (λ d. IsCompositeJson false d composite) (sym body) (is-composite composite
          (subst (λ d. IsWhole small_number false d composite.size) c.write_size.ensures.written
          c.write_size.ensures.says)
          (subst (λ ds. EachIs (IsSourceJson false) ds composite.sources) written
          (items-say data_of_source (IsSourceJson false) items composite.sources each))
          c.in_ok-put_after.ensures.says),
    )
