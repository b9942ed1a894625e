use Rattle.std.proofs.Common.{◌≡◌, ◌+◌, ◌*◌, ◌<◌, Some, sym, subst, arith, rules}
use Rattle.serde_json.specs.Data.{depth, items_depth}
use Rattle.serde_json.specs.Find.{as_array, get}
use Rattle.serde_json.specs.View.{view, items_view}
use Rattle.agg_request.specs.json_values.Json.{only_member}
use Rattle.agg_request.proofs.lemmas.json_values.FilterKinds.{all, empty, term, range, exists, bool}
use Rattle.agg_request.proofs.lemmas.json_values.FilterKinds.{read_member, read_of_kind}
use Rattle.agg_request.proofs.lemmas.json_values.FilterLists.{array_lower, get_lower, item_lower}
use Rattle.agg_request.proofs.lemmas.json_values.FilterLists.{read_found, read_more, refused_item}
use Rattle.agg_request.proofs.lemmas.json_values.FilterLists.{refused_must, refused_must_not}
use Rattle.agg_request.proofs.lemmas.json_values.FilterLists.{refused_should}
use Rattle.agg_request.proofs.json_values.query.+filters.Goals as goal

pub read_bool-returns-in_err-must : goal.read_bool-returns-in_err-must
read_bool-returns-in_err-must t c =
    λ n deep. refused_must n (view c.args.body.now) c.in_err-must.field-0.0 c.from_residual.result
    c.from_residual.ensures.1 (c.in_err-must.ensures n deep)

pub read_bool-returns-in_err-should : goal.read_bool-returns-in_err-should
read_bool-returns-in_err-should t c =
    λ n deep. refused_should n (view c.args.body.now) c.in_err-should.field-0.0
    c.from_residual-in_err-should.result
    c.from_residual-in_err-should.ensures.1 (c.in_err-should.ensures n deep)

pub read_bool-returns-in_err-must_not : goal.read_bool-returns-in_err-must_not
read_bool-returns-in_err-must_not t c =
    λ n deep. refused_must_not n (view c.args.body.now) c.in_err-must_not.field-0.0
    c.from_residual-in_err-must_not.result
    c.from_residual-in_err-must_not.ensures.1 (c.in_err-must_not.ensures n deep)

pub read_filter-returns : goal.read_filter-returns
read_filter-returns t c =
    let found : only_member (view c.args.value.now)
    ≡ Some (c.in-Some.kind.now, view c.in-Some.body.now) = search rules in
    read_member (view c.args.value.now) c.in-Some.kind.now (view c.in-Some.body.now)
    c.read_kind.result found c.read_kind.ensures

pub read_items-read_filter-requires : goal.read_items-read_filter-requires
read_items-read_filter-requires t c =
    let smaller : 4 * depth (view c.item-item.result)
    < 4 * items_depth (items_view c.args.items.now) + 1 =
    subst (λ y. 4 * depth (view y) < 4 * items_depth (items_view c.args.items.now) + 1)
    (sym c.item-item.is) (omega (
      arith,
      item_lower c.args.items.now c.loop-item.item-index
          c.item-item.result (omega arith),
    )) in
    search rules

pub read_items-returns-in_err-read_filter : goal.read_items-returns-in_err-read_filter
read_items-returns-in_err-read_filter t c =
    refused_item c.args.items.now c.loop-item.item-index c.item-item.result
    c.in_err-read_filter.field-0.0 c.from_residual-in_err-read_filter.result c.loop-item-test.true
    c.item-item.is c.from_residual-in_err-read_filter.ensures.1 c.in_err-read_filter.ensures

pub read_items-loop-item-preserved : goal.read_items-loop-item-preserved
read_items-loop-item-preserved t c =
    read_more c.args.items.now c.loop-item.item-index c.item-item.result c.loop-item.trees
    c.in_ok-read_filter.field-0 c.push.new.self c.loop-item-test.true c.item-item.is
    c.loop-item.invariant c.in_ok-read_filter.ensures c.in_ok-push.ensures.ok

pub read_kind-returns-in-all : goal.read_kind-returns-in-all
read_kind-returns-in-all t c =
    λ n deep. read_of_kind c.args.kind.now (view c.args.body.now) all n c.read_plain.result
    c.in-all.is c.read_plain.ensures

pub read_kind-returns-in-empty : goal.read_kind-returns-in-empty
read_kind-returns-in-empty t c =
    λ n deep. read_of_kind c.args.kind.now (view c.args.body.now) empty n
    c.read_plain-in-empty.result c.in-empty.is c.read_plain-in-empty.ensures

pub read_kind-returns-in-term : goal.read_kind-returns-in-term
read_kind-returns-in-term t c =
    λ n deep. read_of_kind c.args.kind.now (view c.args.body.now) term n c.read_term.result
    c.in-term.is c.read_term.ensures

pub read_kind-returns-in-range : goal.read_kind-returns-in-range
read_kind-returns-in-range t c =
    λ n deep. read_of_kind c.args.kind.now (view c.args.body.now) range n c.read_range.result
    c.in-range.is c.read_range.ensures

pub read_kind-returns-in-exists : goal.read_kind-returns-in-exists
read_kind-returns-in-exists t c =
    λ n deep. read_of_kind c.args.kind.now (view c.args.body.now) exists n c.read_exists.result
    c.in-exists.is c.read_exists.ensures

pub read_kind-returns-in-bool : goal.read_kind-returns-in-bool
read_kind-returns-in-bool t c =
    λ n deep. read_of_kind c.args.kind.now (view c.args.body.now) bool n c.read_bool.result
    c.in-bool.is (c.read_bool.ensures n deep)

pub read_list-read_items-requires : goal.read_list-read_items-requires
read_list-read_items-requires t c =
    let found : get c.args.name.now (view c.args.body.now) ≡ Some (view c.in-Some.found.now) =
    search rules in
    let inner : as_array (view c.in-Some.found.now) ≡ Some (items_view c.as_slice.result.now) =
    search rules in
    let smaller : 4 * items_depth (items_view c.as_slice.result.now) + 1
    < 4 * depth (view c.args.body.now) + 1 =
    omega (
      arith,
      get_lower c.args.name.now (view c.args.body.now) (view c.in-Some.found.now) found,
      array_lower (view c.in-Some.found.now) (items_view c.as_slice.result.now) inner,
    ) in
    search rules

pub read_list-returns : goal.read_list-returns
read_list-returns t c =
    let found : get c.args.name.now (view c.args.body.now) ≡ Some (view c.in-Some.found.now) =
    search rules in
    let inner : as_array (view c.in-Some.found.now) ≡ Some (items_view c.as_slice.result.now) =
    search rules in
    read_found c.args.name.now (view c.args.body.now) (view c.in-Some.found.now)
    (items_view c.as_slice.result.now) c.read_items.result found inner c.read_items.ensures
