use Rattle.std.proofs.Common.{◌+◌, ◌*◌}
use Rattle.serde_json.specs.Data.{depth, items_depth}
use Rattle.serde_json.specs.View.{view, items_view}
use Rattle.agg_request.proofs.lemmas.json_values.FilterLists.{ReadSoFar}
use Rattle.agg_request.proofs.json_values.query.+filters.Given as goal

abbrev pub decreases-read_filter : goal.decreases-read_filter
decreases-read_filter l = 4 * depth (view l.value.now)

abbrev pub decreases-read_kind : goal.decreases-read_kind
decreases-read_kind l = 4 * depth (view l.body.now) + 3

abbrev pub decreases-read_bool : goal.decreases-read_bool
decreases-read_bool l = 4 * depth (view l.body.now) + 2

abbrev pub decreases-read_list : goal.decreases-read_list
decreases-read_list l = 4 * depth (view l.body.now) + 1

abbrev pub decreases-read_items : goal.decreases-read_items
decreases-read_items l = 4 * items_depth (items_view l.items.now) + 1

abbrev pub invariant-read_items-loop-item : goal.invariant-read_items-loop-item
invariant-read_items-loop-item l = ReadSoFar l.items l.item-index l.trees
