-- Visits of encoded tuples of one document in a row.
use Rattle.std.proofs.Common.{List}
use Rattle.agg_composite.specs.accessor.Encoding.{EncodedTuple, encoded_tuple_order}
use Rattle.agg_composite.proofs.lemmas.accessor.EncodedOrder.{tuple_order-total}
use Rattle.agg_composite.specs.buckets.Laws.{TuplesCompose}
use Rattle.agg_composite.specs.buckets.Node as node
use Rattle.agg_composite.specs.buckets.Node.{Node, Takes}
use Rattle.agg_composite.proofs.lemmas.buckets.NodeLaws.{compose-tuples}
use Rattle.agg_composite.proofs.VisitsInRow.{AreVisits}

-- encoded tuples visited, or too many of them
abbrev pub Visited : List EncodedTuple → Node EncodedTuple → Node EncodedTuple → Type 0
Visited tuples old new = Takes encoded_tuple_order tuples old new

abbrev pub TooMany : List EncodedTuple → Node EncodedTuple → Type 0
TooMany tuples old = node.TooMany encoded_tuple_order tuples old

-- the laws of such visits
pub tuples_compose : TuplesCompose encoded_tuple_order
tuples_compose = compose-tuples encoded_tuple_order tuple_order-total

-- they come in a row
pub encoded-visits : AreVisits Visited TooMany
encoded-visits = record {
  none = tuples_compose.none;
  both = tuples_compose.both;
  more = tuples_compose.more;
  after = tuples_compose.after;
}
