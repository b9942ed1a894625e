-- A collector that was just made.
use Rattle.std.proofs.Common.{◌≡◌, ◌<◌, ◌^◌, [], false, length, refl, arith}
use Rattle.std.specs.List.{All}
use Rattle.std.proofs.lemmas.List.Elements.{All-nil}
use Rattle.agg_segment.specs.storage.Document.{HasNumbersOf64Bits}
use Rattle.agg_segment.specs.Query.{matches}
use Rattle.agg_segment.specs.Segment.{documents_of}
use Rattle.agg_segment.specs.declared.query.QueryTree.{QueryTree}
use Rattle.agg_request_tree.specs.Names.{NamesAscend}
use Rattle.agg_request_tree.specs.Request.{Request}
use Rattle.agg_request_tree.specs.charges.Charges.{fixed_charge}
use Rattle.agg_engine_tree.specs.segment_context.Context.{IsContextOf, Meaning}
use Rattle.agg_engine_tree.specs.uncut.Uncut.{uncut_lengths}
use Rattle.agg_engine_tree.specs.collector_tree.Tree.{held_of}
use Rattle.agg_engine.specs.snapshot_results.ChargedTrees.{IsCharged}
use Rattle.agg_engine.proofs.lemmas.snapshot_results.PartCounts.{as_many-none}
use Rattle.agg_engine.specs.snapshot_results.Trees.{IsNew}
use Rattle.agg_engine.proofs.lemmas.snapshot_results.StartRanges.{none-of_none}
use Rattle.agg_engine.specs.collectors.Segment.{CollectorFor}
use Rattle.agg_engine.specs.declared.collectors.segment.AggregationSegmentCollector as declared
use declared.{AggregationSegmentCollector}

-- a collector whose tree is new took nothing
pub collector-new : (request : Request QueryTree) (new : AggregationSegmentCollector)
    (meaning : Meaning) → meaning.segment ≡ new.reader.now
    → IsContextOf meaning new.aggregations.per_request request
    → IsNew new.aggregations.per_request new.reader.now (held_of new.tree.tree)
    → IsCharged new.aggregations.per_request new.tree
    → new.tree.fixed ≡ fixed_charge request (length (documents_of new.reader.now))
    → NamesAscend request → All HasNumbersOf64Bits (documents_of new.reader.now)
    → new.counts ≡ uncut_lengths request [] → new.has_failed ≡ false
    → CollectorFor request new.reader.now [] 0 new
collector-new request new meaning same context tree charged fixed names numbers counts works =
    record {
      right = record {
        reader = refl;
        meaning = meaning;
        same = same;
        right = record {
          context = context;
          nodes = tree.nodes;
          fits = tree.fits;
          right = tree.right meaning same context.meant;
        };
        names = names;
        within = All-nil (λ doc. doc < length (documents_of new.reader.now));
        numbers = numbers;
        counts = counts;
        range = none-of_none request;
        few = as_many-none matches (2 ^ 32) request (omega arith);
        charged = charged;
        fixed = fixed;
      };
      working = works;
    }
