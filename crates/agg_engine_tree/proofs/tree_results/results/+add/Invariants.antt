use Rattle.std.proofs.Common.{◌≡◌, List, All, ◌++◌, length, map, take}
use Rattle.std.specs.Map.{keys_of}
use Rattle.agg_composite.specs.accessor.Decoded.{IsEncoded}
use Rattle.agg_composite.specs.PageEntries.{page_entries}
use Rattle.agg_composite.specs.declared.page_entry.PageEntry.{PageEntry}
use Rattle.agg_engine_tree.specs.collector_tree.Tree.{held_of}
use Rattle.agg_engine_tree.specs.tree_results.Entries.{HoldsPage}
use Rattle.agg_engine_tree.proofs.lemmas.tree_results.SideBySide.{AddInTurn}
use Rattle.agg_engine_tree.proofs.tree_results.results.+add.Given as goal

-- the entries that are gone are held
abbrev pub invariant-buckets_of-loop-buckets : goal.invariant-buckets_of-loop-buckets
invariant-buckets_of-loop-buckets l = record {
  gone : List PageEntry;
  split : page_entries l.req l.fn.entries ≡ gone ++ page_entries l.req l.entries;
  encoded : All (IsEncoded l.req) (keys_of l.entries);
  holds : HoldsPage l.ctx (held_of l.child) l.req.req.now.sources l.req.size gone l.buckets;
}

abbrev pub decreases-buckets_of-loop-buckets : goal.decreases-buckets_of-loop-buckets
decreases-buckets_of-loop-buckets l = length l.entries

-- the nodes so far added their results
abbrev pub invariant-add_results_under-loop-child : goal.invariant-add_results_under-loop-child
invariant-add_results_under-loop-child l =
    AddInTurn l.ctx l.parent (map held_of (take l.child-index l.child-items)) l.fn.results.results
    l.results.results
