use Rattle.std.proofs.Common.{◌≡◌, List, All, ◌++◌, length, map}
use Rattle.std.specs.Map.{keys_of}
use Rattle.agg_request_tree.specs.Source.{rules_of}
use Rattle.agg_composite.specs.accessor.Decoded.{IsEncoded}
use Rattle.agg_composite.specs.PageEntries.{page_entries}
use Rattle.agg_composite.specs.declared.page_entry.PageEntry.{PageEntry}
use Rattle.agg_results.specs.intermediate_results.Intermediate.{composite_of}
use Rattle.agg_engine_tree.specs.tree_results.Leaves.{leaf_entry}
use Rattle.agg_engine_tree.proofs.tree_results.leaf.leaf_page.Given as goal

-- the entries that are gone are held
abbrev pub invariant-loop-buckets : goal.invariant-loop-buckets
invariant-loop-buckets l = record {
  gone : List PageEntry;
  split : page_entries l.req l.fn.entries ≡ gone ++ page_entries l.req l.entries;
  encoded : All (IsEncoded l.req) (keys_of l.entries);
  holds : l.buckets ≡ composite_of (rules_of l.req.req.now.sources) l.req.size
      (map leaf_entry gone);
}

abbrev pub decreases-loop-buckets : goal.decreases-loop-buckets
decreases-loop-buckets l = length l.entries
