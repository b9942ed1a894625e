use Rattle.std.proofs.Common.{◌≡◌, ◌++◌, All, length}
use Rattle.std.specs.Map.{keys_of}
use Rattle.agg_composite.specs.accessor.Decoded.{IsEncoded}
use Rattle.agg_composite.specs.PageEntries.{page_entries}
use Rattle.agg_composite.proofs.page_entries.PageEntries.into_list.Given as goal

-- the entries so far, and those that are still to come
abbrev pub invariant-loop-page : goal.invariant-loop-page
invariant-loop-page l = record {
  entries : l.page.items ++ page_entries l.fn.req l.rest ≡ page_entries l.fn.req l.fn.self;
  encoded : All (IsEncoded l.fn.req) (keys_of l.rest);
}

abbrev pub decreases-loop-page : goal.decreases-loop-page
decreases-loop-page l = length l.rest
