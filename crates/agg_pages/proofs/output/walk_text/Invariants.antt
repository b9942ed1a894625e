use Rattle.std.proofs.Common.{◌≡◌, ◌≤◌, ◌+◌, ◌++◌, string_bytes}
use Rattle.agg_pages.specs.Output.{page_lines}
use Rattle.agg_pages.proofs.output.walk_text.Given as goal

-- the lines so far with those of the pages that are left are all, and every number fits
abbrev pub invariant-loop-page : goal.invariant-loop-page
invariant-loop-page l = record {
  whole : string_bytes l.text ++ page_lines (l.number + 1) l.page-iterator.rest.items
      ≡ page_lines 1 l.fn.walk.pages;
  fits : l.number + l.page-iterator.rest.len ≤ 18446744073709551615;
}
