use Rattle.std.proofs.Common.{◌≡◌, take}
use Rattle.agg_results.proofs.lemmas.intermediate_results.EmptyPages.{empty_page}
use Rattle.agg_engine.proofs.collectors.empty.empty_composite.Given as goal

-- the page has the orders of the sources so far
abbrev pub invariant-loop-source : goal.invariant-loop-source
invariant-loop-source l = l.buckets ≡ empty_page (take l.source-index l.source-items) l.size
