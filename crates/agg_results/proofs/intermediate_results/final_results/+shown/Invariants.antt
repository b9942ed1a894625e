use Rattle.std.proofs.Common.{◌≡◌, ◌+◌, ◌*◌, ◌++◌, length, map}
use Rattle.agg_request_tree.specs.Request.{below_of}
use Rattle.agg_request_tree.proofs.RequestTrees.{levels}
use Rattle.agg_results.proofs.lemmas.intermediate_results.FinalByName.{AreNamedBefore}
use Rattle.agg_results.proofs.lemmas.intermediate_results.FinalByName.{AreShownAfter}
use Rattle.agg_results.proofs.lemmas.intermediate_results.ShownPages.{shown_entry}
use Rattle.agg_results.proofs.intermediate_results.final_results.+shown.Given as goal

abbrev pub decreases-by_name::shown_by_name : goal.decreases-by_name::shown_by_name
decreases-by_name::shown_by_name g l = 8 * levels l.req.now + 3

abbrev pub decreases-by_name::shown_last_first : goal.decreases-by_name::shown_last_first
decreases-by_name::shown_last_first g l = 8 * levels l.req.now + 2

abbrev pub decreases-pages::shown_buckets : goal.decreases-pages::shown_buckets
decreases-pages::shown_buckets g l = 8 * levels l.below.now + 4

abbrev pub decreases-pages::shown_page : goal.decreases-pages::shown_page
decreases-pages::shown_page g l = 8 * levels l.below.now + 5

abbrev pub decreases-shown::shown_bucket : goal.decreases-shown::shown_bucket
decreases-shown::shown_bucket g l = 8 * levels (below_of l.asked.now) + 8

abbrev pub decreases-shown::shown_filter : goal.decreases-shown::shown_filter
decreases-shown::shown_filter g l = 8 * levels l.below.now + 6

abbrev pub decreases-shown::shown_nothing : goal.decreases-shown::shown_nothing
decreases-shown::shown_nothing g l = 8 * levels (below_of l.asked.now) + 7

abbrev pub decreases-shown::shown_number : goal.decreases-shown::shown_number
decreases-shown::shown_number g l = 8 * levels (below_of l.asked.now) + 8

abbrev pub decreases-shown::shown_result : goal.decreases-shown::shown_result
decreases-shown::shown_result g l = 8 * levels (below_of l.asked.now) + 9

abbrev pub invariant-by_name::shown_by_name-loop-name :
    goal.invariant-by_name::shown_by_name-loop-name
invariant-by_name::shown_by_name-loop-name g l =
    AreNamedBefore l.req l.fn.held.results l.name-iterator l.last_first.items l.results

abbrev pub invariant-by_name::shown_last_first-loop-name :
    goal.invariant-by_name::shown_last_first-loop-name
invariant-by_name::shown_last_first-loop-name g l =
    AreShownAfter l.req l.fn.held.results l.held.results
    (map (λ e. (e.0.now, e.1.now)) l.wanted.items) l.last_first.items

abbrev pub decreases-by_name::shown_last_first-loop-name :
    goal.decreases-by_name::shown_last_first-loop-name
decreases-by_name::shown_last_first-loop-name g l = length l.wanted.items

-- the buckets so far, and those of the entries that are still to come
abbrev pub invariant-pages::shown_buckets-loop-tuple :
    goal.invariant-pages::shown_buckets-loop-tuple
invariant-pages::shown_buckets-loop-tuple g l =
    l.buckets.items ++ map (shown_entry l.sources l.below) l.tuple-iterator
    ≡ map (shown_entry l.sources l.below) l.fn.entries.items
