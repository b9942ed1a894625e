use Rattle.agg_request_tree.proofs.AlikeCounts.{counts-alike, length-alike}
use Rattle.agg_request_tree.proofs.AlikeLists.{lists-alike, matches-alike, uncut-alike}
use Rattle.agg_request_tree.proofs.AlikeStarts.{starts-alike}
use Rattle.agg_request_tree.proofs.laws.classes_count_in_any_order.Goals as goal

pub returns-clause-pages : goal.returns-clause-pages
returns-clause-pages g c = counts-alike

pub returns-clause-counts : goal.returns-clause-counts
returns-clause-counts g c = length-alike

pub returns-clause-matches : goal.returns-clause-matches
returns-clause-matches g c = matches-alike

pub returns-clause-uncut : goal.returns-clause-uncut
returns-clause-uncut g c = uncut-alike

pub returns-clause-lists : goal.returns-clause-lists
returns-clause-lists g c = lists-alike

pub returns-clause-starts : goal.returns-clause-starts
returns-clause-starts g c = starts-alike
