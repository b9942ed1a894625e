-- What the laws of roofs speak of.
use Rattle.std.specs.Prelude.{List}
use Rattle.agg_segment.specs.storage.Document.{Fields}
use Rattle.agg_request_tree.specs.Groups.{Group, Groups}
use Rattle.agg_request_tree.specs.Occurrences.{bound_of, past_occurrences}
use Rattle.agg_request_tree.specs.Source.{rules_of}
use Rattle.agg_request_tree.specs.declared.aggregation.CompositeAggregation.{CompositeAggregation}

-- the groups of a composite over documents: those of its past occurrences
abbrev pub AreGroupsOf : CompositeAggregation → List Fields → List Group → Type 0
AreGroupsOf composite documents groups =
    let bound = bound_of composite.sources composite.after in
    Groups (rules_of composite.sources) (past_occurrences composite.sources bound documents) groups
