use Rattle.std.proofs.Common.{◌≡◌, take}
use Rattle.std.specs.List.{list_all}
use Rattle.agg_segment.specs.storage.Document.{Fields}
use Rattle.agg_segment.specs.Query.{all_match, matches}
use Rattle.peslumok_texts.specs.words.Condition.{parts}
use Rattle.peslumok_front.specs.grouping.Query.{meets}
use Rattle.peslumok_front.proofs.grouping.query.trees_of.Given as goal

-- all queries so far match what meets the conditions so far
abbrev pub invariant-loop-condition : goal.invariant-loop-condition
invariant-loop-condition l =
    (document : Fields)
    → all_match matches l.trees document
    ≡ list_all (λ c. meets l.grouping.types (parts c) document)
    (take l.condition-index l.grouping.conditions.items)
