use Rattle.std.proofs.Common.{◌≡◌, Ok, map, take}
use Rattle.peslumok_texts.specs.words.By.{parts}
use Rattle.peslumok_front.specs.grouping.Sources.{source_asked}
use Rattle.peslumok_front.proofs.grouping.request.composite_of.Given as goal

-- the sources so far are those that are asked for
abbrev pub invariant-loop-by : goal.invariant-loop-by
invariant-loop-by l =
    map Ok l.sources
    ≡ map (λ by. source_asked l.grouping.types (parts by)) (take l.by-index l.grouping.by.items)
