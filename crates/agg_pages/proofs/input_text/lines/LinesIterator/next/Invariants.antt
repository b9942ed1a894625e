use Rattle.std.proofs.Common.{◌≡◌, [], length}
use Rattle.std.specs.Option.{option_map_or}
use Rattle.agg_pages.specs.input_text.Lines.{all_lines_of, lines_of}
use Rattle.agg_pages.proofs.input_text.lines.LinesIterator.next.Given as goal

abbrev pub invariant-loop-self : goal.invariant-loop-self
invariant-loop-self l =
    option_map_or (λ text. lines_of text.now) l.self-inside.left [] ≡ option_map_or
    (λ text. lines_of text.now) l.initial.self-inside.left []

abbrev pub decreases-loop-self : goal.decreases-loop-self
decreases-loop-self l = length (option_map_or (λ text. all_lines_of text.now) l.self-inside.left [])
