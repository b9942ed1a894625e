use Rattle.std.proofs.Common.{◌≡◌, ◌++◌, drop, map, string_bytes}
use Rattle.std.specs.Vec.Iter.{into_iter_items}
use Rattle.agg_pages_main.proofs.words_of.Given as goal

-- the words so far, and then those of the arguments that are left, are all after the first
abbrev pub invariant-loop-argument : goal.invariant-loop-argument
invariant-loop-argument l =
    map string_bytes (drop 1 (into_iter_items l.fn.arguments))
    ≡ l.words.items ++ map string_bytes (into_iter_items l.argument-iterator)
