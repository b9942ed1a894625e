use Rattle.std.proofs.Common.{◌≡◌, ◌++◌, ℕ, List, drop}
use Rattle.agg_values.specs.declared.after_key.AfterKey.{AfterKey}
use Rattle.peslumok_front.specs.after_text.After.{HaveOwnColumns, keys_by_name}
use Rattle.peslumok_front.specs.after_text.AfterCells.{AreTextsOf}
use Rattle.peslumok_front.proofs.after_text.written.texts_of.Given as goal

-- the texts so far begin those of the keys
abbrev pub invariant-loop-by : goal.invariant-loop-by
invariant-loop-by l =
    (keys : List AfterKey) → HaveOwnColumns l.grouping.by.items
    → l.after ≡ keys_by_name l.grouping.by.items keys
    → (more : List (List ℕ))
    → AreTextsOf l.grouping.types (drop l.by-index l.grouping.by.items) (drop l.by-index keys) more
    → AreTextsOf l.grouping.types l.grouping.by.items keys (l.texts.items ++ more)
