use Rattle.std.proofs.Common.{◌≡◌, ◌≤◌, ◌<◌, ℕ, get_or}
use Rattle.agg_segment.specs.storage.Columns.{encoded_key, type_of, named_texts, StandsForKey}
use Rattle.agg_segment.specs.storage.GatheredNumbers.{raw_key}
use Rattle.agg_segment.proofs.storage.rows.growing.encode_numbers.Given as goal

abbrev pub invariant-loop-number : goal.invariant-loop-number
invariant-loop-number l = record {
  keys : (k : ℕ) → k < l.number-index → encoded_key l.keys (get_or l.numbers k 0)
      ≡ raw_key (named_texts l.keys l.ordinals) l.addresses (type_of l.keys)
      (get_or l.initial.numbers k 0);
  stand : (k : ℕ) → k < l.number-index → StandsForKey l.keys (get_or l.numbers k 0);
  rest : (k : ℕ) → l.number-index ≤ k → get_or l.numbers k 0 ≡ get_or l.initial.numbers k 0;
}
