-- Bytes that stand for themselves in a JSON string.
use Rattle.std.specs.Prelude.{ℕ, Bool, not, ◌&&◌, ◌==◌, nat_le}
use Rattle.agg_results.specs.final_results.JsonBytes.{backslash, quote}

-- neither a control character nor a quote nor a backslash
abbrev pub is_plain : ℕ → Bool
is_plain b = nat_le 32 b && not (b == quote) && not (b == backslash)
