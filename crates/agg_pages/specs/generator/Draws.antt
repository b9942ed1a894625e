-- Random numbers: each state is made of the one before, and gives a number.
use Rattle.std.specs.Prelude.{ℕ, ◌+◌, ◌*◌, ◌/◌, ◌%◌, ◌^◌, zero, suc}

-- the state that follows a state
abbrev pub next_state : ℕ → ℕ
next_state state = (state * 6_364_136_223_846_793_005 + 1_442_695_040_888_963_407) % 2 ^ 64

-- the state after so many draws
unfoldable pub state_after : ℕ → ℕ → ℕ
state_after zero seed = seed
state_after (suc draws) seed = next_state (state_after draws seed)

-- the number that a state gives
abbrev pub drawn : ℕ → ℕ
drawn state = state / 2 ^ 33

-- the number of a draw, the first of which is draw 0
abbrev pub draw : ℕ → ℕ → ℕ
draw seed place = drawn (state_after (place + 1) seed)
