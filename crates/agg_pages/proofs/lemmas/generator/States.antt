-- Draws after others.
use Rattle.std.proofs.Common.{◌≡◌, ◌+◌, ℕ, zero, suc, sym, ap, ◌∙◌, add-zero, add-suc, add_assoc}
use Rattle.agg_pages.specs.generator.Draws.{next_state, state_after, drawn, draw}

-- the state after some draws and then more
pub state_after-state_after : (more draws seed : ℕ)
    → state_after more (state_after draws seed) ≡ state_after (draws + more) seed
unfolding state_after
state_after-state_after zero draws seed = ap (λ n. state_after n seed) (sym (add-zero draws))
state_after-state_after (suc more) draws seed =
    ap next_state (state_after-state_after more draws seed)
    ∙ ap (λ n. state_after n seed) (sym (add-suc draws more))

-- a draw after some others
pub draw-state_after : (draws seed place : ℕ)
    → draw (state_after draws seed) place ≡ draw seed (draws + place)
draw-state_after draws seed place =
    ap drawn (state_after-state_after (place + 1) draws seed
    ∙ ap (λ n. state_after n seed) (sym (add_assoc draws place 1)))
