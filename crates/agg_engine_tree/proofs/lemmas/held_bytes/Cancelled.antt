-- What ids count, where those of some parents are counted exactly.
use Rattle.std.proofs.Common.{◌≡◌, ◌≤◌, ◌+◌, ◌-◌, ℕ, arith}
use Rattle.std.specs.List.{sum_by}
use Rattle.agg_request_tree.proofs.lemmas.charges.Sums.{sum_by-at_most, sum_by-both, sum_by-same}
use Rattle.agg_engine_tree.proofs.lemmas.held_bytes.NumberSums.{up_to}

-- Under each id below `ids` at most `most` is counted, and in all at most the sum over the parents
-- below `parents` of what is theirs. Of this, what the ids of a parent spare is counted on by none,
-- and the rest counts as the parent's.
pub cancelled : (ids parents : ℕ) (counted most theirs own : ℕ → ℕ) (held : (ℕ → ℕ) → ℕ → ℕ)
    → ((i : ℕ) → counted i ≤ most i)
    → sum_by most (up_to ids) ≤ sum_by theirs (up_to parents)
    → ((spare : ℕ → ℕ) → sum_by (held spare) (up_to parents) ≤ sum_by spare (up_to ids))
    → ((p : ℕ) → theirs p ≤ held (λ i. most i - counted i) p + own p)
    → sum_by counted (up_to ids) ≤ sum_by own (up_to parents)
cancelled ids parents counted most theirs own held less all apart each =
    let spare : ℕ → ℕ = λ i. most i - counted i in
    let whole : (i : ℕ) → counted i + spare i ≡ most i = λ i. omega (arith, less i) in
    omega (
      arith,
      all,
      apart spare,
      sum_by-both counted spare (up_to ids),
      sum_by-same (λ i. counted i + spare i) most (up_to ids) whole,
      sum_by-at_most theirs (λ p. held spare p + own p) (up_to parents) each,
      sum_by-both (held spare) own (up_to parents),
    )
