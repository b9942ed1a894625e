-- The documents with a mark are those of the segment.
use Rattle.std.proofs.Common.{◌≡◌, ◌<◌, ℕ, List, Bool, Result, Ok, Err, IfOk, length}
use Rattle.std.proofs.Common.{subst, sym, arith}
use Rattle.std.specs.List.{All, range_with_len}
use Rattle.std.proofs.lemmas.List.Elements.{All-filter}
use Rattle.std.proofs.lemmas.List.FromFn.{get_or-range_with_len, length-range_with_len}
use Rattle.agg_segment.specs.Marks.{mark_at, marked_docs}

-- they are fewer than the marks
marked-within : (marks : List Bool) (n : ℕ) → length marks ≡ n
    → All (λ doc. doc < n) (marked_docs marks)
marked-within marks n long =
    All-filter (mark_at marks) (λ doc. doc < n) (range_with_len 0 (length marks))
    (λ i d within.
    let few = length-range_with_len 0 (length marks) in
    let at = get_or-range_with_len 0 (length marks) i d (omega (arith, within, few)) in
    omega (arith, at, long, within, few))

-- what holds of a list holds of the one that is given
pub given-so : {T E : Type 0} (items : T → List ℕ) (P : List ℕ → Type 0) (result : Result T E)
    (list : List ℕ) → IfOk result (λ docs. items docs ≡ list) → P list
    → IfOk result (λ docs. P (items docs))
given-so items P (Ok docs) list is so = subst P (sym is) so
given-so items P (Err error) list is so = tt

-- those that are given are fewer than the marks
pub given-within : {T E : Type 0} (items : T → List ℕ) (result : Result T E) (marks : List Bool)
    (n : ℕ) → length marks ≡ n → IfOk result (λ docs. items docs ≡ marked_docs marks)
    → IfOk result (λ docs. All (λ doc. doc < n) (items docs))
given-within items result marks n long is =
    given-so items (All (λ doc. doc < n)) result (marked_docs marks) is
    (marked-within marks n long)

-- the first numbers are less than how many they are
pub first-within : (n : ℕ) → All (λ doc. doc < n) (range_with_len 0 n)
first-within n i d within =
    let few = length-range_with_len 0 n in
    let at = get_or-range_with_len 0 n i d (omega (arith, within, few)) in
    omega (arith, at, within, few)
