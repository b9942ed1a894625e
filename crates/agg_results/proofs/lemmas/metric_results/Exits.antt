-- What holds after an error, and where nothing was left.
use Rattle.std.proofs.Common.{◌≡◌, ℕ, ◌<◌, Bool, true, false, List, [], ◌∷◌, length, Result, Ok}
use Rattle.std.proofs.Common.{Err, OnErr, IsErrAnd, refl, arith}
use Rattle.std.proofs.lemmas.Bool.{false≢true}
use Rattle.std.proofs.lemmas.Result.{err_from_is_err_and}

-- what holds at all holds after an error
pub on_err : {T E P : Type 0} (r : Result T E) → P → OnErr r P
on_err (Ok x) p = tt
on_err (Err e) p = p

-- the callee's error is the one that is returned
pub error-kept : {T S E : Type 0} (r : Result T E) (given returned : E)
    → IsErrAnd r (λ y. y ≡ given) → r ≡ Err returned
    → ◌≡◌ {A = Result S E} (Err given) (Err returned)
error-kept r given returned h e =
    let q = err_from_is_err_and r h in
    let same : given ≡ returned = cc (q.1, q.2, e) in
    cc same

-- where nothing is first, nothing is there
pub ended : {X : Type 0} (xs : List X) (n : ℕ) → n ≡ length xs
    → (0 < n → ◌≡◌ {A = Bool} false true) → xs ≡ []
ended [] n is some = refl
ended (x ∷ xs) n is some = absurd (false≢true (some (omega arith)))
