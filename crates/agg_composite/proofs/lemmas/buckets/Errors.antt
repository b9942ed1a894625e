-- An error that a call passes on.
use Rattle.std.proofs.Common.{◌≡◌, Result, Err, IsErrAnd}
use Rattle.std.proofs.lemmas.Result.{err_from_is_err_and}

-- the callee's error is the one that is returned
pub error-kept : {T S E : Type 0} (r : Result T E) (given returned : E)
    → IsErrAnd r (λ y. y ≡ given) → r ≡ Err returned
    → ◌≡◌ {A = Result S E} (Err given) (Err returned)
error-kept r given returned h e =
    let q = err_from_is_err_and r h in
    let same : given ≡ returned = cc (q.1, q.2, e) in
    cc same
