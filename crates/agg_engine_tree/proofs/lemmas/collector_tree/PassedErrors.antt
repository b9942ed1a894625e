-- An error that a call passes on.
use Rattle.std.proofs.Common.{◌≡◌, Result, Err, IsErrAnd, sym, subst}
use Rattle.std.proofs.lemmas.Result.{err_from_is_err_and}

-- what is so of the callee's error is so of the one that is returned
pub error-passed : {T E : Type 0} (P : Result T E → Type 0) (returned : Result T E) (error : E)
    → IsErrAnd returned (λ y. y ≡ error) → P (Err error) → P returned
error-passed P returned error h p =
    let q = err_from_is_err_and returned h in
    let same : returned ≡ Err error = cc (q.1, q.2) in
    subst P (sym same) p
