-- Errors that are passed on.
use Rattle.std.proofs.Common.{◌≡◌, Err, IfErr, Ok, Result, subst, sym}
use Rattle.std.specs.Prelude.{IsErrAnd}

-- what holds of an error holds of the answer that passes it on
pub error-passed : {A E : Type 0} (P : Result A E → Type 0) (result : Result A E) (error : E)
    → IsErrAnd result (λ e. e ≡ error) → P (Err error) → P result
error-passed P (Ok value) error passed holds = absurd passed
error-passed P (Err e) error passed holds = subst (λ f. P (Err f)) (sym passed) holds

-- a cause of an error is one of the answer that passes it on
pub cause-passed : {A E : Type 0} (Fails : E → Type 0) (result : Result A E) (error : E)
    → IsErrAnd result (λ e. e ≡ error) → Fails error → IfErr result Fails
cause-passed Fails result error = error-passed (λ r. IfErr r Fails) result error
