-- Requests that may be asked, and why they may not.
use Rattle.std.proofs.Common.{◌≡◌, Result, Ok, Err, Option, None, Some, IfOk, MatchOption, subst}
use Rattle.std.specs.List.{All, Any}
use Rattle.agg_values.specs.declared.request_error.RequestError.{RequestError}
use Rattle.agg_request_tree.specs.Faults.{HasFault, IsSound, IsSoundRequest, RequestHasFault}
use Rattle.agg_request_tree.specs.Request.{agg_of, below_of, composites_in, own_composite}
use Rattle.agg_request_tree.specs.declared.aggregation.Aggregation.{Aggregation}
use Rattle.agg_check.proofs.lemmas.refusals.SeenRequests.{All-of_parts, Any-of_below}

-- what is told of nothing, and of something
pub told-none : {A : Type 0} (P : Type 0) (Q : A → Type 0) (o : Option A) → o ≡ None
    → MatchOption o P Q → P
told-none {A = A} P Q o is told = subst (λ (p : Option A). MatchOption p P Q) is told

pub told-some : {A : Type 0} (P : Type 0) (Q : A → Type 0) (o : Option A) (x : A) → o ≡ Some x
    → MatchOption o P Q → Q x
told-some {A = A} P Q o x is told = subst (λ (p : Option A). MatchOption p P Q) is told

-- where an aggregation has no fault of its own, what is found below it is found in it
pub found-below : {B R E : Type 0} (fault_of : R → RequestError) (a : Aggregation B)
    (result : Result (Option R) E) → All IsSound (own_composite (agg_of a))
    → IfOk result (λ found. MatchOption found (IsSoundRequest (below_of a))
    (λ refused. RequestHasFault (below_of a) (fault_of refused)))
    → IfOk result (λ found. MatchOption found (All IsSound (composites_in a))
    (λ refused. Any (λ c. HasFault c (fault_of refused)) (composites_in a)))
found-below fault_of a (Err e) own found = tt
found-below fault_of a (Ok None) own found = All-of_parts own_composite IsSound a own found
found-below fault_of a (Ok (Some refused)) own found =
    Any-of_below own_composite (λ c. HasFault c (fault_of refused)) a found
