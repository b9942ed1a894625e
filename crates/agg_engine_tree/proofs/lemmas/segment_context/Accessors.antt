-- The accessors of sources, one by one, and why there are none.
use Rattle.std.proofs.Common.{◌≡◌, ◌+◌, ◌<◌, ℕ, List, [], ◌∷◌, ◌++◌, Option, Result, Ok, Err, IfErr}
use Rattle.std.proofs.Common.{get_or, length, take, refl, sym, ap, ◌∙◌, subst}
use Rattle.std.specs.List.{AllZip}
use Rattle.std.specs.Result.{IsErrAnd}
use Rattle.std.proofs.lemmas.List.{take_more}
use Rattle.agg_values.specs.TypedKey.{CompositeIntermediateKey}
use Rattle.agg_values.specs.declared.request_error.RequestError.{RequestError}
use Rattle.agg_values.specs.declared.request_error.RequestError.TheVariants as request
use Rattle.agg_request_tree.specs.Faults.{IsSoundSource}
use Rattle.agg_request_tree.specs.declared.source.CompositeAggregationSource as kind
use kind.{CompositeAggregationSource}
use Rattle.agg_request_tree.proofs.PairedLists.{AllZip-append}
use Rattle.agg_composite.specs.accessor.Accessors.{HasNoAccessors}
use Rattle.agg_engine_tree.specs.segment_context.SetupError.{error_from_request}
use Rattle.agg_engine_tree.specs.declared.segment_context.error.SetupError.{SetupError}
use Rattle.agg_engine_tree.specs.declared.segment_context.error.SetupError.TheVariants.{OutOfMemory}

-- one item more on each side
pub AllZip-one_more : {A B : Type 0} (R : A → B → Type 0) (xs : List A) (i : ℕ) (ys zs : List B)
    (x : A) (y : B) → AllZip R (take i xs) ys → i < length xs → x ≡ get_or xs i x → R x y
    → zs ≡ ys ++ y ∷ [] → AllZip R (take (i + 1) xs) zs
AllZip-one_more R xs i ys zs x y all within item one pushed =
    subst (AllZip R (take (i + 1) xs)) (sym pushed)
    (subst (λ ts. AllZip R ts (ys ++ y ∷ []))
    (sym (take_more xs i x within ∙ ap (λ z. take i xs ++ z ∷ []) (sym item)))
    (AllZip-append R (take i xs) (x ∷ []) ys (y ∷ []) all (one, tt)))

-- the accessors of a sound source fail only where memory runs out
no-memory : (source : CompositeAggregationSource) (after : Option CompositeIntermediateKey)
    → IsSoundSource source after → (given : RequestError) → HasNoAccessors source after given
    → error_from_request given ≡ OutOfMemory
no-memory source after sound request.OutOfMemory none = refl
no-memory source after sound (request.Invalid fault) none =
    absurd (sound (request.Invalid fault) none.0)
no-memory source after sound (request.Aggregation part) none =
    absurd (sound (request.Aggregation part) none.0)

-- an error that is passed on says that memory ran out
pub only-memory : {T : Type 0} (result : Result T SetupError) (source : CompositeAggregationSource)
    (after : Option CompositeIntermediateKey) (given : RequestError)
    → IsSoundSource source after → HasNoAccessors source after given
    → IsErrAnd result (λ e. e ≡ error_from_request given)
    → IfErr result (λ e. e ≡ OutOfMemory)
only-memory (Ok x) source after given sound none is = tt
only-memory (Err e) source after given sound none is =
    is ∙ no-memory source after sound given none
