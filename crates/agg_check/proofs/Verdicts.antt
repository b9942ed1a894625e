-- Why a walk goes on, or doesn't.
use Rattle.std.proofs.Common.{◌≡◌, ◌≢◌, ℕ, List, [], ◌∷◌, Bool, true, false, MatchBool, refl}
use Rattle.std.proofs.Common.{subst, sym, ap, ◌∙◌, length, arith}
use Rattle.std.proofs.Common.{Option, None, Some, Result, Ok, Err, IfOk, MatchOption}
use Rattle.std.specs.List.{All, Any}
use Rattle.std.specs.Prelude.{IsSome}
use Rattle.std.proofs.lemmas.Bool.{false≢true}
use Rattle.std.proofs.lemmas.List.Elements.{All-nil}
use Rattle.agg_values.specs.declared.request_error.RequestError.{RequestError}
use Rattle.agg_request_tree.specs.Faults.{HasFault, IsSoundRequest, RequestHasFault}
use Rattle.agg_request_tree.specs.Request.{Request, builders_of}
use Rattle.agg_segment.specs.SnapshotDocuments.{SnapshotDocuments}
use Rattle.agg_engine.specs.Walk.{HaveRoom}
use Rattle.agg_request_tree.specs.BuiltRequest.{EachMakesTree}
use Rattle.agg_pages.specs.AnyField.{any_field}
use Rattle.agg_pages.specs.input_text.Input.{Input, IsInput}
use Rattle.agg_pages.proofs.lemmas.input_text.Inputs.{IsInput-unique}
use Rattle.agg_check.specs.Check.{GoesOn, MayBeWalked, known_builders}
use Rattle.agg_check.specs.declared.verdict.BuilderName.{BuilderName}
use Rattle.agg_check.proofs.RequestBuilders.{empty-where_none}

-- a request with a fault may not be asked
pub unsound : {B : Type 0} (request : Request B) (fault : RequestError)
    → RequestHasFault request fault → ¬ (IsSoundRequest request)
unsound request fault (k, composite, within, at, has) sound =
    sound k composite within fault (subst (λ c. HasFault c fault) (sym at) has)

-- snapshots, of which one has no room
pub crowded : (snapshots : List SnapshotDocuments) → Any (λ s. s.page_size ≡ 0) snapshots
    → ¬ (HaveRoom snapshots)
crowded snapshots (k, snapshot, within, at, none) room =
    room k snapshot within (ap (λ (s : SnapshotDocuments). s.page_size) at ∙ none)

-- fields, of which there are none
pub no_fields : (fields : List (List ℕ)) → length fields ≡ 0 → fields ≡ []
no_fields [] few = refl
no_fields (field ∷ fields) few = absurd (omega (arith, few))

-- for no fields no builder makes a query
pub unbuilt_where_none : (fields : List (List ℕ)) (request : Request BuilderName) (asks : Bool)
    → fields ≡ []
    → MatchBool asks (¬ (builders_of request ≡ [])) (builders_of request ≡ [])
    → MatchBool asks (¬ (EachMakesTree (λ builder. any_field fields) request))
    (EachMakesTree (λ builder. any_field fields) request)
unbuilt_where_none fields request true none asked = λ each.
    asked (empty-where_none (builders_of request)
    (λ k b within. absurd (false≢true
    (subst (λ (f : List (List ℕ)). IsSome (any_field f)) none (each k b within)))))
unbuilt_where_none fields request false none asked =
    subst (λ (bs : List BuilderName). All (λ b. IsSome (any_field fields)) bs) (sym asked)
    (All-nil (λ b. IsSome (any_field fields)))

-- for some field each builder makes one
built : (fields : List (List ℕ)) → length fields ≢ 0 → IsSome (any_field fields)
built [] many = absurd (many refl)
built (field ∷ fields) many = refl

pub built_where_some : (found fields : List (List ℕ)) (request : Request BuilderName)
    → found ≡ fields → length found ≢ 0 → EachMakesTree (λ builder. any_field fields) request
built_where_some found fields request same many = λ k b within.
    subst (λ (f : List (List ℕ)). IsSome (any_field f)) same (built found many)

-- ---- bytes

-- a walk of bytes goes on as one of their input does
pub of_input : {A E : Type 0} (bytes : List ℕ) (i : Input BuilderName)
    (result : Result (Option A) E) → IsInput known_builders (λ b. b.name) bytes i
    → IfOk result (λ found. MatchOption found (MayBeWalked i) (λ x. ¬ (MayBeWalked i)))
    → IfOk result (λ found. MatchOption found (GoesOn bytes) (λ x. ¬ (GoesOn bytes)))
of_input bytes i (Err e) is walked = tt
of_input bytes i (Ok None) is walked = (i, is, walked)
of_input bytes i (Ok (Some x)) is walked = λ goes.
    walked (subst MayBeWalked
    (IsInput-unique known_builders (λ b. b.name) bytes goes.0 i goes.1 is) goes.2)

-- a walk of bytes that are no input doesn't go on
pub of_none : (bytes : List ℕ)
    → ((i : Input BuilderName) → ¬ (IsInput known_builders (λ b. b.name) bytes i))
    → ¬ (GoesOn bytes)
of_none bytes none goes = none goes.0 goes.1
