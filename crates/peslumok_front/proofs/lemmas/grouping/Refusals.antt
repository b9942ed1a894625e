-- Why something of a grouping isn't made.
use Rattle.std.proofs.Common.{◌≡◌, ◌≢◌, ◌<◌, ◌⊎◌, inl, inr, subst, ℕ, List, get_or, length}
use Rattle.std.proofs.Common.{Result, Err, Some}
use Rattle.std.proofs.lemmas.List.{get_or_default}
use Rattle.std.specs.List.{Any}
use Rattle.serde_json.specs.Data.{Data}
use Rattle.serde_json.specs.Read.{read}
use Rattle.agg_values.specs.Nothing.{NoneIs}
use Rattle.agg_segment.specs.declared.query.QueryTree.{QueryTree}
use Rattle.agg_request.specs.json_values.Query.{IsQuery}
use Rattle.agg_request.specs.json_values.Unsupported.{HasUnsupportedQuery}
use Rattle.agg_request.specs.declared.json_values.read_error.ReadError.{ReadError}
use Rattle.agg_request.specs.declared.json_values.read_error.ReadError.TheVariants as reading
use Rattle.peslumok_texts.specs.words.Condition.{parts}
use Rattle.peslumok_texts.specs.declared.words.condition.Condition.{Condition}
use Rattle.peslumok_front.specs.grouping.Query.{RefusesCondition, RefusesConditions, RefusesSaid}
use Rattle.peslumok_front.specs.grouping.Query.{refusal_of}
use Rattle.peslumok_front.specs.declared.grouping.error.GroupingError.{GroupingError}
use Rattle.peslumok_front.specs.declared.grouping.error.GroupingError.TheVariants as error
use Rattle.peslumok_front.specs.declared.grouping.grouping.Grouping.{Grouping}

-- what holds of an item holds of some item
any_at : {X : Type 0} (P : X → Type 0) (xs : List X) (i : ℕ) (d : X) → i < length xs
    → P (get_or xs i d) → Any P xs
any_at P xs i d within holds =
    (i, get_or xs i d, within, get_or_default xs i (get_or xs i d) d within, holds)

-- a condition that is refused is one of the grouping's
pub condition_refused : (grouping : Grouping) (refusal : GroupingError)
    (conditions : List Condition) (i : ℕ) (d : Condition)
    → conditions ≡ grouping.conditions.items → i < length conditions
    → RefusesCondition grouping.types (parts (get_or conditions i d)) refusal
    → RefusesConditions grouping refusal
condition_refused grouping error.OutOfMemory conditions i d are within refused = tt
condition_refused grouping refusal conditions i d are within refused =
    subst (Any (λ c. RefusesCondition grouping.types (parts c) refusal)) are
    (any_at (λ c. RefusesCondition grouping.types (parts c) refusal) conditions i d within refused)

-- a value that a reader of queries refuses says none
pub said_refused : (text : List ℕ) (d : Data) (why : ReadError) (made : Result QueryTree ReadError)
    → read text ≡ Some d → made ≡ Err why → (made ≡ Err reading.Unsupported → HasUnsupportedQuery d)
    → (made ≡ Err reading.Unsupported ⊎ made ≡ Err reading.Grammar → NoneIs (IsQuery d))
    → made ≢ Err reading.UnknownBuilder → RefusesSaid text (refusal_of why)
said_refused text d reading.Unsupported made is was has none known =
    (d, is, has was, none (inl was))
said_refused text d reading.Grammar made is was has none known = (d, is, none (inr was))
said_refused text d reading.UnknownBuilder made is was has none known = absurd (known was)
said_refused text d reading.OutOfMemory made is was has none known = tt
