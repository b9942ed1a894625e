-- A whole request, from what is read of its members.
use Rattle.std.proofs.Common.{◌≡◌, ◌⊎◌, ◌<◌, suc, ℕ, false, List, None, Some, Result, Ok, Err}
use Rattle.std.proofs.Common.{Bool, IfOk, IsErrOf, subst, inl, inr, arith}
use Rattle.serde_json.specs.Data.{Data, Members, depth, members_depth}
use Rattle.serde_json.specs.Find.{as_object}
use Rattle.agg_request.specs.reading.Builders.{left_behind, left_by_each}
use Rattle.agg_request.specs.json_values.Reading.{IsReadingWith}
use Rattle.agg_request_tree.specs.Request.{Request}
use Rattle.agg_request.specs.json_values.Unsupported.{HasUnsupportedMember}
use Rattle.agg_request.specs.reading.RequestJson.{HasUnknownBuilder}
use Rattle.agg_request.specs.reading.RequestJson.{IsAggregation, IsNoRequest}
use Rattle.agg_request.specs.reading.Unsupported.{HasUnsupportedAggregation, HasUnsupportedRequest}
use Rattle.agg_request.specs.reading.RequestJson.{IsNoRequestAtAll, IsRequestJson, IsRequestOf}
use Rattle.agg_request.specs.reading.RequestJson.{IsRequestWithin}
use Rattle.agg_request.specs.declared.json_values.read_error.ReadError.{ReadError}
use Rattle.agg_request.specs.declared.json_values.read_error.ReadError.TheVariants.{Unsupported}
use Rattle.agg_request.specs.declared.json_values.read_error.ReadError.TheVariants.{Grammar}
use Rattle.agg_request.specs.declared.json_values.read_error.ReadError.TheVariants.{UnknownBuilder}
use Rattle.agg_request.proofs.lemmas.reading.AggregationReadings.{object_lower}
use Rattle.agg_request.proofs.lemmas.reading.PoolMembers.{leaves_some}
use Rattle.agg_request.proofs.lemmas.reading.PoolReadings.{read_with}

module _ {B : Type 0} (pool : List B) (name_of : B → List ℕ) (d : Data) where
  -- what a reading of a request answers
  abbrev pub IsRequestReading : Result (Request B) ReadError → Type 0
  IsRequestReading result =
      IsReadingWith (λ lenient. IsRequestOf lenient name_of d) (HasUnsupportedRequest d)
      (HasUnknownBuilder name_of d) pool result

  -- a request whose builders are unknown is none
  no_unknown : (request : Request B) → HasUnknownBuilder name_of d pool
      → ¬ (IsRequestJson name_of d pool request)
  no_unknown request (all, is, none) (others, e, h) =
      let same : others ≡ all = cc in
      leaves_some (left_behind name_of (suc (depth d)))
      (λ lenient. IsAggregation lenient name_of (suc (depth d)))
      (HasUnsupportedAggregation (suc (depth d))) all pool request
      (subst (λ ms. IsRequestWithin false name_of (suc (depth d)) ms pool request) same h) none

  module _ (all : Members) (is : as_object d ≡ Some all) (result : Result (Request B) ReadError)
      (each : (n : ℕ) → members_depth all < n
      → IsReadingWith (λ lenient. IsRequestWithin lenient name_of n all)
      (HasUnsupportedMember (HasUnsupportedAggregation n) all)
      (λ some. left_by_each (left_behind name_of n) all some ≡ None) pool result) where
    -- the members of a request are those of the object
    members_are : (lenient : Bool) (some : List B) (request : Request B)
        → IsRequestOf lenient name_of d some request
        → IsRequestWithin lenient name_of (suc (depth d)) all some request
    members_are lenient some request (others, e, h) =
        let same : others ≡ all = cc in
        subst (λ ms. IsRequestWithin lenient name_of (suc (depth d)) ms some request) same h

    -- what is read of the members is read of the object
    told : IsRequestReading result
    told =
        read_with (λ lenient. IsRequestWithin lenient name_of (suc (depth d)) all)
        (HasUnsupportedMember (HasUnsupportedAggregation (suc (depth d))) all)
        (λ some. left_by_each (left_behind name_of (suc (depth d))) all some ≡ None)
        (λ lenient. IsRequestOf lenient name_of d) (HasUnsupportedRequest d)
        (HasUnknownBuilder name_of d) pool result
        (each (suc (depth d)) (omega (arith, object_lower d all is)))
        (λ request h. (all, is, h)) (λ h. (all, is, h)) members_are (λ none. (all, is, none))

    -- a request that is read
    pub read_ok : IfOk result (IsRequestJson name_of d pool)
    read_ok = of result told
      where
        of : (r : Result (Request B) ReadError) → IsRequestReading r
            → IfOk r (IsRequestJson name_of d pool)
        of (Ok request) h = h
        of (Err error) h = tt

    -- it isn't supported
    pub unsupported : IsErrOf result Unsupported → HasUnsupportedRequest d
    unsupported e = (subst IsRequestReading e told).0

    -- it is outside the grammar
    pub outside : IsErrOf result Grammar → IsNoRequestAtAll name_of d
    outside e lenient some request = (subst IsRequestReading e told) lenient (some, request)

    -- a builder isn't there
    pub unknown : IsErrOf result UnknownBuilder → HasUnknownBuilder name_of d pool
    unknown e = subst IsRequestReading e told

    -- where it is refused, it is no request
    pub no_request : IsErrOf result Unsupported ⊎ IsErrOf result Grammar
        ⊎ IsErrOf result UnknownBuilder → IsNoRequest name_of d pool
    no_request (inl e) = λ request. (subst IsRequestReading e told).1 (pool, request)
    no_request (inr (inl e)) = outside e false pool
    no_request (inr (inr e)) = λ request. no_unknown request (unknown e)
