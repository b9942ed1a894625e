-- Requests as they are written.
use Rattle.std.proofs.Common.{◌≡◌, ◌<◌, ◌∷◌, ◌++◌, [], ℕ, zero, suc, List, true, false, codes}
use Rattle.std.proofs.Common.{Option, None, Some, option_and_then, inl, inr, refl, sym, subst, ap}
use Rattle.std.proofs.Common.{◌∙◌, append_assoc, arith, map}
use Rattle.serde_json.specs.Data.{Data, object, Members, no_members, member, depth, members_depth}
use Rattle.serde_json.specs.Find.{as_object, get}
use Rattle.agg_request.specs.reading.Builders.{left_behind, left_by_each, left_by_object}
use Rattle.agg_request.specs.reading.Builders.{left_by_own}
use Rattle.std.specs.Map.{keys_of}
use Rattle.agg_request.specs.json_values.Json.{EachNamedIs, names_in, only_other}
use Rattle.agg_request.specs.reading.RequestJson.{AreAggregations, IsAggregation, IsBelow}
use Rattle.agg_request.specs.reading.RequestJson.{IsRequestJson}
use Rattle.agg_request.specs.reading.Kinds.{may_hold}
use Rattle.agg_request_tree.specs.Request.{Request, agg_of, with_builders_in, below_of, builders_of}
use Rattle.agg_request_tree.specs.Request.{listed_in, own_builder, with_builders}
use Rattle.agg_request.specs.Written.{may_be_written}
use Rattle.agg_request.specs.ReadBack.{IsWritten, ReadsBack, SaysAggregation, SaysItself}
use Rattle.agg_request.specs.ReadBack.{SaysKind}
use Rattle.agg_request.specs.WrittenJson.{aggregation_step, data_of_aggregation, data_of_kind}
use Rattle.agg_request.specs.reading.RequestJson.{kind_word}
use Rattle.agg_request.specs.WrittenJson.{data_of_request, members_of, with_below}
use Rattle.agg_request_tree.specs.declared.aggregation.Aggregation.{Aggregation}
use Rattle.agg_request_tree.specs.declared.aggregation.Aggregation.TheFolds as folds
use folds.{fold_out-Aggregation}
use Rattle.agg_request_tree.specs.declared.aggregation.AggregationVariants as variants
use variants.{AggregationVariants}
use variants.TheVariants.{Filter, Composite, Count, Max, Min, Sum}
use Rattle.agg_request.proofs.lemmas.json_values.FilterLists.{get_lower}
use Rattle.agg_request_tree.proofs.RequestTrees.{listed-out}
use Rattle.agg_request.proofs.OtherBuilders.{alike-holds, alike-says, alike-word, same-below}
use Rattle.agg_request.proofs.OtherBuilders.{same-kind}
use Rattle.agg_request.proofs.Writable.{may-hold, names-are}
use Rattle.agg_request.proofs.WrittenMembers.{members-say, members-written}

-- ---- where the parts of an aggregation stand

-- what stands at the aggregations below, nothing where there are none
abbrev stands : Members → Option Data
stands no_members = None
stands (member name d below) = Some (object (member name d below))

-- what is written of a kind's body and those below it
abbrev written : List ℕ → Data → Members → Data
written kind body below = object (with_below below (member kind body no_members))

-- the parts of a value stand there
pub record HasParts (kind : List ℕ) (body : Data) (below : Members) (d : Data) : Type 0 where
  pub own : only_other (codes "aggs") d ≡ Some (kind, body)
  pub beneath : get (codes "aggs") d ≡ stands below

-- the parts of what is written stand there
has-parts : {B : Type 0} (agg : AggregationVariants B) (body : Data) (below : Members)
    → HasParts (kind_word agg) body below (written (kind_word agg) body below)
has-parts (Filter f) body no_members = record { own = refl; beneath = refl }
has-parts (Filter f) body (member name d below) = record { own = refl; beneath = refl }
has-parts (Composite c) body no_members = record { own = refl; beneath = refl }
has-parts (Composite c) body (member name d below) = record { own = refl; beneath = refl }
has-parts (Count m) body no_members = record { own = refl; beneath = refl }
has-parts (Count m) body (member name d below) = record { own = refl; beneath = refl }
has-parts (Max m) body no_members = record { own = refl; beneath = refl }
has-parts (Max m) body (member name d below) = record { own = refl; beneath = refl }
has-parts (Min m) body no_members = record { own = refl; beneath = refl }
has-parts (Min m) body (member name d below) = record { own = refl; beneath = refl }
has-parts (Sum m) body no_members = record { own = refl; beneath = refl }
has-parts (Sum m) body (member name d below) = record { own = refl; beneath = refl }

-- ---- members

-- these members say the request within so many levels, with its own builders first, and leave the
-- rest
pub record SayWithin {B : Type 0} (name_of : B → List ℕ) (levels : ℕ) (ms : Members)
    (request : Request B) (rest : List B) : Type 0 where
  pub are : AreAggregations false (left_behind name_of levels) (IsAggregation false name_of levels)
      ms (builders_of request ++ rest) request
  pub left : left_by_each (left_behind name_of levels) ms (builders_of request ++ rest)
      ≡ Some rest

-- members that say aggregations say the request
say-within : {B : Type 0} (name_of : B → List ℕ) (levels : ℕ) (ms : Members)
    (request : Request B) (rest : List B) → EachNamedIs (SaysItself name_of) ms request
    → members_depth ms < levels → SayWithin name_of levels ms request rest
say-within name_of levels no_members [] rest each under = record { are = tt; left = refl }
say-within name_of levels no_members (x ∷ xs) rest each under = absurd each
say-within name_of levels (member name d ms) [] rest each under = absurd each
say-within {B = B} name_of levels (member name d ms) (x ∷ xs) rest each under =
    let mid = builders_of xs ++ rest in
    let later = say-within name_of levels ms xs rest each.2 (omega arith) in
    let told = each.1 levels (omega arith) mid in
    let same : (listed_in own_builder x.1 ++ builders_of xs) ++ rest
    ≡ listed_in own_builder x.1 ++ mid =
    append_assoc (listed_in own_builder x.1) (builders_of xs) rest in
    let left = left_behind name_of levels in
    record {
      are = (
        each.0,
        subst (λ (pool : List B). IsAggregation false name_of levels d pool x.1) (sym same) told.0,
        (mid, inl (ap (left d) same ∙ told.1), later.are),
      );
      left = ap (λ (pool : List B). option_and_then (left_by_each left ms) (left d pool)) same
          ∙ ap (option_and_then (left_by_each left ms)) told.1 ∙ later.left;
    }

-- a value says the request that its members say, with its own builders first
says-own : {B : Type 0} (name_of : B → List ℕ) (d : Data) (ms : Members) (request : Request B)
    (rest : List B) → d ≡ object ms → EachNamedIs (SaysItself name_of) ms request
    → IsRequestJson name_of d (builders_of request ++ rest) request
says-own name_of d ms request rest is each =
    let said = say-within name_of (suc (suc (members_depth ms))) ms request rest each
    (omega arith) in
    subst (λ e. IsRequestJson name_of e (builders_of request ++ rest) request) (sym is)
    (ms, refl, said.are)

-- ---- an aggregation

-- what stands at those below an aggregation says them, and leaves the rest
record SaysBelow {B : Type 0} (name_of : B → List ℕ) (levels : ℕ) (kind : List ℕ)
    (o : Option Data) (request : Request B) (rest : List B) : Type 0 where
  is : IsBelow false (left_behind name_of levels) (IsAggregation false name_of levels) kind o
      (builders_of request ++ rest) request
  left : left_by_object (left_behind name_of levels) (option_and_then as_object o)
      (builders_of request ++ rest) ≡ Some rest

-- what is written of those below an aggregation says them
says-below : {B : Type 0} (name_of : B → List ℕ) (levels : ℕ) (kind : List ℕ) (o : Option Data)
    (below : Members) (request : Request B) (rest : List B) → o ≡ stands below
    → EachNamedIs (SaysItself name_of) below request → may_hold kind (names_in below) ≡ true
    → ((d : Data) → o ≡ Some d → depth d < levels) → SaysBelow name_of levels kind o request rest
says-below name_of levels kind None no_members [] rest is each free under =
    record { is = refl; left = refl }
says-below name_of levels kind o no_members (x ∷ xs) rest is each free under = absurd each
says-below name_of levels kind None (member name d below) request rest is each free under =
    absurd (cc)
says-below name_of levels kind (Some e) no_members [] rest is each free under = absurd (cc)
says-below name_of levels kind (Some e) (member name d below) request rest is each free under =
    let all = member name d below in
    let same : e ≡ object all = cc in
    let found : as_object e ≡ Some all = ap as_object same in
    let lower : depth e < levels = under e refl in
    let fits : members_depth all < levels = omega (arith, ap depth same) in
    let said = say-within name_of levels all request rest each fits in
    record {
      is = (all, found, inr free, said.are);
      left = ap (λ ms. left_by_object (left_behind name_of levels) ms (builders_of request ++ rest))
          found ∙ said.left;
    }

-- what is written of an aggregation that may be written says it
says-itself : {B : Type 0} (name_of : B → List ℕ) (d body : Data) (below : Members)
    (a : Aggregation B) → d ≡ written (kind_word (agg_of a)) body below
    → SaysKind name_of body (agg_of a)
    → EachNamedIs (SaysItself name_of) below (below_of a)
    → may_hold (kind_word (agg_of a)) (keys_of (below_of a)) ≡ true
    → SaysItself name_of d a
says-itself {B = B} name_of d body below a is told each may = says
  where
    kind : List ℕ
    kind = kind_word (agg_of a)

    parts : HasParts kind body below d
    parts = subst (HasParts kind body below) (sym is) (has-parts (agg_of a) body below)

    says : SaysItself name_of d a
    says zero under rest = absurd (omega arith)
    says (suc levels) under rest =
        let mid = builders_of (below_of a) ++ rest in
        let same : listed_in own_builder a ++ rest ≡ own_builder (agg_of a) ++ mid =
        ap (λ l. l ++ rest) (listed-out own_builder a)
        ∙ append_assoc (own_builder (agg_of a)) (builders_of (below_of a)) rest in
        let own = told mid in
        let beneath = says-below name_of levels kind (get (codes "aggs") d) below (below_of a) rest
        parts.beneath each
        (ap (may_hold kind) (names-are (SaysItself name_of) below (below_of a) each) ∙ may)
        (λ e found. omega (arith, under, get_lower (codes "aggs") d e found)) in
        let left = left_by_object (left_behind name_of levels)
        (option_and_then as_object (get (codes "aggs") d)) in
        subst (λ (pool : List B). IsAggregation false name_of (suc levels) d pool a
        × (left_behind name_of (suc levels) d pool ≡ Some rest)) (sym same) (
          (kind, body, parts.own, inl own.0, (mid, inl own.1, beneath.is)),
          ap (λ o. option_and_then left (left_by_own name_of o (own_builder (agg_of a) ++ mid)))
              parts.own
              ∙ ap (option_and_then left) own.1 ∙ beneath.left,
        )

-- ---- builders of the same names

-- members that say aggregations say those that are the same but for their builders
each-alike : {B : Type 0} (name_of : B → List ℕ) (ms : Members) (request other : Request B)
    → EachNamedIs (SaysAggregation name_of) ms request
    → with_builders name_of other ≡ with_builders name_of request
    → EachNamedIs (SaysItself name_of) ms other
each-alike name_of no_members [] [] each same = tt
each-alike name_of no_members [] (y ∷ other) each same = absurd (cc)
each-alike name_of no_members (x ∷ request) other each same = absurd each
each-alike name_of (member name d ms) [] other each same = absurd each
each-alike name_of (member name d ms) (x ∷ request) [] each same = absurd (cc)
each-alike name_of (member name d ms) (x ∷ request) (y ∷ other) each same =
    let first : ◌≡◌ {A = List ℕ × Aggregation (List ℕ)} (y.0, with_builders_in name_of y.1)
    (x.0, with_builders_in name_of x.1) = cc in
    let later : with_builders name_of other ≡ with_builders name_of request = cc in (
      ap (λ e. e.0) first ∙ each.0,
      each.1 y.1 (ap (λ e. e.1) first),
      each-alike name_of ms request other each.2 later,
    )

-- what is written of an aggregation says each that is the same but for its builders
says-aggregation : {B : Type 0} (name_of : B → List ℕ) (d body : Data) (below : Members)
    (a : Aggregation B) → d ≡ written (kind_word (agg_of a)) body below
    → SaysKind name_of body (agg_of a)
    → EachNamedIs (SaysAggregation name_of) below (below_of a) → may_be_written a ≡ true
    → SaysAggregation name_of d a
says-aggregation name_of d body below a is told each may other same =
    let kind = same-kind name_of a other same in
    let beneath = same-below name_of a other same in
    let word = sym (alike-word name_of (agg_of a) (agg_of other) kind) in
    says-itself name_of d body below other (is ∙ ap (λ w. written w body below) word)
    (alike-says name_of body (agg_of a) (agg_of other) kind told)
    (each-alike name_of below (below_of a) (below_of other) each beneath)
    (alike-holds name_of (agg_of a) (agg_of other) (below_of a) (below_of other) kind beneath
    (may-hold a may))

-- ---- what is written

module _ {B : Type 0} (name_of : B → List ℕ) where
  -- what is written of aggregations that are written already
  members-map : (request : Request B)
      → members_of (λ d. d) (map {B = List ℕ × Data} (λ a. (a.0, data_of_aggregation name_of a.1))
      request) ≡ members_of (data_of_aggregation name_of) request
  members-map [] = refl
  members-map (a ∷ request) = rw (members-map request) refl

  -- what is written of an aggregation, by its parts
  data-out : (a : Aggregation B) → data_of_aggregation name_of a
      ≡ written (kind_word (agg_of a)) (data_of_kind name_of (agg_of a))
      (members_of (data_of_aggregation name_of) (below_of a))
  data-out a =
      fold_out-Aggregation B Data (aggregation_step name_of) a
      ∙ ap (λ below. written (kind_word (agg_of a)) (data_of_kind name_of (agg_of a)) below)
      (members-map (below_of a))

  -- aggregations as they are written
  abbrev Written : Data → Aggregation B → Type 0
  Written = IsWritten (data_of_aggregation name_of) (SaysAggregation name_of)

  -- a kind's body with those below it is what is written of the aggregation, and says it
  pub is-aggregation : (d body : Data) (below : Members) (a : Aggregation B)
      → d ≡ written (kind_word (agg_of a)) body below
      → IsWritten (data_of_kind name_of) (SaysKind name_of) body (agg_of a)
      → EachNamedIs Written below (below_of a) → may_be_written a ≡ true → Written d a
  is-aggregation d body below a is told each may = (
    is ∙ ap (λ e. written (kind_word (agg_of a)) e below) told.0
        ∙ ap (λ ms. written (kind_word (agg_of a)) (data_of_kind name_of (agg_of a)) ms)
        (members-written (data_of_aggregation name_of) (SaysAggregation name_of) below
        (below_of a) each)
        ∙ sym (data-out a),
    says-aggregation name_of d body below a is told.1
        (members-say (data_of_aggregation name_of) (SaysAggregation name_of) below (below_of a)
        each) may,
  )

  -- the members that are written of a request are what is written of it
  pub request-written : (d : Data) (ms : Members) (request : Request B) → d ≡ object ms
      → EachNamedIs Written ms request → d ≡ data_of_request name_of request
  request-written d ms request is each =
      is ∙ ap object (members-written (data_of_aggregation name_of) (SaysAggregation name_of) ms
      request each)

  -- what is written of a request says each that is the same but for its builders
  pub request-reads : (d : Data) (ms : Members) (request : Request B) → d ≡ object ms
      → EachNamedIs Written ms request → ReadsBack name_of d request
  request-reads d ms request is each other rest same =
      says-own name_of d ms other rest is (each-alike name_of ms request other
      (members-say (data_of_aggregation name_of) (SaysAggregation name_of) ms request each) same)
