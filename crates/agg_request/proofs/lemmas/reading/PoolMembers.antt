-- Aggregations by name: the members of an object, one by one, each with the builders that those
-- before it leave.
use Rattle.std.proofs.Common.{◌≡◌, ◌≤◌, Bool, false, List, [], ◌∷◌, ◌++◌, Option, None}
use Rattle.std.proofs.Common.{Some, Result, Err, IsErrAnd, String, Global, string_bytes, string_cmp}
use Rattle.std.proofs.Common.{option_and_then, refl, sym, ap, ◌∙◌, subst, append_assoc, append-nil}
use Rattle.std.proofs.Common.{inl, inr, arith}
use Rattle.std.specs.List.Sorted.{IsStrictlySortedBy}
use Rattle.std.specs.Map.{keys_of}
use Rattle.serde_json.specs.Data.{Data, Members, no_members, member, depth, members_depth}
use Rattle.serde_json.specs.View.{view, members_view}
use Rattle.serde_json.specs.declared.value.Value.{Value}
use Rattle.serde_json.proofs.Views.{Entry}
use Rattle.agg_values.specs.Names.{put}
use Rattle.agg_request.specs.reading.Builders.{left_by_each}
use Rattle.agg_request.specs.json_values.Reading.{IsReadingWith}
use Rattle.agg_request_tree.specs.Request.{Request}
use Rattle.agg_request.specs.json_values.Unsupported.{HasUnsupportedMember}
use Rattle.agg_request.specs.reading.RequestJson.{AreAggregations}
use Rattle.agg_request_tree.specs.declared.aggregation.Aggregation.{Aggregation}
use Rattle.agg_request.specs.declared.json_values.read_error.ReadError.{ReadError}
use Rattle.agg_request.proofs.lemmas.json_values.JsonLemmas.{Ascends, Ascends-none, Ascends-more}
use Rattle.agg_request.proofs.lemmas.json_values.JsonLemmas.{put_next}
use Rattle.agg_request.proofs.lemmas.reading.PoolReadings.{passed_with}

-- ---- the names and the depths of the members

-- the names ascend, and no member that is left lies lower than the deepest of all
pub record IsInOrder {B : Type 0} (all : Members) (done : Request B) (rest : List Entry)
    : Type 0 where
  pub ascends : Ascends done rest
  pub lower : members_depth (members_view rest) ≤ members_depth all

-- no member is read yet
pub IsInOrder-none : {B : Type 0} (es : List Entry) (done : Request B) (rest : List Entry)
    → done ≡ [] → rest ≡ es → IsStrictlySortedBy string_cmp (keys_of es)
    → IsInOrder (members_view es) done rest
IsInOrder-none {B = B} es done rest none all sorted =
    subst (λ (r : Request B). IsInOrder (members_view es) r rest) (sym none)
    (subst (λ (some : List Entry). IsInOrder {B = B} (members_view es) [] some) (sym all)
    (record { ascends = Ascends-none es sorted; lower = omega arith }))

module _ {B : Type 0} (all : Members) (done : Request B) (rest : List Entry)
    (name : String Global) (d : Value) (later : List Entry) (h : IsInOrder all done rest)
    (e : rest ≡ (name, d) ∷ later) where
  -- the members that are left, told by the first of them, are in order
  next_in_order : IsInOrder all done ((name, d) ∷ later)
  next_in_order = subst (λ (some : List Entry). IsInOrder all done some) e h

  -- the next member lies no lower than the deepest
  pub next_lower : depth (view d) ≤ members_depth all
  next_lower = let low = next_in_order.lower in omega (arith, low)

  -- what is put under the next name goes last
  pub put_last : (new : Request B) (a : Aggregation B) → new ≡ put (string_bytes name) a done
      → new ≡ done ++ (string_bytes name, a) ∷ []
  put_last new a put_is = put_is ∙ put_next done name d later a next_in_order.ascends

  -- one more member is read
  pub IsInOrder-more : (new : Request B) (a : Aggregation B)
      → new ≡ put (string_bytes name) a done → IsInOrder all new later
  IsInOrder-more new a put_is =
      let low = next_in_order.lower in
      record {
        ascends = subst (λ (r : Request B). Ascends r later) (sym (put_last new a put_is))
            (Ascends-more done name d later a next_in_order.ascends);
        lower = omega (arith, low);
      }

-- ---- what is read of the members

module _ {B : Type 0} (left : Data → List B → Option (List B))
    (Is : Bool → Data → List B → Aggregation B → Type 0) (Has : Data → Type 0) where
  -- the members before those that are to come are these aggregations, and leave such builders
  pub record IsPartRead (all : Members) (pool : List B) (done : Request B) (now : List B)
      (rest : List Entry) : Type 0 where
    pub whole : (more : Request B)
        → AreAggregations false left (Is false) (members_view rest) now more
        → AreAggregations false left (Is false) all pool (done ++ more)
    pub part : (lenient : Bool) (some : List B) (request : Request B)
        → AreAggregations lenient left (Is lenient) all some request
        → (mid : List B) × (more : Request B)
        × AreAggregations lenient left (Is lenient) (members_view rest) mid more
    pub up : HasUnsupportedMember Has (members_view rest) → HasUnsupportedMember Has all
    pub onward : left_by_each left all pool ≡ left_by_each left (members_view rest) now

  -- no member is read yet
  pub IsPartRead-none : (es : List Entry) (pool : List B) (done : Request B) (rest : List Entry)
      → done ≡ [] → rest ≡ es → IsPartRead (members_view es) pool done pool rest
  IsPartRead-none es pool done rest none all =
      subst (λ (r : Request B). IsPartRead (members_view es) pool r pool rest) (sym none)
      (subst (λ (some : List Entry). IsPartRead (members_view es) pool [] pool some) (sym all)
      (record {
        whole = λ more h. h;
        part = λ lenient some request h. (some, request, h);
        up = λ h. h;
        onward = refl;
      }))

  -- the aggregation of the first member
  first_of : (lenient : Bool) (name : String Global) (d : Value) (later : List Entry) (mid : List B)
      (more : Request B)
      → AreAggregations lenient left (Is lenient) (members_view ((name, d) ∷ later)) mid more
      → (some : List B) × (a : Aggregation B) × Is lenient (view d) some a
  first_of lenient name d later mid [] h = absurd h
  first_of lenient name d later mid (x ∷ more) h = (mid, x.1, h.1)

  -- the aggregations of the others
  others_of : (lenient : Bool) (name : String Global) (d : Value) (later : List Entry)
      (mid : List B) (more : Request B)
      → AreAggregations lenient left (Is lenient) (members_view ((name, d) ∷ later)) mid more
      → (next : List B) × (after : Request B)
      × AreAggregations lenient left (Is lenient) (members_view later) next after
  others_of lenient name d later mid [] h = absurd h
  others_of lenient name d later mid (x ∷ more) h = (h.2.0, more, h.2.2)

  module _ (all : Members) (pool : List B) (done : Request B) (now : List B) (rest : List Entry)
      (name : String Global) (d : Value) (later : List Entry)
      (h : IsPartRead all pool done now rest) (e : rest ≡ (name, d) ∷ later) where
    -- the members that are left, told by the first of them, are still to be read
    next_read : IsPartRead all pool done now ((name, d) ∷ later)
    next_read = subst (λ (some : List Entry). IsPartRead all pool done now some) e h

    -- one more member is read
    pub IsPartRead-more : (new : Request B) (next : List B) (a : Aggregation B)
        → Is false (view d) now a → left (view d) now ≡ Some next
        → new ≡ done ++ (string_bytes name, a) ∷ [] → IsPartRead all pool new next later
    IsPartRead-more new next a is leaves last =
        let here = next_read in
        record {
          whole = λ more after.
              subst (AreAggregations false left (Is false) all pool)
              (sym (append_assoc done ((string_bytes name, a) ∷ []) more)
              ∙ (λ i. sym last i ++ more))
              (here.whole ((string_bytes name, a) ∷ more) (refl, is, (next, inl leaves, after)));
          part = λ lenient some request all_are.
              let found = here.part lenient some request all_are in
              others_of lenient name d later found.0 found.1 found.2;
          up = λ some. here.up (inr some);
          onward = here.onward
              ∙ ap (option_and_then (left_by_each left (members_view later))) leaves;
        }

    -- a refused member refuses the object
    pub IsPartRead-refused : (error : ReadError) (result : Result (Request B) ReadError)
        → IsErrAnd result (λ e. e ≡ error)
        → IsReadingWith (λ lenient. Is lenient (view d)) (Has (view d))
        (λ some. left (view d) some ≡ None) now (Err error)
        → IsReadingWith (λ lenient. AreAggregations lenient left (Is lenient) all)
        (HasUnsupportedMember Has all) (λ some. left_by_each left all some ≡ None) pool result
    IsPartRead-refused error result told refusal =
        let here = next_read in
        passed_with (λ lenient. Is lenient (view d)) (Has (view d))
        (λ some. left (view d) some ≡ None)
        (λ lenient. AreAggregations lenient left (Is lenient) all)
        (HasUnsupportedMember Has all) (λ some. left_by_each left all some ≡ None) now pool error
        result told refusal (λ some. here.up (inl some))
        (λ lenient some request all_are.
        let found = here.part lenient some request all_are in
        first_of lenient name d later found.0 found.1 found.2)
        (λ none. here.onward
        ∙ ap (option_and_then (left_by_each left (members_view later))) none)

  module _ (all : Members) (pool : List B) (done : Request B) (now : List B) (rest : List Entry)
      (h : IsPartRead all pool done now rest) (e : rest ≡ []) where
    -- no member is left
    last_read : IsPartRead all pool done now []
    last_read = subst (λ (some : List Entry). IsPartRead all pool done now some) e h

    -- every member is read
    pub IsPartRead-all : AreAggregations false left (Is false) all pool done
    IsPartRead-all =
        subst (AreAggregations false left (Is false) all pool) (append-nil done)
        (last_read.whole [] tt)

    -- these builders are left
    pub IsPartRead-left : left_by_each left all pool ≡ Some now
    IsPartRead-left = last_read.onward

  -- what is read strictly leaves builders
  pub leaves_some : (all : Members) (pool : List B) (request : Request B)
      → AreAggregations false left (Is false) all pool request
      → ¬ (left_by_each left all pool ≡ None)
  leaves_some no_members pool request h none = absurd (cc)
  leaves_some (member name d more) pool [] h none = absurd h
  leaves_some (member name d more) pool (x ∷ request) (e, is, (mid, inr may, after)) none =
      absurd (cc)
  leaves_some (member name d more) pool (x ∷ request) (e, is, (mid, inl leaves, after)) none =
      leaves_some more mid request after
      (sym (ap (option_and_then (left_by_each left more)) leaves) ∙ none)
