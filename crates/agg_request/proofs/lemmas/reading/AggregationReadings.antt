-- An aggregation: what is read of its kind, and of those below it.
use Rattle.std.proofs.Common.{◌≡◌, ◌<◌, ◌≤◌, ◌⊎◌, ℕ, zero, suc, Bool, true, false}
use Rattle.std.proofs.Common.{Option, None, Some, Result, Ok, Err, IsErrAnd, OnOk, codes, refl, sym}
use Rattle.std.proofs.Common.{List, option_and_then, ap, ◌∙◌, subst, inl, inr, arith}
use Rattle.serde_json.specs.Data.{Data, null, boolean, number, string, array, object, Members}
use Rattle.serde_json.specs.Data.{depth, members_depth}
use Rattle.serde_json.specs.Find.{as_object, get}
use Rattle.agg_request.specs.reading.Builders.{left_behind, left_below, left_by_each, left_by_kind}
use Rattle.agg_request.specs.reading.Builders.{left_by_object, left_by_own}
use Rattle.agg_request.specs.json_values.Json.{names_in, only_other}
use Rattle.agg_request.specs.json_values.Unsupported.{HasUnsupportedMember}
use Rattle.agg_request.specs.reading.RequestJson.{IsAggregation, IsBelow}
use Rattle.agg_request.specs.reading.Unsupported.{HasUnsupportedAggregation, HasUnsupportedAsked}
use Rattle.agg_request.specs.reading.Unsupported.{HasUnsupportedBelow}
use Rattle.agg_request.specs.reading.RequestJson.{IsKind, IsRequestWithin}
use Rattle.agg_request.specs.reading.Kinds.{may_hold}
use Rattle.agg_request.specs.json_values.Reading.{IsReadingWith}
use Rattle.agg_request_tree.specs.Request.{Request, agg_of, aggregation_of, below_of}
use Rattle.agg_request_tree.specs.declared.aggregation.Aggregation.{Aggregation}
use Rattle.agg_request_tree.specs.declared.aggregation.Aggregation.TheViews.{out-roll-Aggregation}
use Rattle.agg_request_tree.specs.declared.aggregation.AggregationVariants.{AggregationVariants}
use Rattle.agg_request.specs.declared.json_values.read_error.ReadError.{ReadError}
use Rattle.agg_request.proofs.lemmas.json_values.FilterLists.{get_lower}
use Rattle.agg_request.proofs.lemmas.reading.PoolReadings.{passed_with, read_with}

-- ---- depths

-- members lie lower than their object
pub object_lower : (d : Data) (inner : Members) → as_object d ≡ Some inner
    → members_depth inner < depth d
object_lower null inner h = absurd (cc)
object_lower (boolean b) inner h = absurd (cc)
object_lower (number n) inner h = absurd (cc)
object_lower (string s) inner h = absurd (cc)
object_lower (array ds) inner h = absurd (cc)
object_lower (object some) inner h =
    let same : some ≡ inner = cc in omega (arith, ap members_depth same)

-- ---- an aggregation

-- what an aggregation that is made asks
asks : {B : Type 0} (agg : AggregationVariants B) (below : Request B)
    → agg_of (aggregation_of agg below) ≡ agg
asks {B = B} agg below =
    rw (out-roll-Aggregation B (record { agg = agg; sub_aggregation = below }), agg_of) refl

-- what is below an aggregation that is made
holds : {B : Type 0} (agg : AggregationVariants B) (below : Request B)
    → below_of (aggregation_of agg below) ≡ below
holds {B = B} agg below =
    rw (out-roll-Aggregation B (record { agg = agg; sub_aggregation = below }), below_of) refl

-- what is said of a member
abbrev OfMember : (List ℕ → Data → Type 0) → Option (List ℕ × Data) → Type 0
OfMember P None = ⊥
OfMember P (Some m) = P m.0 m.1

-- what is said of the one member of another name is said of the one that was found
found_same : (P : List ℕ → Data → Type 0) (m : Option (List ℕ × Data)) (k kind : List ℕ)
    (b body : Data) → m ≡ Some (k, b) → m ≡ Some (kind, body) → P k b → P kind body
found_same P m k kind b body e there h = subst (OfMember P) (sym e ∙ there) h

module _ {B : Type 0} (name_of : B → List ℕ) (d : Data) where
  module _ (kind : List ℕ) (body : Data) (there : only_other (codes "aggs") d ≡ Some (kind, body))
    where
      -- what an aggregation takes itself
      own_left : (pool : List B)
          → left_by_own name_of (only_other (codes "aggs") d) pool
          ≡ left_by_kind name_of kind body pool
      own_left pool = ap (λ m. left_by_own name_of m pool) there

      -- it leaves what those below it leave
      behind : (n : ℕ) (pool : List B) (left : Option (List B))
          → left_by_kind name_of kind body pool ≡ left
          → left_behind name_of (suc n) d pool
          ≡ option_and_then (left_below name_of n d) left
      behind n pool left leaves =
          ap (option_and_then (left_below name_of n d)) (own_left pool ∙ leaves)

      -- a refused kind refuses the aggregation
      pub refused_kind : (n : ℕ) (pool : List B) (error : ReadError)
          (result : Result (Aggregation B) ReadError) → depth d < n
          → IsErrAnd result (λ e. e ≡ error)
          → IsReadingWith (λ lenient. IsKind lenient name_of kind body)
          (HasUnsupportedAsked kind body)
          (λ some. left_by_kind name_of kind body some ≡ None) pool (Err error)
          → IsReadingWith (λ lenient. IsAggregation lenient name_of n d)
          (HasUnsupportedAggregation n d) (λ some. left_behind name_of n d some ≡ None) pool result
      refused_kind zero pool error result deep told refusal = absurd (omega (arith, deep))
      refused_kind (suc n) pool error result deep told refusal =
          passed_with (λ lenient. IsKind lenient name_of kind body) (HasUnsupportedAsked kind body)
          (λ some. left_by_kind name_of kind body some ≡ None)
          (λ lenient. IsAggregation lenient name_of (suc n) d) (HasUnsupportedAggregation (suc n) d)
          (λ some. left_behind name_of (suc n) d some ≡ None) pool pool error result told refusal
          (λ h. (kind, body, there, inl h))
          (λ lenient some a h. (
            some,
            agg_of a,
            found_same (λ k b. IsKind lenient name_of k b some (agg_of a))
                (only_other (codes "aggs") d) h.0 kind h.1 body h.2 there h.3,
          ))
          (λ none. behind n pool None none)

      -- what is below is refused, and so the aggregation
      pub refused_below : (n : ℕ) (mid pool : List B) (error : ReadError)
          (result : Result (Aggregation B) ReadError) → depth d < n
          → IsErrAnd result (λ e. e ≡ error)
          → left_by_kind name_of kind body pool ≡ Some mid
          → ((m : ℕ) → depth d ≤ m
          → IsReadingWith (λ lenient. IsBelow lenient (left_behind name_of m)
          (IsAggregation lenient name_of m) kind (get (codes "aggs") d))
          (HasUnsupportedBelow (HasUnsupportedAggregation m) kind (get (codes "aggs") d))
          (λ some. left_below name_of m d some ≡ None) mid (Err error))
          → IsReadingWith (λ lenient. IsAggregation lenient name_of n d)
          (HasUnsupportedAggregation n d) (λ some. left_behind name_of n d some ≡ None) pool result
      refused_below zero mid pool error result deep told leaves refusal =
          absurd (omega (arith, deep))
      refused_below (suc n) mid pool error result deep told leaves refusal =
          passed_with (λ lenient. IsBelow lenient (left_behind name_of n)
          (IsAggregation lenient name_of n) kind (get (codes "aggs") d))
          (HasUnsupportedBelow (HasUnsupportedAggregation n) kind (get (codes "aggs") d))
          (λ some. left_below name_of n d some ≡ None)
          (λ lenient. IsAggregation lenient name_of (suc n) d) (HasUnsupportedAggregation (suc n) d)
          (λ some. left_behind name_of (suc n) d some ≡ None) mid pool error result told
          (refusal n (omega (arith, deep)))
          (λ h. (kind, body, there, inr h))
          (λ lenient some a h. (
            h.4.0,
            below_of a,
            found_same
                (λ k b. IsBelow lenient (left_behind name_of n) (IsAggregation lenient name_of n) k
                (get (codes "aggs") d) h.4.0 (below_of a))
                (only_other (codes "aggs") d) h.0 kind h.1 body h.2 there h.4.2,
          ))
          (λ none. behind n pool (Some mid) leaves ∙ none)

      -- the kind and what is below are an aggregation
      pub read_both : (n : ℕ) (mid pool : List B) (agg : AggregationVariants B) (below : Request B)
          → depth d < n → IsKind false name_of kind body pool agg
          → left_by_kind name_of kind body pool ≡ Some mid
          → ((m : ℕ) → depth d ≤ m → IsBelow false (left_behind name_of m)
          (IsAggregation false name_of m) kind (get (codes "aggs") d) mid below)
          → IsAggregation false name_of n d pool (aggregation_of agg below)
      read_both zero mid pool agg below deep is leaves told = absurd (omega (arith, deep))
      read_both (suc n) mid pool agg below deep is leaves told = (
        kind,
        body,
        there,
        subst (IsKind false name_of kind body pool) (sym (asks agg below)) is,
        (
          mid,
          inl leaves,
          subst (IsBelow false (left_behind name_of n) (IsAggregation false name_of n) kind
              (get (codes "aggs") d) mid) (sym (holds agg below)) (told n (omega (arith, deep))),
        ),
      )

      -- the kind and what is below leave what those below leave
      pub left_by_both : (n : ℕ) (mid pool rest : List B) → depth d < n
          → left_by_kind name_of kind body pool ≡ Some mid
          → ((m : ℕ) → depth d ≤ m → left_below name_of m d mid ≡ Some rest)
          → left_behind name_of n d pool ≡ Some rest
      left_by_both zero mid pool rest deep leaves below = absurd (omega (arith, deep))
      left_by_both (suc n) mid pool rest deep leaves below =
          behind n pool (Some mid) leaves ∙ below n (omega (arith, deep))

-- ---- what is below an aggregation

module _ {B : Type 0} (name_of : B → List ℕ) (kind : List ℕ) (d : Data) where
  module _ (e : Data) (there : get (codes "aggs") d ≡ Some e) where
    module _ (members : Members) (inner : as_object e ≡ Some members) where
      -- what is below is what is read of the members
      members_below : (lenient : Bool) (n : ℕ) (some : List B) (below : Request B)
          → IsBelow lenient (left_behind name_of n) (IsAggregation lenient name_of n) kind
          (get (codes "aggs") d) some below
          → ((lenient ≡ true) ⊎ (may_hold kind (names_in members) ≡ true))
          × IsRequestWithin lenient name_of n members some below
      members_below lenient n some below h =
          let found = subst (λ o. IsBelow lenient (left_behind name_of n)
          (IsAggregation lenient name_of n) kind o some below) there h in
          let same : found.0 ≡ members = (let is = found.1 in cc) in
          subst (λ ms. ((lenient ≡ true) ⊎ (may_hold kind (names_in ms) ≡ true))
          × IsRequestWithin lenient name_of n ms some below) same (found.2, found.3)

      -- the object that stands there
      object_there : option_and_then as_object (get (codes "aggs") d) ≡ Some members
      object_there = ap (option_and_then as_object) there ∙ inner

      -- what its members leave is left
      left_by_members : (n : ℕ) (some : List B)
          → left_below name_of n d some ≡ left_by_each (left_behind name_of n) members some
      left_by_members n some =
          ap (λ o. left_by_object (left_behind name_of n) o some) object_there

      -- what is read of the members is read
      pub read_there : may_hold kind (names_in members) ≡ true → (n : ℕ) (pool : List B)
          (result : Result (Request B) ReadError) → depth d ≤ n
          → ((m : ℕ) → members_depth members < m
          → IsReadingWith (λ lenient. IsRequestWithin lenient name_of m members)
          (HasUnsupportedMember (HasUnsupportedAggregation m) members)
          (λ some. left_by_each (left_behind name_of m) members some ≡ None) pool result)
          → IsReadingWith (λ lenient. IsBelow lenient (left_behind name_of n)
          (IsAggregation lenient name_of n) kind (get (codes "aggs") d))
          (HasUnsupportedBelow (HasUnsupportedAggregation n) kind (get (codes "aggs") d))
          (λ some. left_below name_of n d some ≡ None) pool result
      read_there good n pool result deep told =
          read_with (λ lenient. IsRequestWithin lenient name_of n members)
          (HasUnsupportedMember (HasUnsupportedAggregation n) members)
          (λ some. left_by_each (left_behind name_of n) members some ≡ None)
          (λ lenient. IsBelow lenient (left_behind name_of n) (IsAggregation lenient name_of n) kind
          (get (codes "aggs") d))
          (HasUnsupportedBelow (HasUnsupportedAggregation n) kind (get (codes "aggs") d))
          (λ some. left_below name_of n d some ≡ None) pool result
          (told n (omega (
            arith,
            deep,
            get_lower (codes "aggs") d e there,
            object_lower e members inner,
          )))
          (λ below h. subst (λ o. IsBelow false (left_behind name_of n)
          (IsAggregation false name_of n) kind o pool below) (sym there)
          (members, inner, inr good, h))
          (λ h. (members, object_there, inr h))
          (λ lenient some below h. (members_below lenient n some below h).1)
          (λ none. left_by_members n pool ∙ none)

      -- what the members leave is left
      pub left_there : (n : ℕ) (pool rest : List B) (result : Result (Request B) ReadError)
          → depth d ≤ n
          → ((m : ℕ) → members_depth members < m
          → OnOk result (left_by_each (left_behind name_of m) members pool ≡ Some rest))
          → OnOk result (left_below name_of n d pool ≡ Some rest)
      left_there n pool rest (Ok below) deep told =
          left_by_members n pool ∙ told n (omega (
            arith,
            deep,
            get_lower (codes "aggs") d e there,
            object_lower e members inner,
          ))
      left_there n pool rest (Err error) deep told = tt
