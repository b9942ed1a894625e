-- The kinds of filters: a body is read by its kind.
use Rattle.std.proofs.Common.{◌≡◌, ◌<◌, Bool, true, false, cond, List, [], ℕ, zero, suc, Option}
use Rattle.std.proofs.Common.{Some}
use Rattle.std.proofs.Common.{None, Result, codes, refl, sym, ap, ◌∙◌, subst, arith, inl, inr, ◌⊎◌}
use Rattle.std.proofs.Common.{IsErrOf}
use Rattle.std.specs.Str.{bytes_eq}
use Rattle.serde_json.specs.Data.{Data, null, boolean, number, string, array, object, member}
use Rattle.serde_json.specs.Data.{no_members, depth}
use Rattle.serde_json.specs.Find.{as_str}
use Rattle.agg_segment.specs.declared.query.QueryTree.{QueryTree}
use Rattle.agg_segment.specs.declared.query.QueryTree.TheVariants.{All, Empty}
use Rattle.agg_request.specs.json_values.Json.{only_member}
use Rattle.agg_request.specs.json_values.Query.{IsBoolean, IsExists, IsFilter}
use Rattle.agg_request.specs.json_values.Unsupported.{HasUnsupportedFilter, HasUnsupportedAt}
use Rattle.agg_request.specs.json_values.Unsupported.{HasUnsupportedBody, HasUnsupportedBound}
use Rattle.agg_request.specs.json_values.Unsupported.{HasUnsupportedIn}
use Rattle.agg_request.specs.json_values.Query.{IsFilterOf, IsNoQueryAtAll, IsOfKind, IsPlain}
use Rattle.agg_request.specs.json_values.Query.{IsQuery, IsRange, IsTerm}
use Rattle.agg_request.specs.json_values.Reading.{IsReading}
use Rattle.agg_request.specs.declared.json_values.read_error.ReadError.{ReadError}
use Rattle.agg_request.specs.declared.json_values.read_error.ReadError.TheVariants.{Unsupported}
use Rattle.agg_request.specs.declared.json_values.read_error.ReadError.TheVariants.{Grammar}
use Rattle.agg_request.proofs.lemmas.json_values.Readings.{read_as}

-- ---- kinds

-- the kinds of filters
pub data FilterKind : Type 0 where
  all : FilterKind
  empty : FilterKind
  term : FilterKind
  range : FilterKind
  exists : FilterKind
  bool : FilterKind

-- the name of a kind
abbrev pub word_of : FilterKind → List ℕ
word_of all = codes "all"
word_of empty = codes "empty"
word_of term = codes "term"
word_of range = codes "range"
word_of exists = codes "exists"
word_of bool = codes "bool"

-- a body of a kind stands for a query
abbrev pub IsBody : Bool → (Data → QueryTree → Type 0) → FilterKind → Data → QueryTree → Type 0
IsBody lenient IsInner all = IsPlain All
IsBody lenient IsInner empty = IsPlain Empty
IsBody lenient IsInner term = IsTerm lenient
IsBody lenient IsInner range = IsRange lenient
IsBody lenient IsInner exists = IsExists
IsBody lenient IsInner bool = IsBoolean IsInner

-- a text of the type that isn't supported stands in a body of a kind
abbrev pub HasUnsupportedValue : (Data → Type 0) → FilterKind → Data → Type 0
HasUnsupportedValue Has term body = HasUnsupportedAt (codes "value") body
HasUnsupportedValue Has range body = HasUnsupportedBound body
HasUnsupportedValue Has bool body = HasUnsupportedBody Has body
HasUnsupportedValue Has all body = ⊥
HasUnsupportedValue Has empty body = ⊥
HasUnsupportedValue Has exists body = ⊥

-- the kind of a name
abbrev kind_named : List ℕ → FilterKind
kind_named name =
    cond (bytes_eq name (codes "all")) all (cond (bytes_eq name (codes "empty")) empty
    (cond (bytes_eq name (codes "term")) term (cond (bytes_eq name (codes "range")) range
    (cond (bytes_eq name (codes "exists")) exists bool))))

named-word : (kind : FilterKind) → kind_named (word_of kind) ≡ kind
named-word all = refl
named-word empty = refl
named-word term = refl
named-word range = refl
named-word exists = refl
named-word bool = refl

module _ (name : List ℕ) (body : Data) where
  -- a body by the name of its kind is a body of some kind of that name
  some_kind : (lenient : Bool) (IsInner : Data → QueryTree → Type 0) (tree : QueryTree)
      → IsOfKind lenient IsInner name body tree
      → (kind : FilterKind) × (name ≡ word_of kind) × IsBody lenient IsInner kind body tree
  some_kind lenient IsInner tree (inl (is, h)) = (all, is, h)
  some_kind lenient IsInner tree (inr (inl (is, h))) = (empty, is, h)
  some_kind lenient IsInner tree (inr (inr (inl (is, h)))) = (term, is, h)
  some_kind lenient IsInner tree (inr (inr (inr (inl (is, h))))) = (range, is, h)
  some_kind lenient IsInner tree (inr (inr (inr (inr (inl (is, h)))))) = (exists, is, h)
  some_kind lenient IsInner tree (inr (inr (inr (inr (inr (is, h)))))) = (bool, is, h)

  -- a body by the name of its kind is a body of no other kind
  only_kind : (lenient : Bool) (IsInner : Data → QueryTree → Type 0) (tree : QueryTree)
      → (kind : FilterKind) → name ≡ word_of kind → IsOfKind lenient IsInner name body tree
      → IsBody lenient IsInner kind body tree
  only_kind lenient IsInner tree kind is h =
      let some = some_kind lenient IsInner tree h in
      let same : some.0 ≡ kind =
      sym (named-word some.0) ∙ ap kind_named (sym some.1 ∙ is) ∙ named-word kind in
      subst (λ k. IsBody lenient IsInner k body tree) same some.2

  -- a body of a kind is one by the kind's name
  by_name : (lenient : Bool) (IsInner : Data → QueryTree → Type 0) (tree : QueryTree)
      → (kind : FilterKind) → name ≡ word_of kind → IsBody lenient IsInner kind body tree
      → IsOfKind lenient IsInner name body tree
  by_name lenient IsInner tree all is h = inl (is, h)
  by_name lenient IsInner tree empty is h = inr (inl (is, h))
  by_name lenient IsInner tree term is h = inr (inr (inl (is, h)))
  by_name lenient IsInner tree range is h = inr (inr (inr (inl (is, h))))
  by_name lenient IsInner tree exists is h = inr (inr (inr (inr (inl (is, h)))))
  by_name lenient IsInner tree bool is h = inr (inr (inr (inr (inr (is, h)))))

  unsupported_by_name : (Has : Data → Type 0) (kind : FilterKind) → name ≡ word_of kind
      → HasUnsupportedValue Has kind body → HasUnsupportedIn Has name body
  unsupported_by_name Has term is h = inl (is, h)
  unsupported_by_name Has range is h = inr (inl (is, h))
  unsupported_by_name Has bool is h = inr (inr (is, h))
  unsupported_by_name Has all is h = absurd h
  unsupported_by_name Has empty is h = absurd h
  unsupported_by_name Has exists is h = absurd h

  -- what is read of a body of a kind is read of it by the kind's name
  pub read_of_kind : (kind : FilterKind) (n : ℕ) (result : Result QueryTree ReadError)
      → name ≡ word_of kind
      → IsReading (λ lenient. IsBody lenient (IsFilter lenient n) kind body)
      (HasUnsupportedValue (HasUnsupportedFilter n) kind body) result
      → IsReading (λ lenient. IsOfKind lenient (IsFilter lenient n) name body)
      (HasUnsupportedIn (HasUnsupportedFilter n) name body) result
  read_of_kind kind n result is told =
      read_as (λ lenient. IsBody lenient (IsFilter lenient n) kind body)
      (HasUnsupportedValue (HasUnsupportedFilter n) kind body)
      (λ lenient. IsOfKind lenient (IsFilter lenient n) name body)
      (HasUnsupportedIn (HasUnsupportedFilter n) name body) result told
      (λ tree. by_name false (IsFilter false n) tree kind is)
      (unsupported_by_name (HasUnsupportedFilter n) kind is)
      (λ lenient tree. only_kind lenient (IsFilter lenient n) tree kind is)

-- ---- a filter by its one member

-- the kind and the body of a member
kind_in : Option (List ℕ × Data) → List ℕ
kind_in None = []
kind_in (Some m) = m.0

body_in : Option (List ℕ × Data) → Data
body_in None = null
body_in (Some m) = m.1

-- a body lies lower than its filter
pub body_lower : (d : Data) (kind : List ℕ) (body : Data) → only_member d ≡ Some (kind, body)
    → depth body < depth d
unfolding body_in
body_lower (object (member k b no_members)) kind body h =
    let same : depth b ≡ depth body = ap (λ o. depth (body_in o)) h in omega (arith, same)
body_lower (object no_members) kind body h = absurd (cc)
body_lower (object (member k b (member l c ms))) kind body h = absurd (cc)
body_lower null kind body h = absurd (cc)
body_lower (boolean b) kind body h = absurd (cc)
body_lower (number n) kind body h = absurd (cc)
body_lower (string s) kind body h = absurd (cc)
body_lower (array ds) kind body h = absurd (cc)

-- a filter is of the kind of its member
of_member : (lenient : Bool) (n : ℕ) (d : Data) (kind : List ℕ) (body : Data) (tree : QueryTree)
    → only_member d ≡ Some (kind, body) → IsFilter lenient (suc n) d tree
    → IsOfKind lenient (IsFilter lenient n) kind body tree
unfolding kind_in body_in
of_member lenient n d kind body tree there (k, b, e, h) =
    let kinds : k ≡ kind = ap kind_in (sym e ∙ there) in
    let bodies : b ≡ body = ap body_in (sym e ∙ there) in
    subst (λ x. IsOfKind lenient (IsFilter lenient n) x body tree) kinds
    (subst (λ y. IsOfKind lenient (IsFilter lenient n) k y tree) bodies h)

-- what is read of the body of that kind is read of the filter
pub read_member : (d : Data) (kind : List ℕ) (body : Data) (result : Result QueryTree ReadError)
    → only_member d ≡ Some (kind, body)
    → ((n : ℕ) → depth body < n
    → IsReading (λ lenient. IsOfKind lenient (IsFilter lenient n) kind body)
    (HasUnsupportedIn (HasUnsupportedFilter n) kind body) result)
    → (n : ℕ) → depth d < n
    → IsReading (λ lenient. IsFilter lenient n d) (HasUnsupportedFilter n d) result
read_member d kind body result there told zero below = absurd (omega (arith, below))
read_member d kind body result there told (suc n) below =
    read_as (λ lenient. IsOfKind lenient (IsFilter lenient n) kind body)
    (HasUnsupportedIn (HasUnsupportedFilter n) kind body) (λ lenient. IsFilter lenient (suc n) d)
    (HasUnsupportedFilter (suc n) d) result
    (told n (omega (arith, below, body_lower d kind body there)))
    (λ tree h. (kind, body, there, h)) (λ h. (kind, body, there, h))
    (λ lenient tree h. of_member lenient n d kind body tree there h)

-- ---- a query

-- where it is refused as such, it is no query
pub read_none : (d : Data) (result : Result QueryTree ReadError)
    → IsReading (λ lenient. IsFilterOf lenient d) (HasUnsupportedFilter (suc (depth d)) d) result
    → IsErrOf result Unsupported ⊎ IsErrOf result Grammar → (tree : QueryTree) → ¬ (IsQuery d tree)
read_none d result told (inl e) =
    (subst (IsReading (λ lenient. IsFilterOf lenient d) (HasUnsupportedFilter (suc (depth d)) d)) e
    told).1
read_none d result told (inr e) =
    subst (IsReading (λ lenient. IsFilterOf lenient d)
    (HasUnsupportedFilter (suc (depth d)) d)) e told
    false

-- where it is refused as outside the grammar, it is no query at all
pub read_nothing : (d : Data) (result : Result QueryTree ReadError)
    → IsReading (λ lenient. IsFilterOf lenient d) (HasUnsupportedFilter (suc (depth d)) d) result
    → as_str d ≡ None → IsErrOf result Grammar → IsNoQueryAtAll d
read_nothing d result told no_text e = (
  no_text,
  subst (IsReading (λ lenient. IsFilterOf lenient d)
      (HasUnsupportedFilter (suc (depth d)) d)) e told
      true,
)
