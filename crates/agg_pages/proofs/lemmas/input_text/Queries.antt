-- A value is of one query at most.
use Rattle.std.proofs.Common.{◌≡◌, inl, inr, ℕ, zero, suc, List, [], ◌∷◌, false}
use Rattle.std.proofs.Common.{Option, Some, None, refl, sym, ap, ◌∙◌, subst, codes}
use Rattle.std.proofs.Common.{option_and_then, cond, bytes_eq}
use Rattle.serde_json.specs.Data.{Data, Items, no_items, item, depth}
use Rattle.serde_json.specs.Find.{as_str, get}
use Rattle.agg_values.proofs.KeyTexts.{IsKeyText-unique}
use Rattle.agg_values.specs.KeyText.{IsKeyText}
use Rattle.agg_values.specs.TypedKey.{CompositeIntermediateKey}
use Rattle.agg_values.specs.declared.typed_key.CompositeIntermediateKey.TheVariants as key
use Rattle.agg_segment.specs.storage.Document.{said_key}
use Rattle.agg_segment.specs.declared.storage.document.FieldValue.{FieldValue}
use Rattle.agg_segment.specs.declared.storage.document.FieldValue.TheVariants as value
use Rattle.agg_segment.specs.declared.query.RangeBound.{RangeBound}
use Rattle.agg_segment.specs.declared.query.RangeBound.TheVariants.{Unbounded, Included, Excluded}
use Rattle.agg_segment.specs.declared.query.QueryTree.{QueryTree}
use Rattle.agg_segment.specs.declared.query.QueryTree.TheVariants.{Term, Range, Exists, Boolean}
use Rattle.agg_segment.specs.declared.query.QueryTree.TheVariants.{All, Empty}
use Rattle.agg_request.specs.json_values.Json.{EachIs, IsList}
use Rattle.agg_request.specs.json_values.Query.{IsBoolean, IsBound, IsExists, IsFilter, IsOfKind}
use Rattle.agg_request.specs.json_values.Query.{IsPlain, IsQuery, IsRange, IsTerm, SaysAt}
use Rattle.agg_request.proofs.lemmas.json_values.ValueTexts.{said_strictly}
use Rattle.agg_pages.proofs.lemmas.document_json.Documents.{none_is_some, same_value}

-- ---- values

value_of : CompositeIntermediateKey → FieldValue
value_of (key.Bool b) = value.Bool b
value_of (key.Str text) = value.Str text
value_of (key.I64 n) = value.I64 n
value_of (key.U64 n) = value.U64 n
value_of (key.IpAddr address) = value.Ip address
value_of (key.DateTime ns) = value.Date ns
value_of key.Null = value.Bool false

value_of-said : (v : FieldValue) → value_of (said_key v) ≡ v
unfolding value_of
value_of-said (value.Bool b) = refl
value_of-said (value.Str text) = refl
value_of-said (value.I64 n) = refl
value_of-said (value.U64 n) = refl
value_of-said (value.Ip address) = refl
value_of-said (value.Date ns) = refl

said_key-one : (v w : FieldValue) → said_key v ≡ said_key w → v ≡ w
said_key-one v w e = sym (value_of-said v) ∙ ap value_of e ∙ value_of-said w

SaysAt-unique : (name : List ℕ) (d : Data) (v w : FieldValue) → SaysAt false name d v
    → SaysAt false name d w → v ≡ w
SaysAt-unique name d v w (text, is, says) (text_too, is_too, says_too) =
    let same : text_too ≡ text = same_value text_too text (sym is_too ∙ is) in
    said_key-one v w (IsKeyText-unique text (said_key v) (said_key w)
    (said_strictly text (said_key v) says)
    (subst (λ t. IsKeyText t (said_key w)) same (said_strictly text_too (said_key w) says_too)))

text_and_none : {A : Type 0} (name : List ℕ) (d : Data) (v : FieldValue) → SaysAt false name d v
    → get name d ≡ None → A
text_and_none name d v (text, is, says) none =
    none_is_some text (sym (ap (option_and_then as_str) none) ∙ is)

-- ---- the bodies of filters

IsBound-unique : (including excluding : List ℕ) (body : Data) (a b : RangeBound)
    → IsBound false including excluding body a → IsBound false including excluding body b → a ≡ b
IsBound-unique i e d Unbounded Unbounded h k = refl
IsBound-unique i e d Unbounded (Included w) h k = text_and_none i d w k.0 h.0
IsBound-unique i e d Unbounded (Excluded w) h k = text_and_none e d w k.0 h.1
IsBound-unique i e d (Included v) Unbounded h k = text_and_none i d v h.0 k.0
IsBound-unique i e d (Included v) (Included w) h k = ap Included (SaysAt-unique i d v w h.0 k.0)
IsBound-unique i e d (Included v) (Excluded w) h k = text_and_none i d v h.0 k.1
IsBound-unique i e d (Excluded v) Unbounded h k = text_and_none e d v h.0 k.1
IsBound-unique i e d (Excluded v) (Included w) h k = text_and_none e d v h.0 k.1
IsBound-unique i e d (Excluded v) (Excluded w) h k = ap Excluded (SaysAt-unique e d v w h.0 k.0)

IsPlain-unique : (plain : QueryTree) (body : Data) (a b : QueryTree) → IsPlain plain body a
    → IsPlain plain body b → a ≡ b
IsPlain-unique plain body a b h k = h.1 ∙ sym k.1

IsTerm-unique : (body : Data) (a b : QueryTree) → IsTerm false body a → IsTerm false body b → a ≡ b
IsTerm-unique body a b (field, v, a_is, only, named, says)
    (field_too, w, b_is, _, named_too, says_too) =
    let fields : field ≡ field_too = same_value field field_too (sym named ∙ named_too) in
    let values : v ≡ w = SaysAt-unique (codes "value") body v w says says_too in
    a_is ∙ ap (λ f. Term f v) fields ∙ ap (Term field_too) values ∙ sym b_is

IsRange-unique : (body : Data) (a b : QueryTree) → IsRange false body a → IsRange false body b
    → a ≡ b
IsRange-unique body a b (field, low, high, a_is, only, named, lower, upper)
    (field_too, low_too, high_too, b_is, _, named_too, lower_too, upper_too) =
    let fields : field ≡ field_too = same_value field field_too (sym named ∙ named_too) in
    let lows : low ≡ low_too =
    IsBound-unique (codes "gte") (codes "gt") body low low_too lower lower_too in
    let highs : high ≡ high_too =
    IsBound-unique (codes "lte") (codes "lt") body high high_too upper upper_too in
    a_is ∙ ap (λ f. Range f low high) fields ∙ ap (λ l. Range field_too l high) lows
    ∙ ap (Range field_too low_too) highs ∙ sym b_is

IsExists-unique : (body : Data) (a b : QueryTree) → IsExists body a → IsExists body b → a ≡ b
IsExists-unique body a b (field, a_is, only, named) (field_too, b_is, _, named_too) =
    a_is ∙ ap Exists (same_value field field_too (sym named ∙ named_too)) ∙ sym b_is

data Kind : Type 0 where
  of_all : Kind
  of_empty : Kind
  of_term : Kind
  of_range : Kind
  of_exists : Kind
  of_bool : Kind

-- the kind of a name, if it is one of a kind
abbrev kind_of : List ℕ → Kind
kind_of name =
    cond (bytes_eq name (codes "all")) of_all
    (cond (bytes_eq name (codes "empty")) of_empty
    (cond (bytes_eq name (codes "term")) of_term
    (cond (bytes_eq name (codes "range")) of_range
    (cond (bytes_eq name (codes "exists")) of_exists of_bool))))

-- ---- lists

pub EachIs-unique : {A : Type 0} (Is : Data → A → Type 0)
    → ((d : Data) (a b : A) → Is d a → Is d b → a ≡ b) → (items : Items) (xs ys : List A)
    → EachIs Is items xs → EachIs Is items ys → xs ≡ ys
EachIs-unique Is one no_items [] [] h k = refl
EachIs-unique Is one no_items [] (y ∷ ys) h k = absurd k
EachIs-unique Is one no_items (x ∷ xs) ys h k = absurd h
EachIs-unique Is one (item d items) [] ys h k = absurd h
EachIs-unique Is one (item d items) (x ∷ xs) [] h k = absurd k
EachIs-unique Is one (item d items) (x ∷ xs) (y ∷ ys) h k =
    ap (λ l. l ∷ xs) (one d x y h.0 k.0)
    ∙ ap (λ l. y ∷ l) (EachIs-unique Is one items xs ys h.1 k.1)

IsList-unique : {A : Type 0} (Is : Data → A → Type 0)
    → ((d : Data) (a b : A) → Is d a → Is d b → a ≡ b) → (o : Option Data) (xs ys : List A)
    → IsList Is o xs → IsList Is o ys → xs ≡ ys
IsList-unique Is one None xs ys h k = h ∙ sym k
IsList-unique Is one (Some d) xs ys (items, is, each) (items_too, is_too, each_too) =
    let same : items_too ≡ items = same_value items_too items (sym is_too ∙ is) in
    EachIs-unique Is one items xs ys each (subst (λ l. EachIs Is l ys) same each_too)

module _ (Is : Data → QueryTree → Type 0)
    (one : (d : Data) (a b : QueryTree) → Is d a → Is d b → a ≡ b) where
  IsBoolean-unique : (body : Data) (a b : QueryTree) → IsBoolean Is body a → IsBoolean Is body b
      → a ≡ b
  IsBoolean-unique body a b (m, s, n, a_is, only, must, should, must_not)
      (m_too, s_too, n_too, b_is, _, must_too, should_too, must_not_too) =
      let ms : m ≡ m_too = IsList-unique Is one (get (codes "must") body) m m_too must must_too in
      let ss : s ≡ s_too =
      IsList-unique Is one (get (codes "should") body) s s_too should should_too in
      let ns : n ≡ n_too =
      IsList-unique Is one (get (codes "must_not") body) n n_too must_not must_not_too in
      a_is ∙ ap (λ l. Boolean l s n) ms ∙ ap (λ l. Boolean m_too l n) ss
      ∙ ap (Boolean m_too s_too) ns ∙ sym b_is

  -- ---- the kinds of filters

  -- a body of a kind
  abbrev IsBody : Kind → Data → QueryTree → Type 0
  IsBody of_all body tree = IsPlain All body tree
  IsBody of_empty body tree = IsPlain Empty body tree
  IsBody of_term body tree = IsTerm false body tree
  IsBody of_range body tree = IsRange false body tree
  IsBody of_exists body tree = IsExists body tree
  IsBody of_bool body tree = IsBoolean Is body tree

  IsBody-unique : (kind : Kind) (body : Data) (a b : QueryTree) → IsBody kind body a
      → IsBody kind body b → a ≡ b
  IsBody-unique of_all body a b h k = IsPlain-unique All body a b h k
  IsBody-unique of_empty body a b h k = IsPlain-unique Empty body a b h k
  IsBody-unique of_term body a b h k = IsTerm-unique body a b h k
  IsBody-unique of_range body a b h k = IsRange-unique body a b h k
  IsBody-unique of_exists body a b h k = IsExists-unique body a b h k
  IsBody-unique of_bool body a b h k = IsBoolean-unique body a b h k

  moved : (name given : List ℕ) (kind : Kind) (body : Data) (tree : QueryTree) → name ≡ given
      → kind_of given ≡ kind → IsBody kind body tree → IsBody (kind_of name) body tree
  moved name given kind body tree is there h =
      subst (λ k. IsBody k body tree) (sym (ap kind_of is ∙ there)) h

  placed : (name : List ℕ) (body : Data) (tree : QueryTree) → IsOfKind false Is name body tree
      → IsBody (kind_of name) body tree
  placed name body tree (inl (is, h)) = moved name (codes "all") of_all body tree is refl h
  placed name body tree (inr (inl (is, h))) =
      moved name (codes "empty") of_empty body tree is refl h
  placed name body tree (inr (inr (inl (is, h)))) =
      moved name (codes "term") of_term body tree is refl h
  placed name body tree (inr (inr (inr (inl (is, h))))) =
      moved name (codes "range") of_range body tree is refl h
  placed name body tree (inr (inr (inr (inr (inl (is, h)))))) =
      moved name (codes "exists") of_exists body tree is refl h
  placed name body tree (inr (inr (inr (inr (inr (is, h)))))) =
      moved name (codes "bool") of_bool body tree is refl h

  pub IsOfKind-unique : (name : List ℕ) (body : Data) (a b : QueryTree)
      → IsOfKind false Is name body a → IsOfKind false Is name body b → a ≡ b
  IsOfKind-unique name body a b h k =
      IsBody-unique (kind_of name) body a b (placed name body a h) (placed name body b k)

-- ---- queries

IsFilter-unique : (levels : ℕ) (d : Data) (a b : QueryTree) → IsFilter false levels d a
    → IsFilter false levels d b → a ≡ b
IsFilter-unique zero d a b h k = absurd h
IsFilter-unique (suc levels) d a b (kind, body, is, h) (kind_too, body_too, is_too, k) =
    let same : (kind_too, body_too) ≡ (kind, body) = same_value (kind_too, body_too) (kind, body)
    (sym is_too ∙ is) in
    IsOfKind-unique (IsFilter false levels) (IsFilter-unique levels) kind body a b h
    (subst (λ m. IsOfKind false (IsFilter false levels) m.0 m.1 b) same k)

pub IsQuery-unique : (d : Data) (a b : QueryTree) → IsQuery d a → IsQuery d b → a ≡ b
IsQuery-unique d a b h k = IsFilter-unique (suc (depth d)) d a b h k
