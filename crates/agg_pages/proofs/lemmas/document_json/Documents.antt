-- Keys of values, and what a document line stands for: one document at most.
use Rattle.std.proofs.Common.{◌≡◌, inl, inr, ℕ, List, Bool, true, false}
use Rattle.std.proofs.Common.{refl, sym, ap, ◌∙◌, subst, codes, cond, bytes_eq, option_and_then}
use Rattle.std.proofs.Common.{option_map, Option, Some, None, get_or, arith}
use Rattle.std.proofs.lemmas.Slice.Eq.{bytes_eq-Decides}
use Rattle.serde_json.specs.Data.{Data, null, boolean, number, string, array, object}
use Rattle.serde_json.specs.Find.{get}
use Rattle.serde_json.specs.Read.{read}
use Rattle.agg_values.specs.AddressGrammar.{IsAddressText}
use Rattle.agg_values.specs.TypedKey.{CompositeIntermediateKey}
use Rattle.agg_values.specs.declared.address.Address.{Address}
use Rattle.agg_values.specs.declared.typed_key.CompositeIntermediateKey.TheVariants as key
use Rattle.agg_values.proofs.AddressTexts.{IsAddressText-unique}
use Rattle.agg_segment.specs.storage.Document.{Fields, by_class}
use Rattle.agg_request.specs.json_values.Json.{only_member, only_named}
use Rattle.agg_pages.proofs.lemmas.document_json.Beside.{AllZip-unique}
use Rattle.agg_pages.specs.document_json.DocumentLine.{HasKey, IsAddressKey, IsDocument}
use Rattle.agg_pages.specs.document_json.DocumentLine.{IsDocumentLine, IsField, address_text_of}
use Rattle.agg_pages.specs.document_json.DocumentLine.{date_of, field_values, plain_key}
use Rattle.agg_values.specs.Nothing.{NoneIs}

pub same_value : {A : Type 0} (a b : A) → Some a ≡ Some b → a ≡ b
same_value a b e = cc

pub none_is_some : {A B : Type 0} (a : A) → None ≡ Some a → B
none_is_some a e = absurd (cc)

-- ---- dates and addresses are told apart by their member

named_so : {A : Type 0} (b : Bool) (d : A) (e : A) → cond b (Some d) None ≡ Some e → b ≡ true
named_so true d e h = refl
named_so false d e h = none_is_some e h

named_among : (name : List ℕ) (o : Option (List ℕ × Data)) (d : Data)
    → option_and_then (λ m. cond (bytes_eq m.0 name) (Some m.1) None) o ≡ Some d
    → option_map (λ m. m.0) o ≡ Some name
named_among name None d h = none_is_some d h
named_among name (Some m) d h =
    ap Some ((bytes_eq-Decides m.0 name).0 (named_so (bytes_eq m.0 name) m.1 d h))

-- an object has one only member
pub only_named-unique : (name other : List ℕ) (d found found_too : Data)
    → only_named name d ≡ Some found → only_named other d ≡ Some found_too → name ≡ other
only_named-unique name other d found found_too h k =
    same_value name other (sym (named_among name (only_member d) found h)
    ∙ named_among other (only_member d) found_too k)

inner : {A B : Type 0} (f : A → Option B) (o : Option A) (b : B) → option_and_then f o ≡ Some b
    → (a : A) × (o ≡ Some a)
inner f None b h = none_is_some b h
inner f (Some a) b h = (a, refl)

mapped : {A B : Type 0} (f : A → B) (o : Option A) (b : B) → option_map f o ≡ Some b
    → (a : A) × (o ≡ Some a)
mapped f None b h = none_is_some b h
mapped f (Some a) b h = (a, refl)

dt_is_not_ip : codes "dt" ≡ codes "ip" → ⊥
dt_is_not_ip e = absurd (omega (arith, ap (λ l. get_or l 0 0) e))

date_or_address : (d : Data) (text : List ℕ) (date : CompositeIntermediateKey)
    → option_map key.DateTime (date_of d) ≡ Some date → address_text_of d ≡ Some text → ⊥
date_or_address d text date h k =
    let (ns, is) = mapped key.DateTime (date_of d) date h in
    let (found, there) = inner _ (only_named (codes "dt") d) ns is in
    let (found_too, there_too) = inner _ (only_named (codes "ip") d) text k in
    dt_is_not_ip (only_named-unique (codes "dt") (codes "ip") d found found_too there there_too)

-- ---- a value has one key at most

plain_or_address : (d : Data) (text : List ℕ) (k : CompositeIntermediateKey)
    → plain_key d ≡ Some k → address_text_of d ≡ Some text → ⊥
plain_or_address null text k h t = none_is_some text t
plain_or_address (boolean b) text k h t = none_is_some text t
plain_or_address (number n) text k h t = none_is_some text t
plain_or_address (string s) text k h t = none_is_some text t
plain_or_address (array ds) text k h t = none_is_some text t
plain_or_address (object ms) text k h t = date_or_address (object ms) text k h t

IsAddressKey-unique : (d : Data) (a b : CompositeIntermediateKey) → IsAddressKey d a
    → IsAddressKey d b → a ≡ b
IsAddressKey-unique d a b (text, n, is, spells, a_is) (text_too, m, is_too, spells_too, b_is) =
    let same : text_too ≡ text = same_value text_too text (sym is_too ∙ is) in
    let equal : n ≡ m = IsAddressText-unique text n m spells
    (subst (λ t. IsAddressText t m) same spells_too) in
    a_is ∙ ap (λ address. key.IpAddr (record { 0 = address })) equal ∙ sym b_is

pub HasKey-unique : (d : Data) (a b : CompositeIntermediateKey) → HasKey d a → HasKey d b → a ≡ b
HasKey-unique d a b (inl h) (inl k) = same_value a b (sym h ∙ k)
HasKey-unique d a b (inl h) (inr k) = absurd (plain_or_address d k.0 a h k.2)
HasKey-unique d a b (inr h) (inl k) = absurd (plain_or_address d h.0 b k h.2)
HasKey-unique d a b (inr h) (inr k) = IsAddressKey-unique d a b h k

-- ---- a value that has no key

-- a text that is none of an address
pub no_address : (d : Data) (text : List ℕ) (found : Option Address) → Some text ≡ address_text_of d
    → ((address : ℕ) → IsAddressText text address → found ≡ Some (record { 0 = address }))
    → found ≡ None → NoneIs (IsAddressKey d)
no_address d text found is each none k (spelled, address, is_too, spells, k_is) =
    let same : spelled ≡ text = same_value spelled text (sym is_too ∙ sym is) in
    none_is_some _ (sym none ∙ each address (subst (λ t. IsAddressText t address) same spells))

pub no_address_text : (d : Data) → None ≡ address_text_of d → NoneIs (IsAddressKey d)
no_address_text d none k (spelled, address, is, spells, k_is) = none_is_some spelled (none ∙ is)

pub no_key : (d : Data) → None ≡ plain_key d → NoneIs (IsAddressKey d) → NoneIs (HasKey d)
no_key d none not_address k (inl plain) = none_is_some k (none ∙ plain)
no_key d none not_address k (inr address) = not_address k address

-- ---- a line stands for one document at most

IsField-unique : (o : Option Data) (keys others : List CompositeIntermediateKey) → IsField o keys
    → IsField o others → keys ≡ others
IsField-unique None keys others h k = h ∙ sym k
IsField-unique (Some d) keys others (given, has, is) (given_too, has_too, is_too) =
    is ∙ ap by_class (AllZip-unique HasKey HasKey-unique (field_values d) given given_too has
    has_too) ∙ sym is_too

pub IsDocument-unique : (d : Data) (document other : Fields) → IsDocument d document
    → IsDocument d other → document ≡ other
IsDocument-unique d document other h k = λ i field.
    IsField-unique (get field d) (document field) (other field) (h.fields field) (k.fields field) i

pub IsDocumentLine-unique : (line : List ℕ) (document other : Fields) → IsDocumentLine line document
    → IsDocumentLine line other → document ≡ other
IsDocumentLine-unique line document other (d, is, h) (d_too, is_too, k) =
    let same : d_too ≡ d = same_value d_too d (sym is_too ∙ is) in
    IsDocument-unique d document other h (subst (λ e. IsDocument e other) same k)

-- a line of a value that is no document
pub no_document : (line : List ℕ) (d : Data) → read line ≡ Some d → NoneIs (IsDocument d)
    → NoneIs (IsDocumentLine line)
no_document line d is none document (found, is_too, stands) =
    none document (subst (λ e. IsDocument e document) (same_value found d (sym is_too ∙ is)) stands)
