-- The members of a line that were taken into the open document, one by one.
use Rattle.std.proofs.Common.{◌≡◌, ℕ, ◌-◌, ◌<◌, ◌≤◌, List, [], ◌∷◌, ◌++◌, length, Bool, true, false}
use Rattle.std.proofs.Common.{Option, None, Some, bytes_eq, refl, sym, ap, ◌∙◌, subst, arith}
use Rattle.std.proofs.lemmas.List.Elements.{Contains-append_left, Contains-push}
use Rattle.std.proofs.lemmas.Slice.Eq.{bytes_eq-Decides}
use Rattle.std.specs.List.{Contains}
use Rattle.json.specs.Token.{Token}
use Rattle.json.specs.Json.{members, parse_map, read_key, value}
use Rattle.json.specs.Lex.{tokens}
use Rattle.json.proofs.Grammar.{read_key-shorter, value-begin_object}
use Rattle.serde_json.specs.Data.{Data, Members, no_members, object, put}
use Rattle.serde_json.specs.Find.{get_member}
use Rattle.serde_json.specs.Read.{converted, of_json, of_members}
use Rattle.serde_json.proofs.Views.{get_member-put, get_member-put_other}
use Rattle.agg_segment.specs.storage.Document.{by_class}
use Rattle.agg_segment.specs.Segment.{Gathered, IsNameOf, no_fields, open_document}
use Rattle.agg_segment.proofs.lemmas.storage.Classes.{by_class_nil}
use Rattle.agg_pages.specs.document_json.DocumentLine.{IsDocumentLine, IsField}
use Rattle.agg_pages.specs.document_json.Tokens.{AreDistinct, TakesMembers, TakesValues}
use Rattle.agg_pages.proofs.lemmas.document_json.DistinctNumbers.{distinct_front, last_is_new}
use Rattle.agg_pages.proofs.lemmas.document_json.Documents.{none_is_some, same_value}
use Rattle.agg_pages.proofs.lemmas.document_json.TokenFields.{same_name}
use Rattle.agg_pages.proofs.lemmas.document_json.TokenTurns.{converted-object, member_read}
use Rattle.agg_pages.proofs.lemmas.document_json.TokenTurns.{members_over, whole_read}

-- the members before these were taken
pub record HasTakenMembers (old now : List Token) (fields : List ℕ) (after : Gathered) : Type 0
  where
    pub turns : ℕ
    pub seen : Members
    pub enough : length now ≤ turns
    pub read : (depth : ℕ) → 1 < depth
        → converted (λ ms. of_members ms no_members) (members (value depth) (length old) old)
        ≡ converted (λ ms. of_members ms seen) (members (value depth) turns now)
    pub listed : (name : List ℕ) (d : Data) → get_member name seen ≡ Some d
        → (field : ℕ) × IsNameOf after field name × Contains fields field
    pub stands : AreDistinct fields → (name : List ℕ)
        → IsField (get_member name seen) (open_document after name)

pub no_members_yet : (ts : List Token) (fields : List ℕ) (builder : Gathered)
    → open_document builder ≡ no_fields → HasTakenMembers ts ts fields builder
no_members_yet ts fields builder none = record {
  turns = length ts;
  seen = no_members;
  enough = omega arith;
  read = λ depth some. refl;
  listed = λ name d found. none_is_some d found;
  stands = λ apart name. ap (λ document. document name) none;
}

-- ---- one member more

module _ (old ts s r : List Token) (fields : List ℕ) (name : List ℕ) (field : ℕ)
    (before named after : Gathered) (l : HasTakenMembers old ts fields before)
    (key : read_key ts ≡ Some (Some name, s)) (known : IsNameOf named field name)
    (others : (f : ℕ) (other : List ℕ) → IsNameOf before f other → IsNameOf named f other)
    (opened : open_document named ≡ open_document before)
    (one : TakesValues field s r named after) where
  differ : (other : List ℕ) → bytes_eq name other ≡ false → other ≡ name → ⊥
  differ other apart same =
      let yes = (bytes_eq-Decides name other).1 (sym same) in cc (apart, yes)

  still_known : (f : ℕ) (other : List ℕ) → IsNameOf named f other → IsNameOf after f other
  still_known f other is = same_name named after f other one.gains.names is

  listed_by : (other : List ℕ) (d : Data) (b : Bool) → bytes_eq name other ≡ b
      → get_member other (put name one.seen l.seen) ≡ Some d
      → (f : ℕ) × IsNameOf after f other × Contains (fields ++ field ∷ []) f
  listed_by other d true same found = (
    field,
    subst (λ n. IsNameOf after field n) ((bytes_eq-Decides name other).0 same)
        (still_known field name known),
    Contains-push fields field,
  )
  listed_by other d false apart found =
      let (f, is, there) = l.listed other d
      (sym (get_member-put_other other name one.seen l.seen (differ other apart)) ∙ found) in
      (f, still_known f other (others f other is), Contains-append_left fields (field ∷ []) f there)

  -- a field that is new in the line has no member yet
  new_by : (o : Option Data) → get_member name l.seen ≡ o → AreDistinct (fields ++ field ∷ [])
      → o ≡ None
  new_by None is apart = refl
  new_by (Some d) is apart =
      let (f, known_too, there) = l.listed name d is in
      let same : f ≡ field = same_value f field (sym (others f name known_too) ∙ known) in
      absurd (last_is_new fields field apart (subst (Contains fields) same there))

  empty_yet : AreDistinct (fields ++ field ∷ []) → open_document named name ≡ by_class []
  empty_yet apart =
      let none = new_by (get_member name l.seen) refl apart in
      let empty = subst (λ o. IsField o (open_document before name)) none
      (l.stands (distinct_front fields (field ∷ []) apart) name) in
      ap (λ document. document name) opened ∙ empty ∙ sym by_class_nil

  stands_by : (other : List ℕ) (b : Bool) → bytes_eq name other ≡ b
      → AreDistinct (fields ++ field ∷ [])
      → IsField (get_member other (put name one.seen l.seen)) (open_document after other)
  stands_by other true same apart =
      subst (λ n. IsField (get_member n (put name one.seen l.seen)) (open_document after n))
      ((bytes_eq-Decides name other).0 same)
      (subst (λ o. IsField o (open_document after name))
      (sym (get_member-put name one.seen l.seen))
      (one.gains.keys, one.gains.has, one.gains.here name [] known (empty_yet apart)))
  stands_by other false different apart =
      subst (λ o. IsField o (open_document after other))
      (sym (get_member-put_other other name one.seen l.seen (differ other different)))
      (subst (IsField (get_member other l.seen))
      (sym (one.gains.elsewhere name other known different
      ∙ ap (λ document. document other) opened))
      (l.stands (distinct_front fields (field ∷ []) apart) other))

  pub one_member : HasTakenMembers old r (fields ++ field ∷ []) after
  one_member =
      let less = read_key-shorter ts (Some name) s key in
      record {
        turns = l.turns - 1;
        seen = put name one.seen l.seen;
        enough = omega (arith, l.enough, less, one.shorter);
        read = λ depth some.
            l.read depth some
            ∙ member_read (value depth) l.seen l.turns name ts s r one.seen
            (omega (arith, l.enough, less)) key (one.read depth some);
        listed = λ other d found. listed_by other d (bytes_eq name other) refl found;
        stands = λ apart other. stands_by other (bytes_eq name other) refl apart;
      }

pub all_members : (old ts r : List Token) (fields : List ℕ) (after : Gathered)
    → HasTakenMembers old ts fields after → read_key ts ≡ Some (None, r)
    → TakesMembers old r fields after
all_members old ts r fields after l over = record {
  seen = l.seen;
  read = λ depth some.
      l.read depth some ∙ members_over (value depth) l.seen l.turns ts r l.enough over;
  stands = λ apart. record { members = refl; fields = l.stands apart };
}

-- ---- the whole line

pub whole_line : (line : List ℕ) (s : List Token) (fields : List ℕ) (builder : Gathered)
    → tokens line ≡ Token.begin_object ∷ s → TakesMembers s [] fields builder
    → AreDistinct fields → IsDocumentLine line (open_document builder)
whole_line line s fields builder first all apart =
    let some : 0 < 127 = omega arith in
    let more : 1 < 126 = omega arith in
    let seen : converted of_json (value 127 (tokens line)) ≡ Some (object all.seen, []) =
    ap (λ us. converted of_json (value 127 us)) first
    ∙ ap (converted of_json) (value-begin_object 127 s some)
    ∙ converted-object (members (value 126) (length s) s)
    ∙ ap (parse_map object) (all.read 126 more) in
    (object all.seen, whole_read (value 127 (tokens line)) (object all.seen) seen, all.stands apart)
