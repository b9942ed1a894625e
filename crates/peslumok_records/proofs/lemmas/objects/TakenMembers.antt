-- The members of an object that were taken into the asked fields, one by one.
use Rattle.std.proofs.Common.{◌≡◌, ◌≢◌, ◌<◌, ◌≤◌, ◌+◌, ◌-◌, ℕ, zero, suc, List, [], ◌∷◌, ◌++◌}
use Rattle.std.proofs.Common.{Bool, true, false, length, take, drop, get_or, refl, sym, ap, ◌∙◌}
use Rattle.std.proofs.Common.{subst, arith}
use Rattle.std.specs.Prelude.{◌==◌, Option, Some, None, option_and_then, option_map, slice_set}
use Rattle.std.specs.List.{All}
use Rattle.std.specs.Str.{bytes_eq}
use Rattle.std.proofs.Math.Seq.{split_at}
use Rattle.std.proofs.lemmas.List.{get_or-drop, get_or-set_other, get_or-take, length-drop}
use Rattle.std.proofs.lemmas.List.{length-take-le}
use Rattle.std.proofs.lemmas.List.Splits.{length-slice_split}
use Rattle.json.specs.Json.{Json, if_last, max_depth, members, no_members, object, parse_map}
use Rattle.json.specs.Json.{read_key, skip_value, value}
use Rattle.json.specs.Lex.{tokens}
use Rattle.json.specs.Token.{Token}
use Rattle.json.proofs.Grammar.{members_end, members_more, read_key-shorter, value-begin_object}
use Rattle.agg_segment.specs.declared.storage.document.FieldValue.{FieldValue}
use Rattle.agg_segment.specs.Segment.{Gathered}
use Rattle.peslumok_records.specs.held.Asked.{path_of}
use Rattle.peslumok_records.specs.held.Values.{Gains, joined, named_values, values_of_fields}
use Rattle.peslumok_records.specs.declared.held.asked.AskedField.{AskedField}
use Rattle.peslumok_records.proofs.lemmas.held.Gains.{gains-none}
use Rattle.peslumok_records.specs.objects.Objects.{field_values, member_of, values_of_member}
use Rattle.peslumok_records.specs.objects.Tokens.{IsOnlyOf, IsOther, TakesMembers, TakesText}
use Rattle.peslumok_records.specs.objects.Tokens.{TakesValue}
use Rattle.peslumok_records.proofs.lemmas.objects.AddedFields.{AreOthers, AreSame, gains_between}
use Rattle.peslumok_records.proofs.lemmas.objects.AddedFields.{same_values}
use Rattle.peslumok_records.proofs.lemmas.objects.ObjectMembers.{before, member_of-last}
use Rattle.peslumok_records.proofs.lemmas.objects.ObjectMembers.{member_of-none, member_of-other}
use Rattle.peslumok_records.proofs.lemmas.objects.ObjectMembers.{object_of, one_more, same_map}

-- ---- fields by their places

same_all : (F G : AskedField → Option (List FieldValue)) (fields : List AskedField)
    → ((i : ℕ) (d : AskedField) → i < length fields → F (get_or fields i d) ≡ G (get_or fields i d))
    → AreSame F G fields
same_all F G [] same = tt
same_all F G (field ∷ fields) same = (
  same 0 field (omega arith),
  same_all F G fields (λ i d within. same (suc i) d (omega (arith, within))),
)

others_all : (name : List ℕ) (fields : List AskedField)
    → ((i : ℕ) (d : AskedField) → i < length fields
    → bytes_eq name (get_or fields i d).name ≡ false) → AreOthers name fields
others_all name [] apart = tt
others_all name (field ∷ fields) apart = (
  apart 0 field (omega arith),
  others_all name fields (λ i d within. apart (suc i) d (omega (arith, within))),
)

-- ---- members that were taken

-- the members so far were taken, and the fields that weren't seen have none yet
pub record HasTaken (asked : List AskedField) (start now : List Token) (seen : List Bool)
    (old new : Gathered) : Type 0 where
  pub taken : List (List ℕ × Json)
  pub turns : ℕ
  pub enough : length now ≤ turns
  pub read : members (value (max_depth - 1)) (length start) start
      ≡ parse_map (before taken) (members (value (max_depth - 1)) turns now)
  pub unseen : (i : ℕ) (d : AskedField) → i < length asked → get_or seen i true ≡ false
      → member_of (get_or asked i d) (object_of taken) ≡ None
  pub gains : Gains (values_of_fields (field_values (object_of taken)) asked) old new

some_part : (parts : List (List ℕ)) → 0 < length parts
    → (first : List ℕ) × (rest : List (List ℕ)) × (parts ≡ first ∷ rest)
some_part [] some = absurd (omega (arith, some))
some_part (first ∷ rest) some = (first, rest, refl)

no_member_yet : (field : AskedField) → member_of field (object_of []) ≡ None
no_member_yet field =
    let (first, rest, is) = some_part (path_of field.name)
    (omega (arith, length-slice_split (λ b. b == 46) field.name)) in
    member_of-none field first rest is

none_given : (fields : List AskedField) → values_of_fields (λ _. Some []) fields ≡ Some []
none_given [] = refl
none_given (field ∷ fields) =
    ap (joined (Some [])) (none_given fields)

pub no_members_yet : (asked : List AskedField) (start : List Token) (seen : List Bool)
    (builder : Gathered) → HasTaken asked start start seen builder builder
no_members_yet asked start seen builder =
    let none : (i : ℕ) (d : AskedField) → i < length asked
    → member_of (get_or asked i d) (object_of []) ≡ None =
    λ i d within. no_member_yet (get_or asked i d) in
    let F = field_values (object_of []) in
    record {
      taken = [];
      turns = length start;
      enough = omega arith;
      read = same_map (members (value (max_depth - 1)) (length start) start);
      unseen = λ i d within un. none i d within;
      gains = subst (λ o. Gains o builder builder)
          (sym (same_values F (λ _. Some []) asked (same_all F (λ _. Some []) asked
          (λ i d within. ap (values_of_member (get_or asked i d).of) (none i d within)))
          ∙ none_given asked)) (gains-none builder builder refl);
    }

skipped : {A : Type 0} (r : Option (A × List Token)) (rest : List Token)
    → option_map (λ p. p.1) r ≡ Some rest → (a : A) × (r ≡ Some (a, rest))
skipped None rest is = absurd (cc)
skipped (Some p) rest is = let same : p.1 ≡ rest = cc is in (p.0, ap (λ l. Some (p.0, l)) same)

-- a member more that no field asks for
pub one_other : (asked : List AskedField) (start ts s r : List Token) (seen : List Bool)
    (k : List ℕ) (old now : Gathered) → HasTaken asked start ts seen old now
    → read_key ts ≡ Some (Some k, s) → skip_value (max_depth - 1) s ≡ Some r
    → length r < length s → All (IsOther k) asked → HasTaken asked start r seen old now
one_other asked start ts s r seen k old now has key skips shorter others =
    let p = value (max_depth - 1) in
    let (j, is) = skipped (p s) r skips in
    let less = read_key-shorter ts (Some k) s key in
    let ms = has.taken in
    let F = field_values (object_of ms) in
    let G = field_values (object_of (ms ++ (k, j) ∷ [])) in
    record {
      taken = ms ++ (k, j) ∷ [];
      turns = has.turns - 1;
      enough = omega (arith, has.enough, less, shorter);
      read = has.read ∙ ap (parse_map (before ms)) (members_more p has.turns k ts s r j
          (omega (arith, has.enough, less)) key is)
          ∙ one_more ms k j (members p (has.turns - 1) r);
      unseen = λ i d within un. member_of-other (get_or asked i d) ms k j (others i d within)
          ∙ has.unseen i d within un;
      gains = subst (λ o. Gains o old now) (same_values F G asked (same_all F G asked
          (λ i d within. ap (values_of_member (get_or asked i d).of)
          (sym (member_of-other (get_or asked i d) ms k j (others i d within)))))) has.gains;
    }

seen_now : (seen : List Bool) (at : ℕ) → get_or (slice_set seen at true) at true ≡ true
seen_now [] at = refl
seen_now (b ∷ bs) zero = refl
seen_now (b ∷ bs) (suc at) = seen_now bs at

still_unseen : (seen : List Bool) (at i : ℕ) → get_or (slice_set seen at true) i true ≡ false
    → i ≢ at
still_unseen seen at i un same =
    let yes : get_or (slice_set seen at true) i true ≡ true =
    subst (λ n. get_or (slice_set seen at true) n true ≡ true) (sym same) (seen_now seen at) in
    absurd (cc (un, yes))

-- a member more, of a field that wasn't seen
module _ (asked : List AskedField) (start ts s r : List Token) (seen : List Bool) (k : List ℕ)
    (at : ℕ) (field : AskedField) (old now new : Gathered)
    (has : HasTaken asked start ts seen old now) (key : read_key ts ≡ Some (Some k, s))
    (only : IsOnlyOf asked k at) (first : get_or seen at true ≡ false)
    (is : field ≡ get_or asked at field) (took : TakesValue field s r now new) where
  abbrev more : List (List ℕ × Json)
  more = has.taken ++ (k, took.seen) ∷ []

  named : field.name ≡ k
  named = ap (λ (f : AskedField). f.name) is ∙ only.named field

  same_at : (i : ℕ) (d : AskedField) → i < length asked → i ≢ at
      → field_values (object_of has.taken) (get_or asked i d)
      ≡ field_values (object_of more) (get_or asked i d)
  same_at i d within apart =
      ap (values_of_member (get_or asked i d).of)
      (sym (member_of-other (get_or asked i d) has.taken k took.seen
      (only.others i d within apart)))

  before_at : AreSame (field_values (object_of has.taken)) (field_values (object_of more))
      (take at asked)
  before_at =
      same_all (field_values (object_of has.taken)) (field_values (object_of more)) (take at asked)
      (λ i d within.
      let long : length (take at asked) ≡ at =
      length-take-le at asked (omega (arith, only.within)) in
      let less : i < at = omega (arith, within, long) in
      subst (λ f. field_values (object_of has.taken) f ≡ field_values (object_of more) f)
      (sym (get_or-take at asked i d less))
      (same_at i d (omega (arith, less, only.within)) (λ e. omega (arith, less, e))))

  behind : (i : ℕ) → i < length (drop (suc at) asked) → suc at + i < length asked
  behind i within = omega (arith, within, length-drop (suc at) asked)

  behind_at : AreSame (field_values (object_of has.taken)) (field_values (object_of more))
      (drop (suc at) asked)
  behind_at =
      same_all (field_values (object_of has.taken)) (field_values (object_of more))
      (drop (suc at) asked) (λ i d within.
      subst (λ f. field_values (object_of has.taken) f ≡ field_values (object_of more) f)
      (sym (get_or-drop (suc at) asked i d))
      (same_at (suc at + i) d (behind i within) (λ e. omega (arith, e))))

  apart_behind : AreOthers field.name (drop (suc at) asked)
  apart_behind =
      others_all field.name (drop (suc at) asked) (λ i d within.
      subst (λ f. bytes_eq field.name f.name ≡ false) (sym (get_or-drop (suc at) asked i d))
      (subst (λ n. bytes_eq n (get_or asked (suc at + i) d).name ≡ false) (sym named)
      (only.others (suc at + i) d (behind i within) (λ e. omega (arith, e))).whole))

  none_yet : field_values (object_of has.taken) field ≡ Some []
  none_yet =
      ap (values_of_member field.of) (subst (λ f. member_of f (object_of has.taken) ≡ None) (sym is)
      (has.unseen at field only.within first))

  parts : asked ≡ take at asked ++ field ∷ drop (suc at) asked
  parts = split_at asked at field only.within
      ∙ ap (λ f. take at asked ++ f ∷ drop (suc at) asked) (sym is)

  gained : Gains (values_of_fields (field_values (object_of more)) asked) old new
  gained =
      subst (λ fields. Gains (values_of_fields (field_values (object_of more)) fields) old new)
      (sym parts)
      (gains_between (field_values (object_of has.taken)) (field_values (object_of more))
      (take at asked) field (drop (suc at) asked) old now new before_at behind_at apart_behind
      none_yet
      (subst (λ fields. Gains (values_of_fields (field_values (object_of has.taken)) fields) old
      now) parts has.gains)
      (subst (λ o. Gains (option_map (named_values field.name) (values_of_member field.of o)) now
      new) (sym (member_of-last field has.taken k took.seen named)) took.gains))

  pub one_field : HasTaken asked start r (slice_set seen at true) old new
  one_field =
      let p = value (max_depth - 1) in
      let less = read_key-shorter ts (Some k) s key in
      record {
        taken = more;
        turns = has.turns - 1;
        enough = omega (arith, has.enough, less, took.shorter);
        read = has.read ∙ ap (parse_map (before has.taken)) (members_more p has.turns k ts s r
            took.seen (omega (arith, has.enough, less)) key took.read)
            ∙ one_more has.taken k took.seen (members p (has.turns - 1) r);
        unseen = λ i d within un.
            let apart = still_unseen seen at i un in
            member_of-other (get_or asked i d) has.taken k took.seen (only.others i d within apart)
            ∙ has.unseen i d within (sym (get_or-set_other seen at i true true apart) ∙ un);
        gains = gained;
      }

pub all_members : (asked : List AskedField) (start ts r : List Token) (seen : List Bool)
    (old new : Gathered) → HasTaken asked start ts seen old new → read_key ts ≡ Some (None, r)
    → TakesMembers asked start r old new
all_members asked start ts r seen old new has over = record {
  seen = before has.taken no_members;
  read = has.read ∙ ap (parse_map (before has.taken))
      (members_end (value (max_depth - 1)) has.turns ts r has.enough over);
  gains = has.gains;
}

-- the object that a text is
pub whole_text : (asked : List AskedField) (text : List ℕ) (s : List Token) (old new : Gathered)
    → tokens text ≡ Token.begin_object ∷ s → TakesMembers asked s [] old new
    → TakesText asked text old new
whole_text asked text s old new first took =
    let last = option_and_then (λ (p : Json × List Token). if_last p.0 p.1) in
    record {
      seen = took.seen;
      is = ap (λ ts. last (value max_depth ts)) first
          ∙ ap last (value-begin_object max_depth s (omega arith)
          ∙ ap (parse_map object) took.read);
      gains = took.gains;
    }
