-- The bound of a printed after key.
use Rattle.std.proofs.Common.{◌≡◌, ℕ, List, [], ◌∷◌, Some, Ordering, Less, Equal, Greater, false}
use Rattle.std.proofs.Common.{codes, inl, inr, length, refl, sym, ap, ◌∙◌, subst, true≢false}
use Rattle.std.specs.List.{All, AllByRecursion}
use Rattle.std.specs.List.Sorted.{IsStrictlySortedBy}
use Rattle.std.specs.Option.{unwrap_or}
use Rattle.std.specs.Ordering.{match_ordering}
use Rattle.std.proofs.lemmas.List.Elements.{recursion_from_All}
use Rattle.serde_json.specs.Data.{Data, object, string}
use Rattle.serde_json.specs.Find.{get}
use Rattle.serde_json.specs.Read.{read}
use Rattle.agg_values.specs.KeyText.{IsKeyText, IsValueText, key_text, value_text}
use Rattle.agg_values.specs.Names.{Named, name_cmp, put}
use Rattle.agg_values.specs.Tuple.{KeyTuple}
use Rattle.agg_values.specs.TypedKey.{CompositeIntermediateKey}
use Rattle.agg_values.specs.TypedKey.key.{Bool as Truth, Str, I64, U64, DateTime, IpAddr, Null}
use Rattle.agg_values.specs.declared.after_key.AfterKey.{AfterKey}
use Rattle.agg_values.proofs.AddressTexts.{IsAddressText-address_text}
use Rattle.agg_values.proofs.KeyTexts.{IsKeyText-unique, IsSignedText-signed_decimal}
use Rattle.agg_values.proofs.KeyTexts.{IsUnsignedText-decimal}
use Rattle.agg_request.specs.json_values.Json.{EachNamedIs}
use Rattle.agg_request.specs.reading.CompositeJson.{AreKeys, IsAfter, IsCompositeJson, IsKeyJson}
use Rattle.agg_request_tree.specs.declared.aggregation.CompositeAggregation.{CompositeAggregation}
use Rattle.agg_request_tree.specs.BySource.{after_map}
use Rattle.agg_request_tree.specs.Faults.{HaveOwnNames}
use Rattle.agg_request_tree.specs.Occurrences.{bound_of}
use Rattle.agg_request_tree.specs.Source.{Sources, name_of}
use Rattle.agg_request_tree.proofs.PageAfter.{bound_of-after_map}
use Rattle.agg_pages.specs.input_text.PrintedAfterKeys.{IsWithinType, printed_after_key}
use Rattle.agg_pages.proofs.lemmas.input_text.KeyMembers.{Ascends, Ascends-put, key_members}
use Rattle.agg_pages.proofs.lemmas.input_text.KeyMembers.{read-object_text}

-- ---- the keys of an after key

-- the text of a key's value is read as the key
IsValueText-value_text : (key : CompositeIntermediateKey) → IsWithinType key
    → IsValueText (value_text key) key
IsValueText-value_text (Truth b) within = refl
IsValueText-value_text (Str text) within = refl
IsValueText-value_text (I64 n) within = IsSignedText-signed_decimal n within
IsValueText-value_text (U64 n) within = IsUnsignedText-decimal n within
IsValueText-value_text (DateTime ns) within = IsSignedText-signed_decimal ns within
IsValueText-value_text (IpAddr address) within = IsAddressText-address_text address.0 within
IsValueText-value_text Null within = tt

-- the text of a key is read as the key
IsKeyText-key_text : (key : CompositeIntermediateKey) → IsWithinType key
    → IsKeyText (key_text key) key
IsKeyText-key_text key within = (value_text key, refl, IsValueText-value_text key within)

-- each value is such
abbrev AllValues : {T : Type 0} → (T → Type 0) → Named T → Type 0
AllValues P entries = AllByRecursion (λ e. P e.1) entries

-- what holds of each value and of one that is put there holds of each
AllValues-put : {T : Type 0} (P : T → Type 0) (name : List ℕ) (value : T) (entries : Named T)
    → P value → AllValues P entries → AllValues P (put name value entries)
AllValues-put P name value [] own all = (own, tt)
AllValues-put P name value (e ∷ later) own all =
    by (name_cmp name e.0) (AllValues-put P name value later own all.1)
  where
    by : (o : Ordering) → AllValues P (put name value later)
        → AllValues P (match_ordering o ((name, value) ∷ e ∷ later) ((e.0, value) ∷ later) (e
        ∷ put name value later))
    by Less rest = (own, all)
    by Equal rest = (own, all.1)
    by Greater rest = (all.0, rest)

-- an after key's text is read as it
abbrev ReadsBack : AfterKey → Type 0
ReadsBack after = IsKeyText (key_text after.0) after.0

-- the names of a tuple's after key ascend
Ascends-after_map : (sources : Sources) (tuple : KeyTuple) → Ascends (after_map sources tuple)
unfolding IsStrictlySortedBy
Ascends-after_map [] tuple = tt
Ascends-after_map (source ∷ sources) [] = tt
Ascends-after_map (source ∷ sources) (k ∷ keys) =
    Ascends-put (name_of source) (record { 0 = k }) (after_map sources keys)
    (Ascends-after_map sources keys)

-- each text of a tuple's after key is read as its key
after_map-reads_back : (sources : Sources) (tuple : KeyTuple) → AllByRecursion IsWithinType tuple
    → AllValues ReadsBack (after_map sources tuple)
after_map-reads_back [] tuple within = tt
after_map-reads_back (source ∷ sources) [] within = tt
after_map-reads_back (source ∷ sources) (k ∷ keys) within =
    AllValues-put ReadsBack (name_of source) (record { 0 = k }) (after_map sources keys)
    (IsKeyText-key_text k within.0) (after_map-reads_back sources keys within.1)

-- ---- members that say keys

-- the members of an after key say its keys
key_members-say : (entries : Named AfterKey) → AllValues ReadsBack entries
    → EachNamedIs (IsKeyJson false) (key_members entries) entries
key_members-say [] all = tt
key_members-say (e ∷ later) all =
    (refl, (key_text e.1.0, refl, inl all.0), key_members-say later all.1)

-- a text that says two keys says one
said_key : (after other : AfterKey) → ReadsBack after
    → IsKeyJson false (string (key_text after.0)) other → other ≡ after
said_key after other reads (text, is, inl says) =
    let same : text ≡ key_text after.0 = ap (λ o. unwrap_or o []) (sym is) in
    let key = IsKeyText-unique (key_text after.0) other.0 after.0
    (subst (λ t. IsKeyText t other.0) same says) reads in
    λ i. record { 0 = key i }
said_key after other reads (text, is, inr lenient) = absurd (true≢false (sym lenient.0))

-- they say no other keys
key_members-say_only : (entries after : Named AfterKey) → AllValues ReadsBack entries
    → EachNamedIs (IsKeyJson false) (key_members entries) after → after ≡ entries
key_members-say_only [] [] all each = refl
key_members-say_only [] (x ∷ after) all each = absurd each
key_members-say_only (e ∷ later) [] all each = absurd each
key_members-say_only (e ∷ later) (x ∷ after) all (named, says, each) =
    let key = said_key e.1 x.1 all.0 says in
    let rest = key_members-say_only later after all.1 each in
    λ i. (named i, key i) ∷ rest i

-- ---- the law

-- the printed after key of a tuple is read as its members
read-printed : (sources : Sources) (tuple : KeyTuple)
    → read (printed_after_key sources tuple) ≡ Some (object (key_members (after_map sources tuple)))
read-printed sources tuple =
    read-object_text (after_map sources tuple) (Ascends-after_map sources tuple)

-- the printed after key of a tuple is read as that after key
pub printed_after_key-reads : (sources : Sources) (tuple : KeyTuple) → All IsWithinType tuple
    → (d : Data) × (read (printed_after_key sources tuple) ≡ Some d)
    × AreKeys false d (after_map sources tuple)
printed_after_key-reads sources tuple within =
    let after = after_map sources tuple in
    let each = after_map-reads_back sources tuple (recursion_from_All IsWithinType tuple within) in
    let members = key_members after in
    (object members, read-printed sources tuple, (members, refl, key_members-say after each))

-- an after key that the members of another one say is that one
same_after : (d : Data) (entries after : Named AfterKey) → AllValues ReadsBack entries
    → d ≡ object (key_members entries) → AreKeys false d after → after ≡ entries
same_after d entries after all is keys =
    let (members, found, each) = subst (λ d. AreKeys false d after) is keys in
    let same : members ≡ key_members entries = ap (λ o. unwrap_or o members) (sym found) in
    key_members-say_only entries after all
    (subst (λ m. EachNamedIs (IsKeyJson false) m after) same each)

-- the bound of the printed after key of a tuple is the tuple
printed_after_key-bound : (sources : Sources) (tuple : KeyTuple) (d : Data)
    (after : Named AfterKey)
    → HaveOwnNames sources → length tuple ≡ length sources → All IsWithinType tuple
    → read (printed_after_key sources tuple) ≡ Some d → AreKeys false d after
    → bound_of sources after ≡ tuple
printed_after_key-bound sources tuple d after own_names whole within reads keys =
    let entries = after_map sources tuple in
    let each = after_map-reads_back sources tuple (recursion_from_All IsWithinType tuple within) in
    let is : d ≡ object (key_members entries) =
    ap (λ o. unwrap_or o d) (sym reads ∙ read-printed sources tuple) in
    ap (bound_of sources) (same_after d entries after each is keys)
    ∙ bound_of-after_map sources tuple own_names whole

-- a printed after key is the bound of a composite whose body has it
pub composite-bound : (composite : CompositeAggregation) (tuple : KeyTuple) (body d : Data)
    → HaveOwnNames composite.sources → length tuple ≡ length composite.sources
    → All IsWithinType tuple → read (printed_after_key composite.sources tuple) ≡ Some d
    → get (codes "after") body ≡ Some d → IsCompositeJson false body composite
    → bound_of composite.sources composite.after ≡ tuple
composite-bound composite tuple body d own_names whole within reads found is =
    printed_after_key-bound composite.sources tuple d composite.after own_names whole within reads
    (subst (λ o. IsAfter false o composite.after) found is.after)
