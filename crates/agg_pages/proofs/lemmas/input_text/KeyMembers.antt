-- An after key as the members of an object: what is printed for them, and what is read back.
use Rattle.std.proofs.Common.{◌≡◌, ◌≤◌, ℕ, List, [], ◌∷◌, ◌++◌, Some, map, refl, sym, ap, ◌∙◌}
use Rattle.std.proofs.Common.{subst, Ordering, Less, Equal, Greater, Option, option_and_then}
use Rattle.std.proofs.Common.{option_map, append_assoc, append-nil, arith, false}
use Rattle.std.specs.List.{AllByRecursion, join_with_byte}
use Rattle.std.specs.List.Sorted.{IsStrictlySortedBy}
use Rattle.std.specs.Map.{keys_of}
use Rattle.std.specs.Ordering.{match_ordering, ordering_reverse}
use Rattle.std.proofs.lemmas.Cmp.{nat_list_cmp_total}
use Rattle.json.specs.Json as json
use Rattle.json.specs.Lex.{tokens}
use Rattle.json.specs.Print.{quoted}
use Rattle.json.specs.Token.{Token}
use Rattle.json.specs.Tree as tree
use Rattle.json.proofs.Printed.Tokens.{tokens-print}
use Rattle.json.proofs.Printed.Trees.{ArePrintable-json_tokens, value-json_tokens}
use Rattle.serde_json.specs.Data.{Data, Members, member, no_members, object, string}
use Rattle.serde_json.specs.Data as json_data
use Rattle.serde_json.specs.Read.{max_depth, of_json, of_members, read}
use Rattle.serde_json.specs.Written.{compact_text, members_outline, members_text, outline}
use Rattle.serde_json.proofs.Texts.{print-outline}
use Rattle.agg_values.specs.KeyText.{key_text}
use Rattle.agg_values.specs.Names.{Named, name_cmp, put}
use Rattle.agg_values.specs.declared.after_key.AfterKey.{AfterKey}
use Rattle.agg_results.specs.final_results.ResultsText.{member_text, object_text, quoted_after_key}

-- ---- names that ascend

-- the names ascend
abbrev pub Ascends : {T : Type 0} → Named T → Type 0
Ascends entries = IsStrictlySortedBy name_cmp (keys_of entries)

-- a name below another is below all names that the other is below
all_above : (name other : List ℕ) (names : List (List ℕ)) → name_cmp name other ≡ Less
    → AllByRecursion (λ n. name_cmp other n ≡ Less) names
    → AllByRecursion (λ n. name_cmp name n ≡ Less) names
all_above name other [] below all = tt
all_above name other (n ∷ names) below all = (
  nat_list_cmp_total.trans name other n below all.0,
  all_above name other names below all.1,
)

-- a name below all others and one that is put there is below all of them
below_put : {T : Type 0} (first name : List ℕ) (value : T) (entries : Named T)
    → name_cmp first name ≡ Less → AllByRecursion (λ n. name_cmp first n ≡ Less) (keys_of entries)
    → AllByRecursion (λ n. name_cmp first n ≡ Less) (keys_of (put name value entries))
below_put first name value [] below all = (below, tt)
below_put first name value (e ∷ later) below all =
    by (name_cmp name e.0) (below_put first name value later below all.1)
  where
    by : (o : Ordering)
        → AllByRecursion (λ n. name_cmp first n ≡ Less) (keys_of (put name value later))
        → AllByRecursion (λ n. name_cmp first n ≡ Less)
        (keys_of (match_ordering o ((name, value) ∷ e ∷ later) ((e.0, value) ∷ later) (e
        ∷ put name value later)))
    by Less rest = (below, all)
    by Equal rest = all
    by Greater rest = (all.0, rest)

-- names ascend still once a name is put among them
pub Ascends-put : {T : Type 0} (name : List ℕ) (value : T) (entries : Named T) → Ascends entries
    → Ascends (put name value entries)
unfolding IsStrictlySortedBy
Ascends-put name value [] ascends = (tt, tt)
Ascends-put name value (e ∷ later) ascends =
    by (name_cmp name e.0) refl (Ascends-put name value later ascends.1)
  where
    by : (o : Ordering) → name_cmp name e.0 ≡ o → Ascends (put name value later)
        → Ascends (match_ordering o ((name, value) ∷ e ∷ later) ((e.0, value) ∷ later) (e
        ∷ put name value later))
    by Less is rest = ((is, all_above name e.0 (keys_of later) is ascends.0), ascends)
    by Equal is rest = ascends
    by Greater is rest =
        let below : name_cmp e.0 name ≡ Less =
        nat_list_cmp_total.antisymm e.0 name ∙ ap ordering_reverse is in
        (below_put e.0 name value later below ascends.0, rest)

-- ---- members

-- the members of an after key: each key's text by the name of its source
abbrev pub key_members : Named AfterKey → Members
key_members [] = no_members
key_members (e ∷ later) = member e.0 (string (key_text e.1.0)) (key_members later)

-- what is printed between the braces
joined-members_text : (entries : Named AfterKey)
    → join_with_byte 44 (map (λ e. member_text e.0 (quoted_after_key e.1)) entries) ++ 125 ∷ []
    ≡ members_text false (key_members entries)
joined-members_text [] = refl
joined-members_text (e ∷ []) =
    append_assoc (quoted e.0) (58 ∷ quoted_after_key e.1) (125 ∷ [])
joined-members_text (e ∷ next ∷ later) =
    let rest = join_with_byte 44 (map (λ e. member_text e.0 (quoted_after_key e.1)) (next
    ∷ later)) in
    append_assoc (member_text e.0 (quoted_after_key e.1)) (44 ∷ rest) (125 ∷ [])
    ∙ append_assoc (quoted e.0) (58 ∷ quoted_after_key e.1) (44 ∷ (rest ++ 125 ∷ []))
    ∙ ap (λ text. quoted e.0 ++ 58 ∷ (quoted_after_key e.1 ++ 44 ∷ text))
    (joined-members_text (next ∷ later))

-- an after key is printed as the object of its members is
object_text-compact_text : (entries : Named AfterKey)
    → object_text quoted_after_key entries ≡ compact_text (object (key_members entries))
object_text-compact_text entries = ap (λ text. 123 ∷ text) (joined-members_text entries)

-- ---- reading back

-- a name below all names of a list is below one in the midst of it
below_later : (first : List ℕ) (before : Named AfterKey) (e : List ℕ × AfterKey)
    (later : Named AfterKey)
    → AllByRecursion (λ n. name_cmp first n ≡ Less) (keys_of (before ++ e ∷ later))
    → name_cmp first e.0 ≡ Less
below_later first [] e later all = all.0
below_later first (b ∷ before) e later all = below_later first before e later all.1

-- a member whose name is above those before it goes last
put-key_members : (before : Named AfterKey) (e : List ℕ × AfterKey) (later : Named AfterKey)
    → Ascends (before ++ e ∷ later)
    → json_data.put e.0 (string (key_text e.1.0)) (key_members before)
    ≡ key_members (before ++ e ∷ [])
unfolding IsStrictlySortedBy
put-key_members [] e later ascends = refl
put-key_members (first ∷ before) e later ascends =
    let above : name_cmp e.0 first.0 ≡ Greater =
    nat_list_cmp_total.antisymm e.0 first.0
    ∙ ap ordering_reverse (below_later first.0 before e later ascends.0) in
    rw above (ap (member first.0 (string (key_text first.1.0)))
    (put-key_members before e later ascends.1))

-- members whose names ascend are read as they stand
of_members-key_members : (before later : Named AfterKey) → Ascends (before ++ later)
    → of_members (members_outline (key_members later)) (key_members before)
    ≡ Some (key_members (before ++ later))
of_members-key_members before [] ascends =
    ap (λ entries. Some (key_members entries)) (sym (append-nil before))
of_members-key_members before (e ∷ later) ascends =
    let same = append_assoc before (e ∷ []) later in
    ap (of_members (members_outline (key_members later))) (put-key_members before e later ascends)
    ∙ of_members-key_members (before ++ e ∷ []) later (subst Ascends (sym same) ascends)
    ∙ ap (λ entries. Some (key_members entries)) same

-- texts nest no deeper than their object
shallow : (entries : Named AfterKey)
    → tree.members_depth (members_outline (key_members entries)) ≤ 0
shallow [] = omega arith
shallow (e ∷ later) = omega (arith, shallow later)

-- texts have no numbers to be printed
have_numbers : (entries : Named AfterKey)
    → tree.MembersHaveNumbers (members_outline (key_members entries))
have_numbers [] = tt
have_numbers (e ∷ later) = (tt, have_numbers later)

-- what is read of these tokens
abbrev read_tokens : List Token → Option Data
read_tokens ts =
    option_and_then of_json
    (option_and_then (λ p. json.if_last p.0 p.1) (json.value max_depth ts))

-- an after key whose names ascend is read as the object of its members
pub read-object_text : (entries : Named AfterKey) → Ascends entries
    → read (object_text quoted_after_key entries) ≡ Some (object (key_members entries))
read-object_text entries ascends =
    let d = object (key_members entries) in
    let j = outline d in
    let same = ap tokens (object_text-compact_text entries ∙ sym (print-outline d))
    ∙ tokens-print (tree.json_tokens j) (ArePrintable-json_tokens j (have_numbers entries)) in
    ap read_tokens (same ∙ sym (append-nil (tree.json_tokens j)))
    ∙ ap (λ p. option_and_then of_json (option_and_then (λ p. json.if_last p.0 p.1) p))
    (value-json_tokens j max_depth [] (omega (arith, shallow entries)))
    ∙ ap (option_map object) (of_members-key_members [] entries ascends)
