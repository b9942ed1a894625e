-- Texts of results that are appended by name, over the members that a bucket has of its own.
use Rattle.std.proofs.Common.{◌≡◌, ℕ, List, [], ◌∷◌, ◌++◌, Bool, true, false, Less, None, Option}
use Rattle.std.proofs.Common.{Some, Result, Ok, Err, OnOk, append_assoc, map, refl, subst, sym, ap}
use Rattle.std.proofs.Common.{◌∙◌}
use Rattle.std.proofs.lemmas.List.{append-nil}
use Rattle.std.proofs.lemmas.Map.Keys.{sorted_head, sorted_tail}
use Rattle.std.proofs.lemmas.Map.Made.{keys_of-map_values}
use Rattle.std.specs.Prelude.{codes}
use Rattle.std.specs.List.{AllByRecursion}
use Rattle.std.specs.List.Sorted.{IsStrictlySortedBy}
use Rattle.std.specs.Map.{keys_of}
use Rattle.json.specs.Print.{quoted}
use Rattle.agg_values.specs.Names.{Named, name_cmp}
use Rattle.agg_results.specs.final_results.Appending.{AppendsMembers, above, below, more_members}
use Rattle.agg_results.specs.final_results.Appending.{still_first}
use Rattle.agg_results.specs.final_results.OwnMembers.{member_of}
use Rattle.agg_results.specs.final_results.ResultsText.{Texts, comma_unless, member_text}
use Rattle.agg_results.specs.final_results.ResultsText.{members_text, put_all}
use Rattle.agg_results.specs.final_results.PartTexts.{result_text}
use Rattle.agg_results.specs.final_results.ResultsText.{results_members, results_text}
use Rattle.agg_results.specs.declared.final_results.types.AggregationResults.{AggregationResults}
use Rattle.agg_results.proofs.lemmas.final_results.AppendedItems.{all-appended, item-appended}
use Rattle.agg_results.proofs.lemmas.final_results.AppendedItems.{member-appended}
use Rattle.agg_results.proofs.lemmas.final_results.PutMembers.{put_all-none, put_all-splits}
use Rattle.agg_results.proofs.lemmas.final_results.ResultFolds.{results_members-each}

-- the members of a bucket ascend
pub own-ascend : {A B : Type 0} (f : A → List ℕ) (g : B → List ℕ) (count : Option A)
    (key : Option B)
    → IsStrictlySortedBy name_cmp
    (keys_of (member_of (codes "doc_count") f count ++ member_of (codes "key") g key))
unfolding IsStrictlySortedBy
own-ascend f g None None = tt
own-ascend f g None (Some key) = (tt, tt)
own-ascend f g (Some count) None = (tt, tt)
own-ascend f g (Some count) (Some key) = ((refl, tt), (tt, tt))

not-first : (members : Texts) → still_first false members ≡ false
not-first [] = refl
not-first (m ∷ members) = refl

four-parts : (a b c d : List ℕ) → a ++ (b ++ (c ++ d)) ≡ (a ++ (b ++ c)) ++ d
four-parts a b c d = simp append_assoc

-- members, and others after them
more_members-append : (first : Bool) (members others : Texts)
    → more_members first (members ++ others)
    ≡ more_members first members ++ more_members (still_first first members) others
more_members-append first [] others = refl
more_members-append first (m ∷ members) others =
    let more = more_members-append false members others
    ∙ ap (λ b. more_members false members ++ more_members b others) (not-first members) in
    ap (λ t. comma_unless first ++ (member_text m.0 m.1 ++ t)) more
    ∙ four-parts (comma_unless first) (member_text m.0 m.1) (more_members false members)
    (more_members false others)

names-before : {T : Type 0} (f : T → List ℕ) (name : List ℕ) (items : Named T)
    → AllByRecursion (λ other. name_cmp name other ≡ Less) (keys_of items)
    → AllByRecursion (λ other. name_cmp name other ≡ Less)
    (keys_of (map (λ r. (r.0, f r.1)) items))
names-before f name [] h = tt
names-before f name (e ∷ items) h = (h.0, names-before f name items h.1)

module _ {T : Type 0} (f : T → List ℕ) where
  -- the texts of these by their names
  abbrev pub texts_of : Named T → Texts
  texts_of items = map (λ r. (r.0, f r.1)) items

  -- the whole stays the same while one more is appended, after the own members below its name
  whole-with : (own rest : Texts) (name value before below_text after whole : List ℕ)
      (first middle next : Bool)
      → put_all ((name, value) ∷ rest) own
      ≡ below name own ++ (name, value) ∷ put_all rest (above name own)
      → AppendsMembers (below name own) first middle before below_text
      → after ≡ below_text ++ (comma_unless middle ++ member_text name value)
      → next ≡ false
      → before ++ more_members first (put_all ((name, value) ∷ rest) own) ≡ whole
      → after ++ more_members next (put_all rest (above name own)) ≡ whole
  whole-with own rest name value before below_text after whole first middle next split put a n w =
      let others = (name, value) ∷ put_all rest (above name own) in
      let parts : below_text ++ more_members middle others ≡ whole =
      ap (λ t. t ++ more_members middle others) put.0
      ∙ append_assoc before (more_members first (below name own)) (more_members middle others)
      ∙ ap (λ b. before ++ (more_members first (below name own) ++ more_members b others)) put.1
      ∙ ap (λ t. before ++ t) (sym (more_members-append first (below name own) others))
      ∙ ap (λ members. before ++ more_members first members) (sym split)
      ∙ w in
      item-appended below_text after whole (member_text name value)
      (member_text name value ∷ map (λ m. member_text m.0 m.1) (put_all rest (above name own)))
      (map (λ m. member_text m.0 m.1) (put_all rest (above name own))) middle next refl a n parts

  pub result-appended : (own left : Texts) (items rest : Named T) (name : List ℕ) (value : T)
      (shown again before below_text spaced named after whole : List ℕ) (first middle next : Bool)
      → items ≡ (name, value) ∷ rest
      → IsStrictlySortedBy name_cmp (keys_of own)
      → IsStrictlySortedBy name_cmp (keys_of items)
      → shown ≡ name
      → AppendsMembers (below shown own) first middle before below_text
      → left ≡ above shown own
      → spaced ≡ below_text ++ comma_unless middle
      → next ≡ false
      → again ≡ name
      → named ≡ spaced ++ (quoted again ++ 58 ∷ [])
      → after ≡ named ++ f value
      → before ++ more_members first (put_all (texts_of items) own) ≡ whole
      → (after ++ more_members next (put_all (texts_of rest) left) ≡ whole)
      × IsStrictlySortedBy name_cmp (keys_of rest)
  result-appended own left items rest name value shown again before below_text spaced named after
      whole first middle next i own_up up s put l space n g name_text value_text w =
      let ascend : IsStrictlySortedBy name_cmp (name ∷ keys_of rest) =
      subst (λ xs. IsStrictlySortedBy name_cmp (keys_of xs)) i up in
      let first_is : before ++ more_members first (put_all ((name, f value) ∷ texts_of rest) own)
      ≡ whole = ap (λ xs. before ++ more_members first (put_all (texts_of xs) own)) (sym i) ∙ w in
      let split = put_all-splits name (f value) (texts_of rest) own (names-before f name rest
      (sorted_head name_cmp name (keys_of rest) ascend)) own_up in
      let here = subst (λ n. AppendsMembers (below n own) first middle before below_text) s put in
      let member = member-appended below_text spaced named after again name (f value) middle space g
      name_text value_text in
      let whole_is = whole-with own (texts_of rest) name (f value) before below_text after whole
      first middle next split here member n first_is in (
        ap (λ members. after ++ more_members next (put_all (texts_of rest) members)) (l
            ∙ ap (λ n. above n own) s) ∙ whole_is,
        sorted_tail name_cmp name (keys_of rest) ascend,
      )

  -- at the end the own members that are left are appended, and a brace
  pub results-done : (own members : Texts) (items : Named T)
      (start opened before after closed : List ℕ) (first next : Bool)
      → items ≡ []
      → opened ≡ start ++ 123 ∷ []
      → AppendsMembers own first next before after
      → closed ≡ after ++ 125 ∷ []
      → before ++ more_members first (put_all (texts_of items) own)
      ≡ opened ++ more_members true members
      → closed ≡ start ++ members_text members
  results-done own members items start opened before after closed first next i o put c w =
      let whole = append-nil after ∙ put.0
      ∙ ap (λ xs. before ++ more_members first (put_all (texts_of xs) own)) (sym i) ∙ w in
      all-appended start opened after closed (map (λ m. member_text m.0 m.1) members) [] next
      123 125 o whole refl c

-- results that stand in no bucket
alone-text : (results : AggregationResults) (own : Texts)
    → own ≡ []
    → IsStrictlySortedBy name_cmp (keys_of results.0)
    → members_text (put_all (results_members results) own) ≡ results_text results
alone-text results own none up =
    let names : keys_of (results_members results) ≡ keys_of results.0 =
    ap keys_of (results_members-each results) ∙ keys_of-map_values result_text results.0 in
    ap (λ members. members_text (put_all (results_members results) members)) none
    ∙ ap members_text (put_all-none (results_members results)
    (subst (IsStrictlySortedBy name_cmp) (sym names) up))

-- what was appended is the text of results that stand in no bucket
pub results-alone : {A B : Type 0} (r : Result A B) (results : AggregationResults) (own : Texts)
    (old new : List ℕ)
    → own ≡ []
    → OnOk r (new ≡ old ++ members_text (put_all (results_members results) own))
    → OnOk r (IsStrictlySortedBy name_cmp (keys_of results.0))
    → OnOk r (new ≡ old ++ results_text results)
results-alone (Ok a) results own old new none text up =
    text ∙ ap (λ t. old ++ t) (alone-text results own none up)
results-alone (Err b) results own old new none text up = tt
