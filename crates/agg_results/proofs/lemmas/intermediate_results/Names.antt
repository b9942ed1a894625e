-- Results that are put over one another, name by name.
use Rattle.std.proofs.Common.{◌≡◌, ℕ, ◌≤◌, ◌⊎◌, inl, inr, List, [], ◌∷◌, ◌++◌, Option, None, Some}
use Rattle.std.proofs.Common.{Bool, true, false, refl, sym, ap, ◌∙◌, subst, arith}
use Rattle.std.specs.Prelude.{IsSomeAnd}
use Rattle.std.specs.BTreeMap.{is_at}
use Rattle.std.specs.List.Sorted.{IsStrictlySortedBy}
use Rattle.std.specs.Map.{keys_of}
use Rattle.std.proofs.lemmas.Bool.{false≢true}
use Rattle.std.proofs.lemmas.Cmp.{nat_list_cmp_total}
use Rattle.std.proofs.lemmas.Map.Lookups.{exact_bytes}
use Rattle.std.proofs.lemmas.Option.{none-some, same_Some}
use Rattle.agg_values.specs.Names.{name_cmp, put, value_of, without}
use Rattle.agg_values.proofs.NameValues.{Among, among_keys, among_more, other-gone}
use Rattle.agg_values.proofs.NameValues.{other-put, same_key, sorted-gone, value-gone}
use Rattle.agg_values.proofs.NameValues.{value-put}
use Rattle.agg_results.specs.metric_results.Merges.{Merges}
use Rattle.agg_results.specs.intermediate_results.Intermediate.{Held}
use Rattle.agg_results.specs.intermediate_results.Merging.{AreMerged, CountsPass, EitherOrBoth}
use Rattle.agg_results.specs.intermediate_results.Merging.{IsMerged, ShapesDiffer, SomeOfBoth}
use Rattle.agg_results.specs.intermediate_results.Outcome.{IsPut}
use Rattle.agg_results.specs.declared.intermediate_results as intermediate
use intermediate.results.IntermediateAggregationResult.{IntermediateAggregationResult}
use Rattle.agg_results.proofs.lemmas.intermediate_results.Levels.{levels, levels-gone}
use Rattle.agg_results.proofs.lemmas.intermediate_results.PutResults.{either-left, to_depth}

abbrev Result : Type 0
Result = IntermediateAggregationResult

-- the names that have a value are among these
abbrev pub AreNamed : List (List ℕ) → Held → Type 0
AreNamed names others = (name : List ℕ) (o : Result) → value_of name others ≡ Some o
    → Among names name

-- results so far, and others to come
pub record Pushing (first other_first : Held) (was : Bool) (held others : Held)
    (names : List (List ℕ)) (now : Bool) : Type 0 where
  pub ascending : IsStrictlySortedBy name_cmp (keys_of others)
  pub depth : levels others ≤ levels other_first
  pub named : AreNamed names others
  pub untouched : (name : List ℕ) (o : Result) → value_of name others ≡ Some o
      → (value_of name held ≡ value_of name first) × (value_of name other_first ≡ Some o)
  pub joins : now ≡ false → (name : List ℕ) (w : Option Result)
      → EitherOrBoth IsMerged (value_of name held) (value_of name others) w
      → EitherOrBoth IsMerged (value_of name first) (value_of name other_first) w
  pub differ : SomeOfBoth ShapesDiffer first other_first → SomeOfBoth ShapesDiffer held others
  pub pass : now ≡ false → SomeOfBoth CountsPass first other_first
      → SomeOfBoth CountsPass held others
  pub kept : was ≡ true → now ≡ true
  pub passed : now ≡ true → (was ≡ true) ⊎ SomeOfBoth CountsPass first other_first

module _ (first other_first : Held) (was : Bool) where
  abbrev pub Now : Held → Held → List (List ℕ) → Bool → Type 0
  Now = Pushing first other_first was

  pub pushing-start : (names : List (List ℕ)) → names ≡ keys_of other_first
      → IsStrictlySortedBy name_cmp (keys_of other_first) → Now first other_first names was
  pushing-start names are up = record {
    ascending = up;
    depth = omega arith;
    named = λ name o at. subst (λ ns. Among ns name) (sym are)
        (among_keys nat_list_cmp_total exact_bytes name o other_first at);
    untouched = λ name o at. (refl, at);
    joins = λ nay name w is. is;
    differ = λ some. some;
    pass = λ nay some. some;
    kept = λ yes. yes;
    passed = λ yes. inl yes;
  }

  -- what is told of the next result and that of its name is told at first
  pub told_first : (Told : Result → Result → Type 0) (held others : Held)
      (names : List (List ℕ)) (now : Bool) → Now held others names now
      → (name : List ℕ) (value : Result) → value_of name others ≡ Some value
      → IsSomeAnd (value_of name held) (λ r. Told r value)
      → SomeOfBoth Told first other_first
  told_first Told held others names now is name value at told =
      by (value_of name held) refl told
    where
      by : (r : Option Result) → value_of name held ≡ r → IsSomeAnd r (λ r. Told r value)
          → SomeOfBoth Told first other_first
      by None same none = absurd none
      by (Some r) same some =
          let found = is.untouched name value at in
          (name, r, value, sym found.0 ∙ same, found.1, some)

  module _ (held others held_new others_new : Held) (name : List ℕ) (value w : Result)
      (names : List (List ℕ)) (now next : Bool)
      (is : Now held others (names ++ name ∷ []) now)
      (at : value_of name others ≡ Some value)
      (rest : others_new ≡ without name others)
      (new : held_new ≡ put name w (without name held))
      (done : IsPut now next name value held w) where
    gone : value_of name others_new ≡ None
    gone = ap (value_of name) rest
        ∙ value-gone nat_list_cmp_total exact_bytes others name is.ascending

    here : value_of name held_new ≡ Some w
    here = ap (value_of name) new
        ∙ value-put nat_list_cmp_total exact_bytes (without name held) name w

    left : (other : List ℕ) → is_at (name_cmp other) name ≡ false
        → value_of other others_new ≡ value_of other others
    left other apart = ap (value_of other) rest
        ∙ other-gone nat_list_cmp_total exact_bytes others name other apart

    stayed : (other : List ℕ) → is_at (name_cmp other) name ≡ false
        → value_of other held_new ≡ value_of other held
    stayed other apart = ap (value_of other) new
        ∙ other-put nat_list_cmp_total exact_bytes (without name held) name other w apart
        ∙ other-gone nat_list_cmp_total exact_bytes held name other apart

    which-by : (b : Bool) (other : List ℕ) → is_at (name_cmp other) name ≡ b
        → (other ≡ name) ⊎ (is_at (name_cmp other) name ≡ false)
    which-by true other same = inl (same_key nat_list_cmp_total exact_bytes other name same)
    which-by false other same = inr same

    which : (other : List ℕ) → (other ≡ name) ⊎ (is_at (name_cmp other) name ≡ false)
    which other = which-by (is_at (name_cmp other) name) other refl

    -- a name that is left is another
    apart : (other : List ℕ) (o : Result) → value_of other others_new ≡ Some o
        → is_at (name_cmp other) name ≡ false
    apart other o found =
        elim (which other) [
          | inl same ↦
              absurd (none-some o (sym (ap (λ n. value_of n others_new) same ∙ gone) ∙ found))
          | inr nay ↦ nay
        ]

    before : next ≡ false → now ≡ false
    before nay = by now refl
      where
        by : (b : Bool) → now ≡ b → now ≡ false
        by true raised = absurd (false≢true (sym nay ∙ done.merges.kept raised))
        by false same = same

    told-on : (Told : Result → Result → Type 0)
        → ¬ (IsSomeAnd (value_of name held) (λ r. Told r value))
        → SomeOfBoth Told held others → SomeOfBoth Told held_new others_new
    told-on Told none (other, r, o, at_r, at_o, told) =
        elim (which other) [
          | inl same ↦
              absurd (none (subst (λ x. IsSomeAnd x (λ r. Told r value))
              (sym at_r ∙ ap (λ n. value_of n held) same)
              (subst (Told r) (same_Some o value
              (sym at_o ∙ ap (λ n. value_of n others) same ∙ at)) told)))
          | inr nay ↦ (other, r, o, stayed other nay ∙ at_r, left other nay ∙ at_o, told)
        ]

    joined-here : next ≡ false → (x : Option Result)
        → EitherOrBoth IsMerged (value_of name held_new) (value_of name others_new) x
        → EitherOrBoth IsMerged (value_of name held) (value_of name others) x
    joined-here nay x join =
        let end : x ≡ Some w =
        subst (λ o. EitherOrBoth IsMerged (Some w) o x) gone
        (subst (λ r. EitherOrBoth IsMerged r (value_of name others_new) x) here join) in
        subst (EitherOrBoth IsMerged (value_of name held) (value_of name others)) (sym end)
        (subst (λ o. EitherOrBoth IsMerged (value_of name held) o (Some w)) (sym at)
        (done.merged nay))

    joined-on : next ≡ false → (other : List ℕ) (x : Option Result)
        → EitherOrBoth IsMerged (value_of other held_new) (value_of other others_new) x
        → EitherOrBoth IsMerged (value_of other held) (value_of other others) x
    joined-on nay other x join =
        elim (which other) [
          | inl same ↦
              subst (λ n. EitherOrBoth IsMerged (value_of n held) (value_of n others) x) (sym same)
              (joined-here nay x
              (subst (λ n. EitherOrBoth IsMerged (value_of n held_new) (value_of n others_new) x)
              same join))
          | inr different ↦
              subst (λ r. EitherOrBoth IsMerged r (value_of other others) x)
              (stayed other different)
              (subst (λ o. EitherOrBoth IsMerged (value_of other held_new) o x)
              (left other different) join)
        ]

    -- one more result was put
    pub pushed_some : Now held_new others_new names next
    pushed_some = record {
      ascending = subst (λ es. IsStrictlySortedBy name_cmp (keys_of es)) (sym rest)
          (sorted-gone nat_list_cmp_total exact_bytes name others is.ascending);
      depth = (let h = subst (λ es. levels es ≤ levels others) (sym rest)
          (levels-gone others name) in let i = is.depth in omega arith);
      named = λ other o found.
          let nay = apart other o found in
          elim (among_more names name other (is.named other o (sym (left other nay) ∙ found))) [
            | inl h ↦ h
            | inr same ↦
                absurd (none-some o (sym (ap (λ n. value_of n others_new) same ∙ gone) ∙ found))
          ];
      untouched = λ other o found.
          let nay = apart other o found in
          let was = is.untouched other o (sym (left other nay) ∙ found) in
          (stayed other nay ∙ was.0, was.1);
      joins = λ nay other x join. is.joins (before nay) other x (joined-on nay other x join);
      differ = λ some. told-on ShapesDiffer done.merges.alike (is.differ some);
      pass = λ nay some. told-on CountsPass (done.merges.few nay) (is.pass (before nay) some);
      kept = λ yes. done.merges.kept (is.kept yes);
      passed = λ yes. elim (done.merges.passed yes) [
        | inl earlier ↦ is.passed earlier
        | inr pass ↦
            inr (told_first CountsPass held others (names ++ name ∷ []) now is name value at pass)
      ];
    }

  module _ (held others others_new : Held) (name : List ℕ) (names : List (List ℕ)) (now : Bool)
      (is : Now held others (names ++ name ∷ []) now) (at : value_of name others ≡ None)
      (rest : others_new ≡ without name others) where
    same-by : (b : Bool) (other : List ℕ) → is_at (name_cmp other) name ≡ b
        → value_of other others_new ≡ value_of other others
    same-by true other same =
        let is_name = same_key nat_list_cmp_total exact_bytes other name same in
        ap (λ n. value_of n others_new) is_name
        ∙ ap (value_of name) rest
        ∙ value-gone nat_list_cmp_total exact_bytes others name is.ascending
        ∙ sym (ap (λ n. value_of n others) is_name ∙ at)
    same-by false other nay = ap (value_of other) rest
        ∙ other-gone nat_list_cmp_total exact_bytes others name other nay

    same : (other : List ℕ) → value_of other others_new ≡ value_of other others
    same other = same-by (is_at (name_cmp other) name) other refl

    told-still : (Told : Result → Result → Type 0) → SomeOfBoth Told held others
        → SomeOfBoth Told held others_new
    told-still Told (other, r, o, at_r, at_o, told) = (other, r, o, at_r, same other ∙ at_o, told)

    -- a name without a value changes nothing
    pub pushed_none : Now held others_new names now
    pushed_none = record {
      ascending = subst (λ es. IsStrictlySortedBy name_cmp (keys_of es)) (sym rest)
          (sorted-gone nat_list_cmp_total exact_bytes name others is.ascending);
      depth = (let h = subst (λ es. levels es ≤ levels others) (sym rest)
          (levels-gone others name) in let i = is.depth in omega arith);
      named = λ other o found.
          elim (among_more names name other (is.named other o (sym (same other) ∙ found))) [
            | inl h ↦ h
            | inr is_name ↦
                absurd (none-some o (sym (ap (λ n. value_of n others) is_name ∙ at)
                ∙ sym (same other) ∙ found))
          ];
      untouched = λ other o found. is.untouched other o (sym (same other) ∙ found);
      joins = λ nay other x join. is.joins nay other x
          (subst (λ o. EitherOrBoth IsMerged (value_of other held) o x) (same other) join);
      differ = λ some. told-still ShapesDiffer (is.differ some);
      pass = λ nay some. told-still CountsPass (is.pass nay some);
      kept = is.kept;
      passed = is.passed;
    }

  -- ---- no name is left

  module _ (held others : Held) (names : List (List ℕ)) (now : Bool)
      (is : Now held others names now) (none : names ≡ []) where
    nothing-by : (name : List ℕ) (o : Option Result) → value_of name others ≡ o
        → value_of name others ≡ None
    nothing-by name None at = at
    nothing-by name (Some o) at =
        absurd (subst (λ ns. Among ns name) none (is.named name o at))

    nothing : (name : List ℕ) → value_of name others ≡ None
    nothing name = nothing-by name (value_of name others) refl

    none-told : (Told : Result → Result → Type 0) → ¬ (SomeOfBoth Told held others)
    none-told Told (name, r, o, at_r, at_o, told) = none-some o (sym (nothing name) ∙ at_o)

    pub all_merged : Merges was now (SomeOfBoth ShapesDiffer first other_first)
        (SomeOfBoth CountsPass first other_first)
    all_merged = record {
      alike = λ some. none-told ShapesDiffer (is.differ some);
      few = λ nay some. none-told CountsPass (is.pass nay some);
      kept = is.kept;
      passed = is.passed;
    }

    pub all_joined : now ≡ false → AreMerged first other_first held
    all_joined nay depth name =
        to_depth depth (value_of name first) (value_of name other_first) (value_of name held)
        (is.joins nay name (value_of name held)
        (subst (λ o. EitherOrBoth IsMerged (value_of name held) o (value_of name held))
        (sym (nothing name)) (either-left IsMerged (value_of name held))))
