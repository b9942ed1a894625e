-- What is told of results of both sides, where the other side is one result.
use Rattle.std.proofs.Common.{◌≡◌, ℕ, List, [], ◌∷◌, Option, None, Some, ◌⊎◌, inl, inr, refl, sym}
use Rattle.std.proofs.Common.{ap, ◌∙◌, subst, Bool, true, false, cond}
use Rattle.std.specs.BTreeMap.{is_at}
use Rattle.std.specs.Option.{IfSome, IsSomeAnd}
use Rattle.std.proofs.lemmas.Cmp.{nat_list_cmp_total}
use Rattle.std.proofs.lemmas.Map.Lookups.{exact_bytes}
use Rattle.std.proofs.lemmas.Option.{none-some, same_Some}
use Rattle.agg_values.specs.Names.{name_cmp, put, value_of, without}
use Rattle.agg_values.proofs.NameValues.{first_or_later, other-gone, other-put}
use Rattle.agg_values.proofs.NameValues.{same_key, value-first, value-put}
use Rattle.agg_results.specs.intermediate_results.Intermediate.{Held}
use Rattle.agg_results.specs.intermediate_results.Merging.{AreMerged, CountsPass, EitherOrBoth}
use Rattle.agg_results.specs.intermediate_results.Merging.{IsMerged, MergedTo, ShapesDiffer}
use Rattle.agg_results.specs.intermediate_results.Merging.{SomeOfBoth}
use Rattle.agg_results.specs.declared.intermediate_results as declared
use declared.results.IntermediateAggregationResult.{IntermediateAggregationResult}
use Rattle.agg_results.proofs.lemmas.intermediate_results.PutResults.{either-left, to_depth}

abbrev Result : Type 0
Result = IntermediateAggregationResult

-- ---- results of both sides

module _ (Told : Result → Result → Type 0) (held : Held) where
  -- nothing is told of no results
  pub nothing_told : ¬ (SomeOfBoth Told held [])
  nothing_told (name, r, other, at, at_other, told) = none-some other at_other

  module _ (key : List ℕ) (value : Result) (rest : Held) where
    abbrev More : Held
    More = (key, value) ∷ rest

    -- what is told of a first result
    pub first_told : (result : Option Result) → result ≡ value_of key held
        → IsSomeAnd result (λ r. Told r value) → SomeOfBoth Told held More
    first_told None is told = absurd told
    first_told (Some r) is told =
        (key, r, value, sym is, value-first nat_list_cmp_total exact_bytes key value rest, told)

    past-by : (name : List ℕ) (r other : Result) (result : Option Result)
        → result ≡ value_of key held → IfSome result (λ r. ¬ (Told r value))
        → value_of name held ≡ Some r → Told r other
        → ((name ≡ key) × (value ≡ other)) ⊎ (value_of name rest ≡ Some other)
        → SomeOfBoth Told held rest
    past-by name r other None is none at told (inl same) =
        absurd (none-some r (is ∙ ap (λ n. value_of n held) (sym same.0) ∙ at))
    past-by name r other (Some own) is none at told (inl same) =
        let known : own ≡ r
        = same_Some own r (is ∙ ap (λ n. value_of n held) (sym same.0) ∙ at) in
        absurd (none (subst (λ x. Told x value) (sym known) (subst (Told r) (sym same.1) told)))
    past-by name r other result is none at told (inr later) = (name, r, other, at, later, told)

    -- what isn't told of the first is told of one after it
    pub past_first : (result : Option Result) → result ≡ value_of key held
        → IfSome result (λ r. ¬ (Told r value)) → SomeOfBoth Told held More
        → SomeOfBoth Told held rest
    past_first result is none (name, r, other, at, at_other, told) =
        past-by name r other result is none at told
        (first_or_later nat_list_cmp_total exact_bytes name (key, value) rest other at_other)

-- a count passes, and the shapes don't differ
pub passes_alone : (held : Held) (key : List ℕ) (value : Result) (result : Option Result)
    → result ≡ value_of key held
    → IsSomeAnd result (λ r. ¬ (ShapesDiffer r value) × CountsPass r value)
    → ¬ (SomeOfBoth ShapesDiffer held ((key, value) ∷ []))
    × SomeOfBoth CountsPass held ((key, value) ∷ [])
passes_alone held key value None is told = absurd told
passes_alone held key value (Some r) is told = (
  λ some. nothing_told ShapesDiffer held
      (past_first ShapesDiffer held key value [] (Some r) is told.0 some),
  first_told CountsPass held key value [] (Some r) is told.1,
)

-- ---- a result that was pushed

without-by : (b : Bool) (e : List ℕ × Result) (held less : Held) → less ≡ held
    → ◌≡◌ {A = Option Result} (cond b (Some e.1) None) None → cond b held (e ∷ less) ≡ e ∷ held
without-by true e held less same none = absurd (none-some e.1 (sym none))
without-by false e held less same none = ap (λ fs. e ∷ fs) same

first-none : (b : Bool) (r : Result) (more : Option Result)
    → cond b (Some r) more ≡ None → (◌≡◌ {A = Option Result} (cond b (Some r) None) None)
    × (more ≡ None)
first-none true r more none = absurd (none-some r (sym none))
first-none false r more none = (refl, none)

-- where a name isn't held, nothing is taken away
without-absent : (held : Held) (key : List ℕ) → value_of key held ≡ None → without key held ≡ held
without-absent [] key none = refl
without-absent (e ∷ held) key none =
    let both = first-none (is_at (name_cmp key) e.0) e.1 (value_of key held) none in
    without-by (is_at (name_cmp key) e.0) e held (without key held)
    (without-absent held key both.1) both.0

module _ (held pushed : Held) (key : List ℕ) (value w : Result) (found : Option Result)
    (is : found ≡ value_of key held) (new : pushed ≡ put key w (without key held))
    (over : EitherOrBoth IsMerged found (Some value) (Some w)) where
  pushed-by : (b : Bool) (depth : ℕ) (name : List ℕ) → is_at (name_cmp name) key ≡ b
      → EitherOrBoth (MergedTo depth) (value_of name held) (cond b (Some value) None)
      (value_of name pushed)
  pushed-by true depth name same =
      let own = same_key nat_list_cmp_total exact_bytes name key same in
      let at : value_of name pushed ≡ Some w =
      ap (λ n. value_of n pushed) own ∙ ap (value_of key) new
      ∙ value-put nat_list_cmp_total exact_bytes (without key held) key w in
      subst (EitherOrBoth (MergedTo depth) (value_of name held) (Some value)) (sym at)
      (subst (λ r. EitherOrBoth (MergedTo depth) r (Some value) (Some w))
      (is ∙ sym (ap (λ n. value_of n held) own))
      (to_depth depth found (Some value) (Some w) over))
  pushed-by false depth name apart =
      let at : value_of name pushed ≡ value_of name held =
      ap (value_of name) new
      ∙ other-put nat_list_cmp_total exact_bytes (without key held) key name w apart
      ∙ other-gone nat_list_cmp_total exact_bytes held key name apart in
      subst (EitherOrBoth (MergedTo depth) (value_of name held) None) (sym at)
      (either-left (MergedTo depth) (value_of name held))

  pub pushed-merged : AreMerged held ((key, value) ∷ []) pushed
  pushed-merged depth name = pushed-by (is_at (name_cmp name) key) depth name refl

  absent-by : (r : Option Result) → r ≡ None → EitherOrBoth IsMerged r (Some value) (Some w)
      → w ≡ value
  absent-by None none h = same_Some w value h
  absent-by (Some r) none h = absurd (none-some r (sym none))

  -- a name that wasn't held
  pub pushed-absent : value_of key held ≡ None → pushed ≡ put key value held
  pushed-absent none =
      new
      ∙ (λ i. put key (absent-by found (is ∙ none) over i) (without-absent held key none i))
