-- The empty results of a request, with another in place of that of a name.
use Rattle.std.proofs.Common.{◌≡◌, ℕ, List, [], ◌∷◌, None, Some, Bool, true, false, cond}
use Rattle.std.proofs.Common.{Less, Greater, map, inl, inr, refl, sym, ap, ◌∙◌, subst}
use Rattle.std.specs.BTreeMap.{is_at}
use Rattle.std.specs.List.{AllByRecursion}
use Rattle.std.specs.List.Sorted.{IsStrictlySortedBy}
use Rattle.std.specs.Map.{keys_of}
use Rattle.std.specs.Ordering.{is_eq, ordering_reverse}
use Rattle.std.proofs.lemmas.Cmp.{nat_list_cmp_total}
use Rattle.std.proofs.lemmas.Map.Keys.{sorted_head, sorted_tail}
use Rattle.std.proofs.lemmas.Map.Lookups.{exact_bytes}
use Rattle.std.proofs.lemmas.Map.Made.{keys_of-map_values}
use Rattle.std.proofs.lemmas.Option.{none-some, same_Some}
use Rattle.agg_values.specs.Names.{name_cmp, put, value_of, without}
use Rattle.agg_request_tree.specs.Request.{Request}
use Rattle.agg_request_tree.specs.declared.aggregation.Aggregation.{Aggregation}
use Rattle.agg_request_tree.proofs.PageFromGroups.{equal-from_is_eq}
use Rattle.agg_results.specs.intermediate_results.Empty.{empty_result, empty_results}
use Rattle.agg_results.specs.intermediate_results.Intermediate.{Held}
use Rattle.agg_results.specs.intermediate_results.Merging.{CountsPass, ShapesDiffer, SomeOfBoth}
use Rattle.agg_results.specs.declared.intermediate_results as declared
use Rattle.agg_results.specs.declared.metric_results.error.MergeError.{MergeError}
use Rattle.agg_results.specs.declared.metric_results.error.MergeError.TheVariants as merge
use declared.results.IntermediateAggregationResult.{IntermediateAggregationResult}
use Rattle.agg_values.proofs.NameOrder.{value-cases}
use Rattle.agg_values.proofs.NameValues.{value-gone}
use Rattle.agg_results.proofs.lemmas.intermediate_results.ToldNames.{nothing_told, past_first}

abbrev pub Result : Type 0
Result = IntermediateAggregationResult

-- ---- a name that isn't held

-- nothing is told of it
nothing-pushed : (Told : Result → Result → Type 0) (held : Held) (key : List ℕ)
    (value : Result) → value_of key held ≡ None → ¬ (SomeOfBoth Told held ((key, value) ∷ []))
nothing-pushed Told held key value none some =
    nothing_told Told held (past_first Told held key value [] None (sym none) tt some)

-- a name that was taken out isn't held
pub taken-out : {B : Type 0} (request : Request B) (name key : List ℕ) (first held : Held)
    → IsStrictlySortedBy name_cmp (keys_of request) → first ≡ empty_results request
    → held ≡ without name first → key ≡ name → value_of key held ≡ None
taken-out request name key first held up is rest same =
    (λ i. value_of (same i) ((rest ∙ ap (without name) is) i))
    ∙ value-gone nat_list_cmp_total exact_bytes (empty_results request) name
    (subst (IsStrictlySortedBy name_cmp) (sym (keys_of-map_values empty_result request)) up)

-- an error of what isn't held is of memory
pub only-memory : (error : MergeError) (held : Held) (key : List ℕ) (value : Result)
    → value_of key held ≡ None
    → (error ≡ merge.Mismatch → SomeOfBoth ShapesDiffer held ((key, value) ∷ []))
    → (error ≡ merge.TooMany → SomeOfBoth CountsPass held ((key, value) ∷ []))
    → error ≡ merge.OutOfMemory
only-memory merge.Mismatch held key value none mismatch too_many =
    absurd (nothing-pushed ShapesDiffer held key value none (mismatch refl))
only-memory merge.TooMany held key value none mismatch too_many =
    absurd (nothing-pushed CountsPass held key value none (too_many refl))
only-memory merge.OutOfMemory held key value none mismatch too_many = refl

-- ---- where a name stands in a request

module _ {B : Type 0} (name : List ℕ) where
  -- what holds of each aggregation that has the name
  abbrev pub AtName : (Aggregation B → Type 0) → Request B → Type 0
  AtName P = AllByRecursion (λ e. is_at (name_cmp name) e.0 ≡ true → P e.1)

  -- what holds of each name holds of one that has a value
  among : (P : List ℕ → Type 0) (request : Request B) (a : Aggregation B)
      → AllByRecursion P (keys_of request) → value_of name request ≡ Some a → P name
  among P [] a all found = absurd (none-some a found)
  among P (e ∷ request) a all found = elim (value-cases name e request a found) [
    | inl same ↦ subst P (sym same.0) all.0
    | inr later ↦ among P request a all.1 later
  ]

  -- names above it aren't it
  none-above : (P : Aggregation B → Type 0) (request : Request B)
      → AllByRecursion (λ k. name_cmp name k ≡ Less) (keys_of request) → AtName P request
  none-above P [] above = tt
  none-above P (e ∷ request) above = (
    λ is. let differs : is_at (name_cmp name) e.0 ≡ false = ap is_eq above.0 in
        absurd (cc (is, differs)),
    none-above P request above.1,
  )

  -- the names after one that is it are above it
  above-it : (e : List ℕ × Aggregation B) (request : Request B)
      → IsStrictlySortedBy name_cmp (keys_of (e ∷ request)) → is_at (name_cmp name) e.0 ≡ true
      → AllByRecursion (λ k. name_cmp name k ≡ Less) (keys_of request)
  above-it e request up is =
      subst (λ n. AllByRecursion (λ k. name_cmp n k ≡ Less) (keys_of request))
      (sym (exact_bytes name e.0 (equal-from_is_eq (name_cmp name e.0) is)))
      (sorted_head name_cmp e.0 (keys_of request) up)

  -- where it isn't found, no aggregation has it
  pub none-found : (P : Aggregation B → Type 0) (request : Request B)
      → value_of name request ≡ None → AtName P request
  none-found P [] none = tt
  none-found P (e ∷ request) none =
      by (is_at (name_cmp name) e.0) refl none (λ later. none-found P request later)
    where
      by : (b : Bool) → is_at (name_cmp name) e.0 ≡ b
          → cond b (Some e.1) (value_of name request) ≡ None
          → (value_of name request ≡ None → AtName P request) → AtName P (e ∷ request)
      by true is none rest = absurd (none-some e.1 (sym none))
      by false is none rest = (λ at. absurd (cc (is, at)), rest none)

  -- where it is found, only that has it
  pub only-found : (request : Request B) (a : Aggregation B)
      → IsStrictlySortedBy name_cmp (keys_of request) → value_of name request ≡ Some a
      → AtName (λ b. b ≡ a) request
  only-found [] a up found = tt
  only-found (e ∷ request) a up found =
      by (is_at (name_cmp name) e.0) refl found
      (only-found request a (sorted_tail name_cmp e.0 (keys_of request) up))
    where
      by : (b : Bool) → is_at (name_cmp name) e.0 ≡ b
          → cond b (Some e.1) (value_of name request) ≡ Some a
          → (value_of name request ≡ Some a → AtName (λ b. b ≡ a) request)
          → AtName (λ b. b ≡ a) (e ∷ request)
      by true is found rest = (
        λ at. same_Some e.1 a found,
        none-above (λ b. b ≡ a) request (above-it e request up is),
      )
      by false is found rest = (λ at. absurd (cc (is, at)), rest found)

  -- ---- the empty results, with another of the name

  -- the empty result of an entry, or another where it has the name
  abbrev pub other_at : Result → List ℕ × Aggregation B → Result
  other_at value e = cond (is_at (name_cmp name) e.0) value (empty_result e.1)

  -- the empty results, with another of the name
  abbrev pub with_other : Result → Request B → Held
  with_other value request = map (λ e. (e.0, other_at value e)) request

  others-stay : (value : Result) (request : Request B)
      → AllByRecursion (λ k. name_cmp name k ≡ Less) (keys_of request)
      → empty_results request ≡ with_other value request
  others-stay value [] above = refl
  others-stay value (e ∷ request) above =
      let differs : is_at (name_cmp name) e.0 ≡ false = ap is_eq above.0 in
      rw differs (ap (λ held. (e.0, empty_result e.1) ∷ held) (others-stay value request above.1))

  put-first : (value : Result) (request : Request B)
      → AllByRecursion (λ k. name_cmp name k ≡ Less) (keys_of request)
      → put name value (empty_results request) ≡ (name, value) ∷ empty_results request
  put-first value [] above = refl
  put-first value (e ∷ request) above = rw above.0 refl

  -- it is put in place of the name's
  pub put-other : (value : Result) (request : Request B) (a : Aggregation B)
      → IsStrictlySortedBy name_cmp (keys_of request) → value_of name request ≡ Some a
      → put name value (without name (empty_results request)) ≡ with_other value request
  put-other value [] a up found = absurd (none-some a found)
  put-other value (e ∷ request) a up found =
      by (is_at (name_cmp name) e.0) refl found
      (put-other value request a (sorted_tail name_cmp e.0 (keys_of request) up))
    where
      held : Held
      held = empty_results request

      by : (b : Bool) → is_at (name_cmp name) e.0 ≡ b
          → cond b (Some e.1) (value_of name request) ≡ Some a
          → (value_of name request ≡ Some a
          → put name value (without name held) ≡ with_other value request)
          → put name value (cond (is_at (name_cmp name) e.0) held
          ((e.0, empty_result e.1) ∷ without name held))
          ≡ (e.0, other_at value e) ∷ with_other value request
      by true is found rest =
          let same = exact_bytes name e.0 (equal-from_is_eq (name_cmp name e.0) is) in
          let above = above-it e request up is in
          rw is (put-first value request above
          ∙ (λ i. (same i, value) ∷ others-stay value request above i))
      by false is found rest =
          let below : name_cmp e.0 name ≡ Less =
          among (λ k. name_cmp e.0 k ≡ Less) request a
          (sorted_head name_cmp e.0 (keys_of request) up) found in
          let above : name_cmp name e.0 ≡ Greater =
          nat_list_cmp_total.antisymm name e.0 ∙ ap ordering_reverse below in
          rw is (rw above (ap (λ es. (e.0, empty_result e.1) ∷ es) (rest found)))
