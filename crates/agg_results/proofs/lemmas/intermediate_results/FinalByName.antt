-- The final result of each name of a request: first of the last name, and then under the names.
use Rattle.std.proofs.Common.{◌≡◌, ◌≢◌, ◌≤◌, ◌++◌, ℕ, List, [], ◌∷◌, Option, map, reverse}
use Rattle.std.proofs.Common.{refl, sym, ap, ◌∙◌, subst, append_assoc, append-nil, arith}
use Rattle.std.specs.declared.cmp.Ordering.TheVariants.{Less}
use Rattle.std.specs.List.{AllByRecursion}
use Rattle.std.specs.List.Sorted.{IsStrictlySortedBy}
use Rattle.std.specs.Map.{keys_of}
use Rattle.std.proofs.lemmas.List.{map-append, reverse-append}
use Rattle.std.proofs.lemmas.Map.Keys.{sorted_head, sorted_tail}
use Rattle.agg_values.specs.Names.{Named, name_cmp, put, value_of, without}
use Rattle.agg_values.proofs.NameOrder.{Ascends, apart, between, value-without}
use Rattle.agg_values.proofs.MadeByName.{by_name, by_name-more}
use Rattle.agg_request_tree.specs.Request.{Request}
use Rattle.agg_request_tree.specs.declared.aggregation.Aggregation.{Aggregation}
use Rattle.agg_request_tree.proofs.RequestTrees.{height, levels}
use Rattle.agg_results.specs.intermediate_results.Final.{final_result}
use Rattle.agg_results.specs.intermediate_results.Intermediate.{Held}
use Rattle.agg_results.specs.declared.intermediate_results.results.IntermediateAggregationResult
    as declared
use declared.{IntermediateAggregationResult}
use Rattle.agg_results.specs.declared.final_results.types.AggregationResult.{AggregationResult}

-- what a name of a request makes of what is held
abbrev pub final_of : {B : Type 0} → Held → List ℕ × Aggregation B → AggregationResult
final_of held a = final_result a.1 (value_of a.0 held)

-- ---- the names before a last one

-- what holds of each name holds of those before it
front_all : {K : Type 0} (P : K → Type 0) (front rest : List K) → AllByRecursion P (front ++ rest)
    → AllByRecursion P front
front_all P [] rest all = tt
front_all P (k ∷ front) rest all = (all.0, front_all P front rest all.1)

front_sorted : (front rest : List (List ℕ)) → IsStrictlySortedBy name_cmp (front ++ rest)
    → IsStrictlySortedBy name_cmp front
unfolding IsStrictlySortedBy
front_sorted [] rest sorted = tt
front_sorted (k ∷ front) rest sorted =
    (front_all (λ n. name_cmp k n ≡ Less) front rest sorted.0, front_sorted front rest sorted.1)

front_ascends : {B : Type 0} (front rest : Request B) → Ascends (front ++ rest) → Ascends front
front_ascends {B = B} front rest ascends =
    front_sorted (keys_of front) (keys_of rest)
    (subst (IsStrictlySortedBy name_cmp)
    (map-append (λ (e : List ℕ × Aggregation B). e.0) front rest) ascends)

-- they have no more levels
front-levels : {B : Type 0} (front : Request B) (name : List ℕ) (a : Aggregation B)
    → levels front ≤ levels (front ++ (name, a) ∷ [])
front-levels [] name a = omega arith
front-levels (b ∷ front) name a = let rest = front-levels front name a in omega arith

-- the last has no more levels
last-height : {B : Type 0} (front : Request B) (name : List ℕ) (a : Aggregation B)
    → height a ≤ levels (front ++ (name, a) ∷ [])
last-height [] name a = omega arith
last-height (b ∷ front) name a = let rest = last-height front name a in omega arith

-- names hold what they held
abbrev AreKept : {B : Type 0} → Held → Held → Request B → Type 0
AreKept held now left = AllByRecursion (λ a. value_of a.0 now ≡ value_of a.0 held) left

last_kept : {B : Type 0} (held now : Held) (front : Request B) (name : List ℕ) (a : Aggregation B)
    → AreKept held now (front ++ (name, a) ∷ []) → value_of name now ≡ value_of name held
last_kept held now [] name a kept = kept.0
last_kept held now (b ∷ front) name a kept = last_kept held now front name a kept.1

-- those before it still do when the last is taken out
front_kept : {B : Type 0} (held now : Held) (front : Request B) (name : List ℕ) (a : Aggregation B)
    → Ascends (front ++ (name, a) ∷ []) → AreKept held now (front ++ (name, a) ∷ [])
    → AreKept held (without name now) front
front_kept held now [] name a ascends kept = tt
front_kept held now (b ∷ front) name a ascends kept =
    let later = keys_of (front ++ (name, a) ∷ []) in
    let below : name_cmp b.0 name ≡ Less = between (λ n. name_cmp b.0 n ≡ Less) front name a []
    (sorted_head name_cmp b.0 later ascends) in
    let differs : name ≢ b.0 = λ same. apart b.0 name below (sym same) in (
      value-without b.0 name now differs ∙ kept.0,
      front_kept held now front name a (sorted_tail name_cmp b.0 later ascends) kept.1,
    )

-- ---- the last name first

-- the final results of the names after those that are left, which hold what they held
pub record AreShownAfter {B : Type 0} (request : Request B) (held now : Held) (left : Request B)
    (last_first : List AggregationResult) : Type 0 where
  pub made : map (final_of held) left ++ reverse last_first ≡ map (final_of held) request
  pub ascends : Ascends left
  pub kept : AreKept held now left
  pub depth : levels left ≤ levels request

-- at first all names are left
pub AreShownAfter-none : {B : Type 0} (request left : Request B) (held : Held)
    (last_first : List AggregationResult) → left ≡ request → last_first ≡ [] → Ascends request
    → AreShownAfter request held held left last_first
AreShownAfter-none {B = B} request left held last_first e none ascends =
    rw (e, none) (record {
      made = append-nil (map (final_of held) request);
      ascends = ascends;
      kept = each request;
      depth = omega arith;
    })
  where
    each : (names : Request B) → AreKept held held names
    each [] = tt
    each (a ∷ names) = (refl, each names)

-- the last name that is left is taken out and shown
pub AreShownAfter-more : {B : Type 0} (request : Request B) (held now then : Held)
    (left front : Request B) (last_first more : List AggregationResult) (name : List ℕ)
    (a : Aggregation B) (found : Option IntermediateAggregationResult) (shown : AggregationResult)
    → AreShownAfter request held now left last_first → left ≡ front ++ (name, a) ∷ []
    → found ≡ value_of name now → then ≡ without name now → shown ≡ final_result a found
    → more ≡ last_first ++ shown ∷ [] → AreShownAfter request held then front more
AreShownAfter-more request held now then left front last_first more name a found shown h e value
    taken is later =
    let f = final_of held in
    let here : AreShownAfter request held now (front ++ (name, a) ∷ []) last_first =
    subst (λ l. AreShownAfter request held now l last_first) e h in
    let own : shown ≡ f (name, a) =
    is ∙ ap (final_result a) (value ∙ last_kept held now front name a here.kept) in
    let reversed : reverse more ≡ f (name, a) ∷ reverse last_first =
    ap reverse later ∙ reverse-append last_first (shown ∷ [])
    ∙ ap (λ s. s ∷ reverse last_first) own in
    rw taken (record {
      made = ap (λ rest. map f front ++ rest) reversed
          ∙ sym (append_assoc (map f front) (f (name, a) ∷ []) (reverse last_first))
          ∙ ap (λ all. all ++ reverse last_first) (sym (map-append f front ((name, a) ∷ [])))
          ∙ here.made;
      ascends = front_ascends front ((name, a) ∷ []) here.ascends;
      kept = front_kept held now front name a here.ascends here.kept;
      depth = (let fewer = front-levels front name a in let all = here.depth in omega arith);
    })

-- the last name that is left has no more levels than the request
pub AreShownAfter-height : {B : Type 0} (request : Request B) (held now : Held)
    (left front : Request B) (last_first : List AggregationResult) (name : List ℕ)
    (a : Aggregation B) → AreShownAfter request held now left last_first
    → left ≡ front ++ (name, a) ∷ [] → height a ≤ levels request
AreShownAfter-height request held now left front last_first name a h e =
    let last : height a ≤ levels left = subst (λ l. height a ≤ levels l) (sym e)
    (last-height front name a) in
    let all = h.depth in
    omega arith

-- the names that are left, when one is taken off the end
pub popped : {A B : Type 0} (f : A → B) (old new : List A) (x : A) → old ≡ new ++ x ∷ []
    → map f old ≡ map f new ++ f x ∷ []
popped f old new x e = ap (map f) e ∙ map-append f new (x ∷ [])

-- ---- under the names

-- the final results so far, and those of the names that are left
pub record AreNamedBefore {B : Type 0} (request : Request B) (held : Held) (left : Request B)
    (last_first : List AggregationResult) (results : Named AggregationResult) : Type 0 where
  pub made : results ++ by_name (final_of held) left ≡ by_name (final_of held) request
  pub rest : reverse last_first ≡ map (final_of held) left

-- at first all names are left
pub AreNamedBefore-none : {B : Type 0} (request left : Request B) (held : Held)
    (last_first : List AggregationResult) (results : Named AggregationResult) → left ≡ request
    → reverse last_first ≡ map (final_of held) request → results ≡ []
    → AreNamedBefore request held left last_first results
AreNamedBefore-none request left held last_first results e shown none =
    rw (e, none) (record { made = refl; rest = shown })

-- the first name that is left gets its result
pub AreNamedBefore-more : {B : Type 0} (request : Request B) (held : Held) (left later : Request B)
    (last_first fewer : List AggregationResult) (results more : Named AggregationResult)
    (name : List ℕ) (a : Aggregation B) (shown : AggregationResult) → Ascends request
    → AreNamedBefore request held left last_first results → left ≡ (name, a) ∷ later
    → last_first ≡ fewer ++ shown ∷ [] → more ≡ put name shown results
    → AreNamedBefore request held later fewer more
AreNamedBefore-more request held left later last_first fewer results more name a shown ascends h e
    last put_in =
    let f = final_of held in
    let both : shown ∷ reverse fewer ≡ f (name, a) ∷ map f later =
    sym (ap reverse last ∙ reverse-append fewer (shown ∷ [])) ∙ h.rest ∙ ap (map f) e in
    let own : shown ≡ f (name, a) = cc in
    record {
      made = by_name-more f request left results more name a later shown ascends h.made e put_in
          own;
      rest = cc;
    }
