-- What composites count of lists of documents end to end.
use Rattle.std.proofs.Common.{◌≡◌, ◌≤◌, ◌+◌, ◌++◌, ℕ, zero, suc, List, [], ◌∷◌, Bool, Option, None}
use Rattle.std.proofs.Common.{Some, map, length, length-append, refl, ap, ◌∙◌, sym, arith}
use Rattle.std.specs.Prelude.{option_map}
use Rattle.std.specs.List.{filter, sum_by}
use Rattle.std.proofs.lemmas.List.Concat.{flat_map-append}
use Rattle.std.proofs.lemmas.List.Elements.{filter-append}
use Rattle.std.proofs.lemmas.List.Sums.{sum_by-cons}
use Rattle.agg_values.specs.Names.{value_of}
use Rattle.agg_segment.specs.storage.Document.{Fields}
use Rattle.agg_request_tree.specs.Occurrences.{bound_of, is_past, occurrences, occurrences_in}
use Rattle.agg_request_tree.specs.Occurrences.{past_occurrences}
use Rattle.agg_request_tree.specs.Request.{Request, agg_of, below_of}
use Rattle.agg_values.specs.Tuple.{KeyTuple}
use Rattle.agg_request_tree.specs.Source.{Sources, rules_of}
use Rattle.agg_request_tree.specs.Uncut.{counted, uncut}
use Rattle.agg_request_tree.specs.declared.aggregation.Aggregation.{Aggregation}
use Rattle.agg_request_tree.specs.declared.aggregation.Aggregation.TheFolds.{fold_out-Aggregation}
use Rattle.agg_request_tree.specs.declared.aggregation.AggregationVariants.{AggregationVariants}
use Rattle.agg_request_tree.specs.declared.aggregation.AggregationVariants.TheVariants as variants
use variants.{Filter, Composite, Count, Max, Min, Sum}
use Rattle.agg_request_tree.proofs.RequestTrees.{height, height-out, levels}
use Rattle.agg_request_tree.proofs.UncutLists.{once_each-append, uncut-append}
use Rattle.agg_engine.specs.snapshot_results.Steps.{counted_in, counted_of, counted_step}
use Rattle.agg_engine.specs.snapshot_results.Steps.{own_counted, past_named, past_own}

-- a sum over mapped items
sum-mapped : {X Y : Type 0} (f : Y → ℕ) (g : X → Y) (xs : List X)
    → sum_by f (map g xs) ≡ sum_by (λ x. f (g x)) xs
sum-mapped f g [] = refl
sum-mapped f g (x ∷ xs) =
    sum_by-cons f (g x) (map g xs)
    ∙ ap (λ n. f (g x) + n) (sum-mapped f g xs)
    ∙ sym (sum_by-cons (λ y. f (g y)) x xs)

module _ {B : Type 0} (is_match : B → Fields → Bool) where
  -- what the composites of an aggregation count, one level open
  pub counted_in-out : (a : Aggregation B) (documents : List Fields)
      → counted_in is_match a documents
      ≡ own_counted (agg_of a) documents
      + counted_of is_match (below_of a) (uncut is_match (agg_of a) documents)
  counted_in-out a documents =
      ap (λ counts. counts documents)
      (fold_out-Aggregation B (List Fields → ℕ) (counted_step is_match) a)
      ∙ ap (λ n. own_counted (agg_of a) documents + n)
      (sum-mapped
      (λ (e : List ℕ × (List Fields → ℕ)). e.1 (uncut is_match (agg_of a) documents))
      (λ (e : List ℕ × Aggregation B). (e.0, counted_in is_match e.1)) (below_of a))

  own-append : (agg : AggregationVariants B) (xs ys : List Fields)
      → own_counted agg (xs ++ ys) ≡ own_counted agg xs + own_counted agg ys
  own-append (Composite c) xs ys =
      ap length (once_each-append (occurrences c.sources) xs ys)
      ∙ length-append (counted c xs) (counted c ys)
  own-append (Filter a) xs ys = refl
  own-append (Count a) xs ys = refl
  own-append (Max a) xs ys = refl
  own-append (Min a) xs ys = refl
  own-append (Sum a) xs ys = refl

  -- what an aggregation counts of two lists
  abbrev Adds : Aggregation B → Type 0
  Adds a =
      (xs ys : List Fields)
      → counted_in is_match a (xs ++ ys) ≡ counted_in is_match a xs + counted_in is_match a ys

  -- what a request counts, whose aggregations have no more levels than a number
  below-adds : (n : ℕ) → ((a : Aggregation B) → height a ≤ n → Adds a)
      → (request : Request B) → levels request ≤ n → (xs ys : List Fields)
      → counted_of is_match request (xs ++ ys)
      ≡ counted_of is_match request xs + counted_of is_match request ys
  below-adds n each [] low xs ys = refl
  below-adds n each (a ∷ request) low xs ys =
      let own = each a.1 (omega arith) xs ys in
      let rest = below-adds n each request (omega arith) xs ys in
      let all = sum_by-cons (λ (e : List ℕ × Aggregation B). counted_in is_match e.1 (xs ++ ys)) a
      request in
      let first = sum_by-cons (λ (e : List ℕ × Aggregation B). counted_in is_match e.1 xs) a
      request in
      let second = sum_by-cons (λ (e : List ℕ × Aggregation B). counted_in is_match e.1 ys) a
      request in
      omega arith

  node-adds : (n : ℕ) (a : Aggregation B) → height a ≤ n → Adds a
  node-adds zero a low xs ys = absurd (omega (arith, height-out a))
  node-adds (suc n) a low xs ys =
      let own = own-append (agg_of a) xs ys in
      let below = below-adds n (node-adds n) (below_of a) (omega (arith, height-out a))
      (uncut is_match (agg_of a) xs) (uncut is_match (agg_of a) ys) in
      let list = ap (counted_of is_match (below_of a)) (uncut-append is_match (agg_of a) xs ys) in
      let all = counted_in-out a (xs ++ ys) in
      let first = counted_in-out a xs in
      let second = counted_in-out a ys in
      omega arith

  -- what the composites of a request count of two lists is what they count of each
  pub counted-append : (request : Request B) (xs ys : List Fields)
      → counted_of is_match request (xs ++ ys)
      ≡ counted_of is_match request xs + counted_of is_match request ys
  counted-append request =
      below-adds (levels request) (node-adds (levels request)) request (omega arith)

-- the occurrences past a bound in two lists
pub past-joined : (sources : Sources) (bound : KeyTuple) (xs ys : List Fields)
    → length (past_occurrences sources bound (xs ++ ys))
    ≡ length (past_occurrences sources bound xs) + length (past_occurrences sources bound ys)
past-joined sources bound xs ys =
    let past = is_past (rules_of sources) bound in
    ap (λ tuples. length (filter past tuples)) (flat_map-append (occurrences sources) xs ys)
    ∙ ap length (filter-append past (occurrences_in sources xs) (occurrences_in sources ys))
    ∙ length-append (past_occurrences sources bound xs) (past_occurrences sources bound ys)

-- those past the after key of an aggregation
past-own : {B : Type 0} (o : Option (AggregationVariants B)) (xs ys : List Fields)
    → past_own o (xs ++ ys) ≡ past_own o xs + past_own o ys
past-own None xs ys = refl
past-own (Some (Filter a)) xs ys = refl
past-own (Some (Count a)) xs ys = refl
past-own (Some (Max a)) xs ys = refl
past-own (Some (Min a)) xs ys = refl
past-own (Some (Sum a)) xs ys = refl
past-own (Some (Composite c)) xs ys = past-joined c.sources (bound_of c.sources c.after) xs ys

-- those past the after key of the aggregation of a name
pub past-append : {B : Type 0} (name : List ℕ) (request : Request B) (xs ys : List Fields)
    → past_named name request (xs ++ ys) ≡ past_named name request xs + past_named name request ys
past-append {B = B} name request =
    past-own (option_map (λ (a : Aggregation B). agg_of a) (value_of name request))

pub past-none : {B : Type 0} (name : List ℕ) (request : Request B)
    → past_named name request [] ≡ 0
past-none name request = let twice = past-append name request [] [] in omega arith
