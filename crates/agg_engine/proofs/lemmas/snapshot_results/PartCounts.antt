-- What aggregations list of a part of documents.
use Rattle.std.proofs.Common.{◌≡◌, ◌≤◌, ◌<◌, ◌++◌, ℕ, zero, suc, List, [], ◌∷◌, Bool}
use Rattle.std.proofs.Common.{length, arith, refl, sym, subst, ap, ◌∙◌}
use Rattle.std.specs.List.{AllByRecursion, AllZip, Any}
use Rattle.agg_segment.specs.storage.Document.{Fields}
use Rattle.agg_request_tree.specs.Request.{Request, agg_of, below_of}
use Rattle.agg_request_tree.specs.Uncut.{ListsAsMany, uncut, uncut_lists, uncut_lists_of}
use Rattle.agg_request_tree.specs.declared.aggregation.Aggregation.{Aggregation}
use Rattle.agg_request_tree.specs.declared.aggregation.AggregationVariants as variants
use variants.{AggregationVariants}
use variants.TheVariants.{Filter, Composite, Count, Max, Min, Sum}
use Rattle.agg_request_tree.proofs.Lists.{AllByRecursion-append}
use Rattle.agg_request_tree.proofs.PairedLists.{AllZip-append}
use Rattle.agg_request_tree.proofs.RequestTrees.{height, height-out, levels}
use Rattle.agg_request_tree.proofs.UncutLists.{uncut_lists-out}
use Rattle.agg_results.specs.StandsFor.{IsPart}
use Rattle.agg_results.proofs.Parts.{part-itself, part-left, part-length, part-right}
use Rattle.agg_results.proofs.UncutParts.{uncut-part}

module _ {B : Type 0} (is_match : B → Fields → Bool) where
  -- the lists of an aggregation and of those below it
  abbrev ListsPart : Aggregation B → Type 0
  ListsPart a =
      (xs ys : List Fields) → IsPart xs ys
      → AllZip IsPart (uncut_lists is_match a xs) (uncut_lists is_match a ys)

  -- the lists of a request whose aggregations have no more levels than a number
  below-part : (n : ℕ) → ((a : Aggregation B) → height a ≤ n → ListsPart a)
      → (request : Request B) → levels request ≤ n → (xs ys : List Fields) → IsPart xs ys
      → AllZip IsPart (uncut_lists_of is_match request xs) (uncut_lists_of is_match request ys)
  below-part n each [] low xs ys part = tt
  below-part n each (a ∷ request) low xs ys part =
      AllZip-append IsPart
      (uncut_lists is_match a.1 xs) (uncut_lists_of is_match request xs)
      (uncut_lists is_match a.1 ys) (uncut_lists_of is_match request ys)
      (each a.1 (omega arith) xs ys part) (below-part n each request (omega arith) xs ys part)

  node-part : (n : ℕ) (a : Aggregation B) → height a ≤ n → ListsPart a
  node-part zero a low xs ys part = absurd (omega (arith, height-out a))
  node-part (suc n) a low xs ys part =
      let own = uncut-part is_match (agg_of a) xs ys part in
      let below = below-part n (node-part n) (below_of a) (omega (arith, height-out a))
      (uncut is_match (agg_of a) xs) (uncut is_match (agg_of a) ys) own in
      rw (uncut_lists-out is_match a xs, uncut_lists-out is_match a ys) (own, below)

  -- the lists of a request over a part of documents are parts of its lists
  pub lists-part : (request : Request B) (xs ys : List Fields) → IsPart xs ys
      → AllZip IsPart (uncut_lists_of is_match request xs) (uncut_lists_of is_match request ys)
  lists-part request =
      below-part (levels request) (node-part (levels request)) request (omega arith)

  long-part : (limit : ℕ) (xs ys : List (List Fields)) → AllZip IsPart xs ys
      → Any (λ list. limit ≤ length list) xs → Any (λ list. limit ≤ length list) ys
  long-part limit [] ys all (k, x, within, at, long) = absurd (omega (arith, within))
  long-part limit (x ∷ xs) [] all any = absurd all
  long-part limit (x ∷ xs) (y ∷ ys) all (zero, z, within, at, long) = (
    zero,
    y,
    omega arith,
    refl,
    let shorter = part-length x y all.0 in
        let whole = subst (λ list. limit ≤ length list) (sym at) long in
        omega arith,
  )
  long-part limit (x ∷ xs) (y ∷ ys) all (suc k, z, within, at, long) =
      let rest = long-part limit xs ys all.1 (k, z, omega (arith, within), at, long) in
      (suc rest.0, rest.1, omega (arith, rest.2), rest.3, rest.4)

  -- an aggregation that lists as many of a part does so of all
  pub as_many-part : (limit : ℕ) (request : Request B) (xs ys : List Fields) → IsPart xs ys
      → ListsAsMany is_match limit request xs → ListsAsMany is_match limit request ys
  as_many-part limit request xs ys part =
      long-part limit (uncut_lists_of is_match request xs) (uncut_lists_of is_match request ys)
      (lists-part request xs ys part)

  -- an aggregation that lists as many of the documents in front, or of those left, does so of all
  pub as_many-front : (limit : ℕ) (request : Request B) (xs ys : List Fields)
      → ListsAsMany is_match limit request xs → ListsAsMany is_match limit request (xs ++ ys)
  as_many-front limit request xs ys =
      as_many-part limit request xs (xs ++ ys) (part-left xs xs ys (part-itself xs))

  pub as_many-back : (limit : ℕ) (request : Request B) (xs ys : List Fields)
      → ListsAsMany is_match limit request ys → ListsAsMany is_match limit request (xs ++ ys)
  as_many-back limit request xs ys =
      as_many-part limit request ys (xs ++ ys) (part-right ys xs ys (part-itself ys))

  -- as many as a larger number are as many as a smaller one
  pub as_many-fewer : (limit most : ℕ) (request : Request B) (documents : List Fields)
      → limit ≤ most → ListsAsMany is_match most request documents
      → ListsAsMany is_match limit request documents
  as_many-fewer limit most request documents less (k, list, within, at, long) =
      (k, list, within, at, omega (arith, long))

-- ---- no documents

uncut-none : {B : Type 0} (is_match : B → Fields → Bool) (agg : AggregationVariants B)
    → uncut is_match agg [] ≡ []
uncut-none is_match (Filter a) = refl
uncut-none is_match (Composite a) = refl
uncut-none is_match (Count a) = refl
uncut-none is_match (Max a) = refl
uncut-none is_match (Min a) = refl
uncut-none is_match (Sum a) = refl

module _ {B : Type 0} (is_match : B → Fields → Bool) where
  -- the lists are empty
  abbrev AreNone : List (List Fields) → Type 0
  AreNone = AllByRecursion (λ list. list ≡ [])

  below-none : (n : ℕ)
      → ((a : Aggregation B) → height a ≤ n → AreNone (uncut_lists is_match a []))
      → (request : Request B) → levels request ≤ n → AreNone (uncut_lists_of is_match request [])
  below-none n each [] low = tt
  below-none n each (a ∷ request) low =
      AllByRecursion-append (λ list. list ≡ []) (uncut_lists is_match a.1 [])
      (uncut_lists_of is_match request []) (each a.1 (omega arith))
      (below-none n each request (omega arith))

  node-none : (n : ℕ) (a : Aggregation B) → height a ≤ n
      → AreNone (uncut_lists is_match a [])
  node-none zero a low = absurd (omega (arith, height-out a))
  node-none (suc n) a low =
      let below = below-none n (node-none n) (below_of a) (omega (arith, height-out a)) in
      let none = uncut-none is_match (agg_of a) in
      rw (uncut_lists-out is_match a []) (
        none,
        subst (λ ds. AreNone (uncut_lists_of is_match (below_of a) ds)) (sym none) below,
      )

  none-long : (limit : ℕ) (lists : List (List Fields)) → 0 < limit → AreNone lists
      → ¬ (Any (λ list. limit ≤ length list) lists)
  none-long limit [] some all (k, x, within, at, long) = omega (arith, within)
  none-long limit (x ∷ xs) some all (zero, z, within, at, long) =
      let short = ap length (sym at ∙ all.0) in omega (arith, long)
  none-long limit (x ∷ xs) some all (suc k, z, within, at, long) =
      none-long limit xs some all.1 (k, z, omega (arith, within), at, long)

  -- of no documents, no aggregation lists any
  pub as_many-none : (limit : ℕ) (request : Request B) → 0 < limit
      → ¬ (ListsAsMany is_match limit request [])
  as_many-none limit request some =
      none-long limit (uncut_lists_of is_match request []) some
      (below-none (levels request) (node-none (levels request)) request (omega arith))
