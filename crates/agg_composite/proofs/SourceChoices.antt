-- The choices gathered from sources, one source on.
use Rattle.std.proofs.Common.{◌≡◌, ℕ, ◌+◌, ◌-◌, ◌<◌, ◌≤◌, List, [], ◌∷◌, ◌++◌, length}
use Rattle.std.proofs.Common.{length-append, get_or, take, drop, sum, sym, ap, ◌∙◌, subst, arith}
use Rattle.std.proofs.lemmas.List.{drop-append-le, length-drop, take-append-le, take_all, take_more}
use Rattle.std.proofs.lemmas.List.Sums.{sum_by-append, sum_by-cons}
use Rattle.agg_request_tree.specs.Source.{Sources}
use Rattle.agg_request_tree.specs.declared.source.CompositeAggregationSource as kind
use kind.{CompositeAggregationSource}
use Rattle.agg_composite.specs.declared.accessor.accessor.CompositeSourceAccessors.{
  CompositeSourceAccessors,
}
use Rattle.agg_composite.specs.Choices.{AddsChoices, AreChoicesIn, AreChoicesOf, AreGathered}
use Rattle.agg_composite.specs.Choices.{CanRead, values_read}
use Rattle.agg_composite.specs.Walk.{parts}
use Rattle.agg_composite.specs.declared.walk.choice.Choice.{Choice}

-- the parts of choices, with one part more
parts-more : (sizes : List ℕ) (xs ys : List Choice) → sum sizes ≡ length xs
    → parts (sizes ++ length ys ∷ []) (xs ++ ys) ≡ parts sizes xs ++ ys ∷ []
parts-more [] [] ys e = ap (λ zs. zs ∷ []) (take_all (length ys) ys (omega arith))
parts-more [] (x ∷ xs) ys e = absurd (omega arith)
parts-more (size ∷ sizes) xs ys e =
    let all = sum_by-cons (λ n. n) size sizes in
    let l : size ≤ length xs = omega (arith, all, e) in
    let long = length-drop size xs in
    (λ i. take-append-le size xs ys l i
    ∷ parts (sizes ++ length ys ∷ []) (drop-append-le size xs ys l i))
    ∙ ap (λ rows. take size xs ∷ rows)
    (parts-more sizes (drop size xs) ys (omega (arith, all, e, l, long)))

-- the choices of sources, with those of one source more
source-more : (sources : Sources) (accessors : List CompositeSourceAccessors) (doc : ℕ)
    (rows : List (List Choice)) (source : CompositeAggregationSource)
    (a : CompositeSourceAccessors) (own : List Choice)
    → AreChoicesIn sources accessors doc rows
    → (CanRead source a doc → AreChoicesOf source a own (values_read source a doc))
    → AreChoicesIn (sources ++ source ∷ []) (accessors ++ a ∷ []) doc (rows ++ own ∷ [])
source-more [] [] doc [] source a own p q = (q, tt)
source-more [] [] doc (row ∷ rows) source a own p q = absurd p
source-more [] (b ∷ accessors) doc rows source a own p q = absurd p
source-more (s ∷ sources) [] doc rows source a own p q = absurd p
source-more (s ∷ sources) (b ∷ accessors) doc [] source a own p q = absurd p
source-more (s ∷ sources) (b ∷ accessors) doc (row ∷ rows) source a own p q =
    (p.0, source-more sources accessors doc rows source a own p.1 q)

-- the choices of one more source
gathered-source : (sources : Sources) (accessors : List CompositeSourceAccessors) (doc : ℕ)
    (sizes : List ℕ) (before now : List Choice) (source : CompositeAggregationSource)
    (a : CompositeSourceAccessors) (size : ℕ)
    → AreGathered sources accessors doc sizes before
    → AddsChoices source a doc (values_read source a doc) before now
    → size ≡ length now - length before
    → AreGathered (sources ++ source ∷ []) (accessors ++ a ∷ []) doc (sizes ++ size ∷ []) now
gathered-source sources accessors doc sizes before now source a size so_far own is =
    let long = ap length own.1 ∙ length-append before own.0 in
    let size_is : size ≡ length own.0 = omega (arith, is, long) in
    let whole = so_far.whole in
    let sums = sum_by-append (λ n. n) sizes (size ∷ []) in
    let one = sum_by-cons (λ n. n) size [] in
    let each = so_far.each in
    let more = length-append sizes (size ∷ []) in
    let many = length-append sources (source ∷ []) in
    record {
      whole = omega (arith, long, size_is, whole, sums, one);
      each = omega (arith, each, more, many);
      read = subst
          (AreChoicesIn (sources ++ source ∷ []) (accessors ++ a ∷ []) doc)
          (sym ((λ i. parts (sizes ++ size_is i ∷ []) (own.1 i))
          ∙ parts-more sizes before own.0 whole))
          (source-more sources accessors doc (parts sizes before) source a own.0 so_far.read own.2);
    }

pub gathered-more : (sources : Sources) (accessors : List CompositeSourceAccessors) (doc i : ℕ)
    (sizes : List ℕ) (before now : List Choice) (source : CompositeAggregationSource)
    (a : CompositeSourceAccessors) (size : ℕ) (then : List ℕ)
    → i < length sources → i < length accessors
    → get_or sources i source ≡ source → get_or accessors i a ≡ a
    → AreGathered (take i sources) (take i accessors) doc sizes before
    → AddsChoices source a doc (values_read source a doc) before now
    → size ≡ length now - length before → then ≡ sizes ++ size ∷ []
    → AreGathered (take (i + 1) sources) (take (i + 1) accessors) doc then now
gathered-more sources accessors doc i sizes before now source a size then l m source_is a_is so_far
    own is e =
    let one : take (i + 1) sources ≡ take i sources ++ source ∷ [] =
    take_more sources i source l ∙ ap (λ x. take i sources ++ x ∷ []) source_is in
    let other : take (i + 1) accessors ≡ take i accessors ++ a ∷ [] =
    take_more accessors i a m ∙ ap (λ x. take i accessors ++ x ∷ []) a_is in
    let goal = gathered-source (take i sources) (take i accessors) doc sizes before now source a
    size so_far own is in
    subst
    (λ (p : Sources × List CompositeSourceAccessors × List ℕ). AreGathered p.0 p.1 doc p.2 now)
    (λ j. (sym one j, sym other j, sym e j)) goal
