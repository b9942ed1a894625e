-- Lists of documents by how often each stands in them.
use Rattle.std.proofs.Common.{◌≡◌, ℕ, zero, suc, ◌+◌, ◌-◌, ◌*◌, ◌^◌, ◌<◌, ◌≤◌, List, [], ◌∷◌, ◌++◌}
use Rattle.std.proofs.Common.{Bool, true, false, arith}
use Rattle.std.proofs.Common.{cond, drop, get_or, take, length, map, replicate, refl, sym, ap, ◌∙◌}
use Rattle.std.proofs.Common.{append_assoc, length-append, length-take}
use Rattle.std.specs.Prelude.{filter_map, sum}
use Rattle.std.specs.Io.Iter.{u64_saturate}
use Rattle.std.proofs.Math.Nat.{add_comm, zero-mul, suc-mul}
use Rattle.std.proofs.lemmas.List.{append-nil, get_or-map, length-map, length-replicate, map-append}
use Rattle.std.proofs.lemmas.List.{replicate-append-replicate, take_all, take_more}
use Rattle.std.proofs.lemmas.List.Sums.{sum_by-append, sum_by-cons}
use Rattle.agg_segment.specs.storage.Document.{Fields}
use Rattle.agg_segment.specs.Query.{matches}
use Rattle.agg_segment.specs.Segment.{Stored, document_at, documents_at}
use Rattle.agg_segment.specs.declared.query.QueryTree.{QueryTree}
use Rattle.agg_request_tree.specs.Matching.{filter_matches}
use Rattle.agg_request_tree.specs.Metrics.{number_of}
use Rattle.agg_request_tree.specs.Occurrences.{occurrences}
use Rattle.agg_request_tree.specs.Uncut.{once_each, uncut}
use Rattle.agg_request_tree.specs.declared.aggregation.AggregationVariants.{AggregationVariants}
use Rattle.agg_request_tree.specs.declared.aggregation.AggregationVariants.TheVariants as asks
use Rattle.agg_request_tree.proofs.UncutLists.{uncut-append}
use Rattle.agg_engine_tree.specs.uncut.Uncut.{repeated, times, own_weights}
use Rattle.agg_engine_tree.proofs.lemmas.uncut.CutNumbers.{cut-sum}

-- ---- repeated documents

-- they are as many as the weights together
pub length-repeated : (ws : List ℕ) (ds : List Fields) → length ws ≡ length ds
    → length (repeated ws ds) ≡ sum ws
length-repeated [] ds l = refl
length-repeated (w ∷ ws) [] l = absurd (omega (arith, l))
length-repeated (w ∷ ws) (d ∷ ds) l =
    length-append (replicate w d) (repeated ws ds)
    ∙ (λ j. length-replicate w d j + length-repeated ws ds (omega (arith, l)) j)
    ∙ sym (sum_by-cons (λ x. x) w ws)

-- documents that stand once are those documents
pub repeated-once : (ds : List Fields) → repeated (replicate (length ds) 1) ds ≡ ds
repeated-once [] = refl
repeated-once (d ∷ ds) = ap (λ others. d ∷ others) (repeated-once ds)

-- weights of one are not cut
pub cut-ones : (n : ℕ) → replicate n 1 ≡ map u64_saturate (replicate n 1)
cut-ones zero = refl
cut-ones (suc n) = ap (λ ns. 1 ∷ ns) (cut-ones n)

-- weights that are cut to ones are ones
ones-only : (n : ℕ) (ws : List ℕ) → replicate n 1 ≡ map u64_saturate ws → ws ≡ replicate n 1
ones-only zero [] cut = refl
ones-only zero (w ∷ ws) cut = absurd (let e = ap length cut in omega (arith, e))
ones-only (suc n) [] cut = absurd (let e = ap length cut in omega (arith, e))
ones-only (suc n) (w ∷ ws) cut =
    let one : w ≡ 1 = let e = ap (λ ns. get_or ns 0 0) cut in omega (arith, e) in
    λ i. one i ∷ ones-only n ws (ap (drop 1) cut) i

-- so that documents with such weights are those documents
pub repeated-ones : (segment : Stored) (docs ws : List ℕ)
    → replicate (length docs) 1 ≡ map u64_saturate ws
    → repeated ws (documents_at segment docs) ≡ documents_at segment docs
repeated-ones segment docs ws cut =
    let ds = documents_at segment docs in
    ap (λ vs. repeated vs ds) (ones-only (length docs) ws cut
    ∙ ap (λ n. replicate n 1) (sym (length-map docs (document_at segment))))
    ∙ repeated-once ds

repeated-append : (ws vs : List ℕ) (ds es : List Fields) → length ws ≡ length ds
    → repeated (ws ++ vs) (ds ++ es) ≡ repeated ws ds ++ repeated vs es
repeated-append [] vs [] es l = refl
repeated-append [] vs (d ∷ ds) es l = absurd (omega (arith, l))
repeated-append (w ∷ ws) vs [] es l = absurd (omega (arith, l))
repeated-append (w ∷ ws) vs (d ∷ ds) es l =
    ap (λ others. replicate w d ++ others) (repeated-append ws vs ds es (omega (arith, l)))
    ∙ sym (append_assoc (replicate w d) (repeated ws ds) (repeated vs es))

-- ---- what an aggregation lists of them

module _ {X : Type 0} (elements : Fields → List X) where
  once-one : (d : Fields) (xs : List X) → map (λ x. d) xs ≡ replicate (length xs) d
  once-one d [] = refl
  once-one d (x ∷ xs) = ap (λ ds. d ∷ ds) (once-one d xs)

  once-single : (d : Fields)
      → once_each elements (d ∷ []) ≡ replicate (length (once_each elements (d ∷ []))) d
  once-single d =
      let one = append-nil (map (λ x. d) (elements d)) ∙ once-one d (elements d) in
      one ∙ ap (λ n. replicate n d) (sym (ap length one ∙ length-replicate (length (elements d)) d))

match-single : (b : Bool) (d : Fields)
    → cond b (d ∷ []) [] ≡ replicate (length (cond b (d ∷ []) [])) d
match-single true d = refl
match-single false d = refl

-- a document is listed as often as it is
uncut-single : (a : AggregationVariants QueryTree) (d : Fields)
    → uncut matches a (d ∷ []) ≡ replicate (times a d) d
uncut-single (asks.Filter f) d = match-single (filter_matches matches f.query d) d
uncut-single (asks.Composite c) d = once-single (occurrences c.sources) d
uncut-single (asks.Count m) d = once-single (λ e. e m.field) d
uncut-single (asks.Max m) d = once-single (λ e. filter_map number_of (e m.field)) d
uncut-single (asks.Min m) d = once-single (λ e. filter_map number_of (e m.field)) d
uncut-single (asks.Sum m) d = once-single (λ e. filter_map number_of (e m.field)) d

uncut-none : (a : AggregationVariants QueryTree) → uncut matches a [] ≡ []
uncut-none (asks.Filter f) = refl
uncut-none (asks.Composite c) = refl
uncut-none (asks.Count m) = refl
uncut-none (asks.Max m) = refl
uncut-none (asks.Min m) = refl
uncut-none (asks.Sum m) = refl

uncut-replicate : (a : AggregationVariants QueryTree) (n : ℕ) (d : Fields)
    → uncut matches a (replicate n d) ≡ replicate (n * times a d) d
uncut-replicate a zero d =
    uncut-none a ∙ ap (λ n. replicate n d) (sym (zero-mul (times a d)))
uncut-replicate a (suc n) d =
    uncut-append matches a (d ∷ []) (replicate n d)
    ∙ (λ j. uncut-single a d j ++ uncut-replicate a n d j)
    ∙ replicate-append-replicate (times a d) (n * times a d) d
    ∙ ap (λ m. replicate m d) (add_comm (times a d) (n * times a d) ∙ sym (suc-mul n (times a d)))

-- of repeated documents it lists each as often as its own weights say
pub uncut-repeated : (a : AggregationVariants QueryTree) (ws : List ℕ) (ds : List Fields)
    → uncut matches a (repeated ws ds) ≡ repeated (own_weights a ws ds) ds
uncut-repeated a [] ds = uncut-none a
uncut-repeated a (w ∷ ws) [] = uncut-none a
uncut-repeated a (w ∷ ws) (d ∷ ds) =
    uncut-append matches a (replicate w d) (repeated ws ds)
    ∙ (λ j. uncut-replicate a w d j ++ uncut-repeated a ws ds j)

pub length-own_weights : (a : AggregationVariants QueryTree) (ws : List ℕ) (ds : List Fields)
    → length ws ≡ length ds → length (own_weights a ws ds) ≡ length ds
length-own_weights a [] [] l = refl
length-own_weights a [] (d ∷ ds) l = absurd (omega (arith, l))
length-own_weights a (w ∷ ws) [] l = absurd (omega (arith, l))
length-own_weights a (w ∷ ws) (d ∷ ds) l = ap suc (length-own_weights a ws ds (omega (arith, l)))

own_weights-append : (a : AggregationVariants QueryTree) (ws vs : List ℕ) (ds es : List Fields)
    → length ws ≡ length ds
    → own_weights a (ws ++ vs) (ds ++ es) ≡ own_weights a ws ds ++ own_weights a vs es
own_weights-append a [] vs [] es l = refl
own_weights-append a [] vs (d ∷ ds) es l = absurd (omega (arith, l))
own_weights-append a (w ∷ ws) vs [] es l = absurd (omega (arith, l))
own_weights-append a (w ∷ ws) vs (d ∷ ds) es l =
    ap (λ others. w * times a d ∷ others) (own_weights-append a ws vs ds es (omega (arith, l)))

-- ---- document by document

module _ (segment : Stored) (a : AggregationVariants QueryTree) (docs ws : List ℕ) where
  -- the own weights of the first documents
  abbrev pub first_weights : ℕ → List ℕ
  first_weights i = own_weights a (take i ws) (documents_at segment (take i docs))

  -- how often one of them is listed
  abbrev pub weight_at : ℕ → ℕ
  weight_at i = get_or ws i 0 * times a (document_at segment (get_or docs i 0))

  module _ (long : length ws ≡ length docs) where
    first-more : (i : ℕ) → i < length docs
        → first_weights (i + 1) ≡ first_weights i ++ weight_at i ∷ []
    first-more i l =
        let in_weights : i < length ws = omega (arith, l, long) in
        let as_many : length (take i ws) ≡ length (documents_at segment (take i docs)) =
        simp (length-map, length-take) (omega (arith, long)) in
        (λ j. own_weights a (take_more ws i 0 in_weights j)
        (documents_at segment (take_more docs i 0 l j)))
        ∙ ap (own_weights a (take i ws ++ get_or ws i 0 ∷ []))
        (map-append (document_at segment) (take i docs) (get_or docs i 0 ∷ []))
        ∙ own_weights-append a (take i ws) (get_or ws i 0 ∷ []) (documents_at segment (take i docs))
        (document_at segment (get_or docs i 0) ∷ []) as_many

    -- their cut weights with one more
    pub cut-more : (i own : ℕ) → i < length docs → own ≡ u64_saturate (weight_at i)
        → map u64_saturate (first_weights i) ++ own ∷ []
        ≡ map u64_saturate (first_weights (i + 1))
    cut-more i own l is =
        ap (λ n. map u64_saturate (first_weights i) ++ n ∷ []) is
        ∙ sym (map-append u64_saturate (first_weights i) (weight_at i ∷ []))
        ∙ ap (map u64_saturate) (sym (first-more i l))

    -- their cut sum with one more
    pub sum-more : (i count own : ℕ) → i < length docs
        → count ≡ u64_saturate (sum (first_weights i)) → own ≡ u64_saturate (weight_at i)
        → u64_saturate (count + own) ≡ u64_saturate (sum (first_weights (i + 1)))
    sum-more i count own l before is =
        let parts = ap sum (first-more i l) in
        let both = sum_by-append (λ x. x) (first_weights i) (weight_at i ∷ []) in
        let more : sum (first_weights i) + weight_at i ≡ sum (first_weights (i + 1)) =
        omega (arith, parts, both) in
        (λ j. u64_saturate (before j + is j))
        ∙ cut-sum (sum (first_weights i)) (weight_at i) (2 ^ 64 - 1)
        ∙ ap u64_saturate more

    -- the weight of a document, cut, by those of all
    pub weight-cut : (weights : List ℕ) (i weight : ℕ) → i < length docs
        → weights ≡ map u64_saturate ws → weight ≡ get_or weights i 0
        → weight ≡ u64_saturate (get_or ws i 0)
    weight-cut weights i weight l cut is =
        is ∙ ap (λ ns. get_or ns i 0) cut
        ∙ get_or-map u64_saturate ws i 0 0 (omega (arith, l, long))

    -- all of them
    pub first-all : (i : ℕ) → length docs ≤ i
        → first_weights i ≡ own_weights a ws (documents_at segment docs)
    first-all i l =
        let in_weights : length ws ≤ i = omega (arith, l, long) in
        (λ j. own_weights a (take_all i ws in_weights j)
        (documents_at segment (take_all i docs l j)))

    -- the own weights are together as many as the aggregation lists
    pub sum-weights : sum (own_weights a ws (documents_at segment docs))
        ≡ length (uncut matches a (repeated ws (documents_at segment docs)))
    sum-weights =
        let documents = documents_at segment docs in
        let as_many : length ws ≡ length documents =
        long ∙ sym (length-map docs (document_at segment)) in
        sym (length-repeated (own_weights a ws documents) documents
        (length-own_weights a ws documents as_many))
        ∙ ap length (sym (uncut-repeated a ws documents))
