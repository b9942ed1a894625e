-- Lists of documents, and the pairs that they come from.
use Rattle.std.proofs.Common.{◌≡◌, ◌<◌, ◌≤◌, ℕ, List, [], ◌∷◌, ◌++◌, Bool, true, false}
use Rattle.std.proofs.Common.{cond, filter, ltb, inl, inr, refl, sym, ap, ◌∙◌, subst, arith}
use Rattle.std.specs.Prelude.{◌&&◌, if◌then◌else◌}
use Rattle.std.specs.List.{AllByRecursion, sum_by}
use Rattle.std.proofs.lemmas.Bool.{cases_lt}
use Rattle.std.proofs.lemmas.Bool.Decides.{nat_tests}
use Rattle.std.proofs.lemmas.List.{map-append}
use Rattle.std.proofs.lemmas.List.Sums.{sum_by-cons}
use Rattle.agg_cache.specs.Waiting.{docs_of, is_id}
use Rattle.agg_segment.specs.storage.Document.{Fields}
use Rattle.agg_segment.specs.Query.{matches}
use Rattle.agg_segment.specs.Segment.{Stored, document_at, documents_at}
use Rattle.agg_segment.specs.declared.query.QueryTree.{QueryTree}
use Rattle.agg_request_tree.specs.Matching.{matching}
use Rattle.agg_request_tree.specs.declared.aggregation.filter.FilterQuery.{FilterQuery}
use Rattle.agg_request_tree.specs.declared.aggregation.filter.FilterQuery.TheVariants as by
use Rattle.agg_request_tree.proofs.Lists.{Has}
use Rattle.agg_request_tree.specs.charges.Within.{Within}
use Rattle.agg_request_tree.proofs.lemmas.charges.WithinLists.{Within-more}
use Rattle.agg_composite.specs.buckets.Visits.{docs_in}
use Rattle.agg_composite.proofs.lemmas.buckets.Labels.{is_id-other, is_id-same}
use Rattle.agg_filter.specs.Matching.{is_matching}
use Rattle.agg_engine_tree.specs.segment_context.Context.{tree_in}
use Rattle.agg_engine_tree.proofs.lemmas.collector_tree.UncutParts.{Lighter, weigh}

-- ---- lists within others

weigh-sum : (f : Fields → ℕ) (xs : List Fields) → weigh f xs ≡ sum_by f xs
weigh-sum f [] = refl
weigh-sum f (x ∷ xs) = omega (arith, sum_by-cons f x xs, weigh-sum f xs)

-- lists that are no more than others are within them
pub within-lighter : (xs ys : List Fields) → Lighter xs ys → Within xs ys
within-lighter xs ys less =
    record { lighter = λ f. omega (arith, weigh-sum f xs, weigh-sum f ys, less.lighter f) }

pub within-trans : (xs ys zs : List Fields) → Within xs ys → Within ys zs → Within xs zs
within-trans xs ys zs a b = record { lighter = λ f. omega (arith, a.lighter f, b.lighter f) }

-- the first documents of a list are within all
pub within-front : (segment : Stored) (xs ys zs : List ℕ) → xs ++ ys ≡ zs
    → Within (documents_at segment xs) (documents_at segment zs)
within-front segment xs ys zs is =
    subst (Within (documents_at segment xs))
    (sym (map-append (document_at segment) xs ys) ∙ ap (documents_at segment) is)
    (Within-more (documents_at segment xs) (documents_at segment ys))

-- a list that is empty with others after it is empty
pub nothing-first : (xs ys : List ℕ) → xs ++ ys ≡ [] → xs ≡ []
nothing-first [] ys none = refl
nothing-first (x ∷ xs) ys none = absurd (cc)

-- ---- parents below a number

none-after : (p : ℕ) (e : ℕ × ℕ) (pairs : List (ℕ × ℕ)) → docs_of (is_id p) (e ∷ pairs) ≡ []
    → docs_of (is_id p) pairs ≡ []
none-after p e pairs none = by_test (is_id p e.0) none
  where
    by_test : (b : Bool) → (if b then e.1 ∷ [] else []) ++ docs_of (is_id p) pairs ≡ []
        → docs_of (is_id p) pairs ≡ []
    by_test true none = absurd (cc)
    by_test false none = none

-- where no document is under a parent from a number on, all parents are below it
pub parents-low : (n : ℕ) (pairs : List (ℕ × ℕ))
    → ((p : ℕ) → n ≤ p → docs_of (is_id p) pairs ≡ []) → AllByRecursion (λ e. e.0 < n) pairs
parents-low n [] none = tt
parents-low n (e ∷ pairs) none = (
  elim (cases_lt e.0 n) [
    | inl low ↦ low
    | inr high ↦
        let taken : (if true then e.1 ∷ [] else []) ++ docs_of (is_id e.0) pairs ≡ [] =
        ap (λ b. (if b then e.1 ∷ [] else []) ++ docs_of (is_id e.0) pairs)
        (sym (is_id-same e.0))
        ∙ none e.0 high in
        absurd (cc)
  ],
  parents-low n pairs (λ p l. none-after p e pairs (none p l)),
)

-- where all parents are below a number, no document is under one from it on
pub none-past : (n : ℕ) (pairs : List (ℕ × ℕ)) → AllByRecursion (λ e. e.0 < n) pairs → (p : ℕ)
    → n ≤ p → docs_of (is_id p) pairs ≡ []
none-past n [] low p l = refl
none-past n (e ∷ pairs) low p l =
    ap (λ b. (if b then e.1 ∷ [] else []) ++ docs_of (is_id p) pairs)
    (is_id-other p e.0 (λ is. omega (arith, low.0)))
    ∙ none-past n pairs low.1 p l

-- ---- the documents of a segment

-- a document under a parent is one of all
pub docs-among : (p : ℕ) (pairs : List (ℕ × ℕ)) (d : ℕ) → Has d (docs_of (is_id p) pairs)
    → Has d (docs_in pairs)
docs-among p [] d h = absurd h
docs-among p (e ∷ pairs) d h = by_test (docs-among p pairs d) (is_id p e.0) h
  where
    by_test : (Has d (docs_of (is_id p) pairs) → Has d (docs_in pairs)) → (b : Bool)
        → Has d ((if b then e.1 ∷ [] else []) ++ docs_of (is_id p) pairs)
        → Has d (docs_in (e ∷ pairs))
    by_test later true (inl is) = inl is
    by_test later true (inr rest) = inr (later rest)
    by_test later false rest = inr (later rest)

tree-matches : (query : FilterQuery QueryTree) (documents : List Fields)
    → filter (matches (tree_in query)) documents ≡ matching matches query documents
tree-matches (by.Tree tree) documents = refl
tree-matches (by.CustomBuilder tree) documents = refl

matched-by : (tree : QueryTree) (segment : Stored) (docs : List ℕ)
    → AllByRecursion (λ d. d < segment.count) docs
    → documents_at segment (filter (is_matching tree segment) docs)
    ≡ filter (matches tree) (documents_at segment docs)
matched-by tree segment [] within = refl
matched-by tree segment (d ∷ docs) within =
    let inside : ltb d segment.count ≡ true = is_less d segment.count within.0 in
    ap (λ b. documents_at segment (cond (b && matches tree (document_at segment d))
    (d ∷ filter (is_matching tree segment) docs) (filter (is_matching tree segment) docs))) inside
    ∙ by_test (matches tree (document_at segment d)) (matched-by tree segment docs within.1)
  where
    is_less : (a b : ℕ) → a < b → ltb a b ≡ true
    is_less a b less = grind (arith, nat_tests)

    by_test : (b : Bool) → documents_at segment (filter (is_matching tree segment) docs)
        ≡ filter (matches tree) (documents_at segment docs)
        → documents_at segment (cond b (d ∷ filter (is_matching tree segment) docs)
        (filter (is_matching tree segment) docs))
        ≡ cond b (document_at segment d ∷ filter (matches tree) (documents_at segment docs))
        (filter (matches tree) (documents_at segment docs))
    by_test true rest = ap (λ ds. document_at segment d ∷ ds) rest
    by_test false rest = rest

-- documents of the segment by number that match are those that match
pub matched-same : (tree : QueryTree) (segment : Stored) (query : FilterQuery QueryTree)
    → tree ≡ tree_in query → (docs : List ℕ) → AllByRecursion (λ d. d < segment.count) docs
    → documents_at segment (filter (is_matching tree segment) docs)
    ≡ matching matches query (documents_at segment docs)
matched-same tree segment query same docs within =
    matched-by tree segment docs within
    ∙ ap (λ t. filter (matches t) (documents_at segment docs)) same
    ∙ tree-matches query (documents_at segment docs)
