-- Some list of a request has too many documents.
use Rattle.std.proofs.Common.{◌≤◌, ◌^◌, ◌++◌, ◌⊎◌, ℕ, List, [], ◌∷◌, inl, inr, ⊎_elim}
use Rattle.std.proofs.Common.{length, zero, suc, refl, sym, subst, arith}
use Rattle.std.specs.List.{Any}
use Rattle.agg_segment.specs.storage.Document.{Fields}
use Rattle.agg_segment.specs.Query.{matches}
use Rattle.agg_segment.specs.declared.query.QueryTree.{QueryTree}
use Rattle.agg_request_tree.specs.Request.{Request, agg_of, below_of}
use Rattle.agg_request_tree.specs.Uncut.{CountsTooMany, uncut, uncut_lists, uncut_lists_of}
use Rattle.agg_request_tree.specs.declared.aggregation.Aggregation.{Aggregation}
use Rattle.agg_request_tree.proofs.CheckedRequests.{Any-back, Any-front}
use Rattle.agg_request_tree.proofs.UncutLists.{uncut_lists-out}
use Rattle.agg_engine_tree.specs.segment_context.Context.{ArePlansOf, IsPlanOf, Meaning}
use Rattle.agg_engine_tree.specs.segment_context.Plan.{Plan, Plans}
use Rattle.agg_engine_tree.specs.declared.segment_context.context.PerRequestAggSegCtx.{
  PerRequestAggSegCtx,
}
use Rattle.agg_engine_tree.specs.collector_tree.Refusals.{ListsTooMany}
use Rattle.agg_engine_tree.proofs.lemmas.collector_tree.UncutParts.{Lighter, lighter-length}
use Rattle.agg_engine_tree.proofs.lemmas.collector_tree.UncutParts.{lighter-uncut}

-- ---- some element

any-here : {X : Type 0} (P : X → Type 0) (x : X) (xs : List X) → P x → Any P (x ∷ xs)
any-here P x xs p = (0, x, omega arith, refl, p)

any-cons : {X : Type 0} (P : X → Type 0) (x : X) (xs : List X) → Any P (x ∷ xs) → P x ⊎ Any P xs
any-cons P x xs (zero, y, within, at, p) = inl (subst P (sym at) p)
any-cons P x xs (suc k, y, within, at, p) = inr (k, y, omega (arith, within), at, p)

any-split : {X : Type 0} (P : X → Type 0) (xs ys : List X) → Any P (xs ++ ys)
    → Any P xs ⊎ Any P ys
any-split P [] ys a = inr a
any-split P (x ∷ xs) ys a = ⊎_elim
    (λ p. inl (any-here P x xs p))
    (λ r. ⊎_elim (λ l. inl (Any-back P (x ∷ []) xs l)) (λ q. inr q) (any-split P xs ys r))
    (any-cons P x (xs ++ ys) a)

-- ---- one level open

-- a list has too many documents
abbrev pub IsLong : List Fields → Type 0
IsLong list = 2 ^ 32 ≤ length list

pub many-own : (a : Aggregation QueryTree) (documents : List Fields)
    → IsLong (uncut matches (agg_of a) documents) → ListsTooMany a documents
many-own a documents long =
    subst (Any IsLong) (sym (uncut_lists-out matches a documents))
    (any-here IsLong (uncut matches (agg_of a) documents)
    (uncut_lists_of matches (below_of a) (uncut matches (agg_of a) documents)) long)

pub many-below : (a : Aggregation QueryTree) (documents : List Fields)
    → CountsTooMany matches (below_of a) (uncut matches (agg_of a) documents)
    → ListsTooMany a documents
many-below a documents many =
    subst (Any IsLong) (sym (uncut_lists-out matches a documents))
    (Any-back IsLong (uncut matches (agg_of a) documents ∷ [])
    (uncut_lists_of matches (below_of a) (uncut matches (agg_of a) documents)) many)

many-open : (a : Aggregation QueryTree) (documents : List Fields) → ListsTooMany a documents
    → IsLong (uncut matches (agg_of a) documents)
    ⊎ CountsTooMany matches (below_of a) (uncut matches (agg_of a) documents)
many-open a documents many =
    any-cons IsLong (uncut matches (agg_of a) documents)
    (uncut_lists_of matches (below_of a) (uncut matches (agg_of a) documents))
    (subst (Any IsLong) (uncut_lists-out matches a documents) many)

pub many-first : (name : List ℕ) (a : Aggregation QueryTree) (request : Request QueryTree)
    (documents : List Fields) → ListsTooMany a documents
    → CountsTooMany matches ((name, a) ∷ request) documents
many-first name a request documents =
    Any-front IsLong (uncut_lists matches a documents) (uncut_lists_of matches request documents)

pub many-others : (name : List ℕ) (a : Aggregation QueryTree) (request : Request QueryTree)
    (documents : List Fields) → CountsTooMany matches request documents
    → CountsTooMany matches ((name, a) ∷ request) documents
many-others name a request documents =
    Any-back IsLong (uncut_lists matches a documents) (uncut_lists_of matches request documents)

-- ---- of more documents

module _ (meaning : Meaning) (ctx : PerRequestAggSegCtx) where
  mutual
    -- a list that is too long is so over more documents
    pub in-more : (plan : Plan) (name : List ℕ) (a : Aggregation QueryTree)
        → IsPlanOf meaning ctx name a plan → (xs ys : List Fields) → Lighter xs ys
        → ListsTooMany a xs → ListsTooMany a ys
    in-more (Plan.node k index below) name a of xs ys l many =
        let own = lighter-uncut matches (agg_of a) xs ys l in
        ⊎_elim
        (λ long. many-own a ys (omega (
          arith,
          long,
          lighter-length (uncut matches (agg_of a) xs) (uncut matches (agg_of a) ys) own,
        )))
        (λ lower. many-below a ys (of-more below (below_of a) of.1 (uncut matches (agg_of a) xs)
        (uncut matches (agg_of a) ys) own lower))
        (many-open a xs many)

    -- lists of a request that are too long are so over more documents
    pub of-more : (plans : Plans) (request : Request QueryTree)
        → ArePlansOf meaning ctx request plans → (xs ys : List Fields) → Lighter xs ys
        → CountsTooMany matches request xs → CountsTooMany matches request ys
    of-more Plans.none [] of xs ys l many = many
    of-more Plans.none (a ∷ request) of xs ys l many = absurd of
    of-more (Plans.more plan plans) [] of xs ys l many = absurd of
    of-more (Plans.more plan plans) (a ∷ request) of xs ys l many =
        ⊎_elim
        (λ one. many-first a.0 a.1 request ys (in-more plan a.0 a.1 of.0 xs ys l one))
        (λ rest. many-others a.0 a.1 request ys (of-more plans request of.1 xs ys l rest))
        (any-split IsLong (uncut_lists matches a.1 xs) (uncut_lists_of matches request xs) many)
