-- What a tree holds, against what its request counts over the documents that it took.
use Rattle.std.proofs.Common.{◌≡◌, ◌<◌, ◌≤◌, ◌++◌, ℕ, List, [], ◌∷◌, refl, ap, ◌∙◌, arith}
use Rattle.std.specs.Prelude.{if◌then◌else◌}
use Rattle.std.specs.List.{All, AllByRecursion}
use Rattle.std.proofs.lemmas.List.Elements.{All-weaker, recursion_from_All}
use Rattle.std.proofs.lemmas.List.Sums.{sum_by-cons}
use Rattle.agg_cache.specs.Waiting.{docs_of, is_id}
use Rattle.agg_segment.specs.storage.Document.{Fields}
use Rattle.agg_segment.specs.Query.{matches}
use Rattle.agg_segment.specs.Segment.{Stored, documents_at}
use Rattle.agg_segment.specs.declared.query.QueryTree.{QueryTree}
use Rattle.agg_request_tree.specs.Request.{Request}
use Rattle.agg_request_tree.proofs.Lists.{AllByRecursion-Has, AllByRecursion-map}
use Rattle.agg_request_tree.proofs.Lists.{Has-from_Contains}
use Rattle.agg_request_tree.specs.charges.Roof.{counts_of}
use Rattle.agg_request_tree.specs.charges.Roof.Height.{High, Low}
use Rattle.agg_composite.specs.buckets.Visits.{docs_in}
use Rattle.agg_composite.proofs.lemmas.buckets.Labels.{is_id-same}
use Rattle.agg_engine_tree.specs.segment_context.Context.{Meaning}
use Rattle.agg_engine_tree.specs.declared.segment_context.context.PerRequestAggSegCtx.{
  PerRequestAggSegCtx,
}
use Rattle.agg_engine_tree.specs.collector_tree.Tree.{Held, IsFlushed}
use Rattle.agg_engine_tree.specs.held_bytes.HeldBytes.{held_bytes}
use Rattle.agg_engine_tree.specs.held_bytes.Trees.{AreOfSegment, AreUnder, IsTreeOf, over_parents}
use Rattle.agg_engine_tree.specs.held_bytes.Trees.{taken_under}
use Rattle.agg_engine_tree.proofs.lemmas.held_bytes.TreeLeast.{least-group}
use Rattle.agg_engine_tree.proofs.lemmas.held_bytes.TreeMost.{most-group}

-- ---- one parent

docs-zero : (taken : List (ℕ × ℕ)) → AllByRecursion (λ e. e.0 ≡ 0) taken
    → docs_of (is_id 0) taken ≡ docs_in taken
docs-zero [] zero = refl
docs-zero (e ∷ taken) zero =
    ap (λ b. (if b then e.1 ∷ [] else []) ++ docs_of (is_id 0) taken)
    (ap (is_id 0) zero.0 ∙ is_id-same 0)
    ∙ ap (λ docs. e.1 ∷ docs) (docs-zero taken zero.1)

one-parent : (bytes : List Fields → ℕ) (segment : Stored) (taken : List (ℕ × ℕ))
    → All (λ e. e.0 ≡ 0) taken
    → over_parents bytes segment taken 1 ≡ bytes (documents_at segment (docs_in taken))
one-parent bytes segment taken zero = omega (
  arith,
  sum_by-cons (λ p. bytes (taken_under segment taken p)) 0 [],
  ap (λ docs. bytes (documents_at segment docs))
      (docs-zero taken (recursion_from_All (λ e. e.0 ≡ 0) taken zero)),
)

-- ---- trees

module _ (meaning : Meaning) (ctx : PerRequestAggSegCtx) (request : Request QueryTree)
    (held : Held) (taken : List (ℕ × ℕ)) (tree : IsTreeOf meaning ctx request held taken) where
  pub most : (parents : ℕ) → AreUnder parents taken
      → held_bytes ctx held
      ≤ over_parents (counts_of matches request High) meaning.segment taken parents
  most parents low =
      most-group meaning ctx tree.meant held request tree.plans tree.asked tree.nodes tree.fits
      taken tree.visits tree.right parents (recursion_from_All (λ e. e.0 < parents) taken low)

  pub most-one : All (λ e. e.0 ≡ 0) taken
      → held_bytes ctx held
      ≤ counts_of matches request High (documents_at meaning.segment (docs_in taken))
  most-one zero = omega (
    arith,
    most 1 (All-weaker (λ e. e.0 ≡ 0) (λ e. e.0 < 1) (λ e is. omega (arith, is)) taken zero),
    one-parent (counts_of matches request High) meaning.segment taken zero,
  )

  module _ (flushed : IsFlushed held)
      (inside : AreOfSegment meaning.segment taken) where
    pub least : (parents : ℕ)
        → over_parents (counts_of matches request Low) meaning.segment taken parents
        ≤ held_bytes ctx held
    least parents =
        let count = meaning.segment.count in
        least-group meaning ctx tree.meant held request tree.plans tree.asked tree.nodes tree.fits
        flushed taken tree.visits tree.right
        (λ d c. AllByRecursion-Has (λ d. d < count) (docs_in taken) d
        (AllByRecursion-map (λ d. d < count) (λ e. e.1) taken
        (recursion_from_All (λ e. e.1 < count) taken inside))
        (Has-from_Contains (docs_in taken) d c))
        parents

    pub least-one : All (λ e. e.0 ≡ 0) taken
        → counts_of matches request Low (documents_at meaning.segment (docs_in taken))
        ≤ held_bytes ctx held
    least-one zero = omega (
      arith,
      least 1,
      one-parent (counts_of matches request Low) meaning.segment taken zero,
    )
