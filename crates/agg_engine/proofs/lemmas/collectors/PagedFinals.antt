-- What is final of a request, and what isn't, doesn't hang on its page.
use Rattle.std.proofs.Common.{◌≡◌, Option, None, Some, ◌∙◌, refl}
use Rattle.agg_request_tree.specs.Request.{Request}
use Rattle.agg_results.specs.intermediate_results.Final.{final_results}
use Rattle.agg_results.specs.intermediate_results.Intermediate.{Held}
use Rattle.agg_results.specs.intermediate_results.Refusals.{HoldsOther, HoldsUnknown}
use Rattle.agg_engine_tree.specs.segment_context.Pages.{paged}
use Rattle.agg_request_tree.specs.ChangedRequest.{request_after, with_after, with_size}
use Rattle.agg_engine_tree.specs.declared.segment_context.params.Page.{Page}
use Rattle.agg_engine.proofs.lemmas.collectors.ChangedRequests.{after-like, size-like}
use Rattle.agg_engine.proofs.lemmas.collectors.KeptFinals.{final-changed, other-changed}
use Rattle.agg_engine.proofs.lemmas.collectors.KeptFinals.{unknown-changed}

module _ {B : Type 0} (request : Request B) (merged : Held) where
  -- what is final doesn't hang on the page
  pub final-paged : (page : Option Page)
      → final_results (paged page request) merged ≡ final_results request merged
  final-paged None = refl
  final-paged (Some page) =
      final-changed (with_size page.size) page.name (size-like page.size)
      (request_after page.name page.after request) merged
      ∙ final-changed (with_after page.after) page.name (after-like page.after) request merged

  -- that something has no name doesn't hang on the page
  pub unknown-paged : (page : Option Page) → HoldsUnknown request merged
      → HoldsUnknown (paged page request) merged
  unknown-paged None unknown = unknown
  unknown-paged (Some page) unknown =
      unknown-changed (with_size page.size) page.name (size-like page.size)
      (request_after page.name page.after request) merged
      (unknown-changed (with_after page.after) page.name (after-like page.after) request merged
      unknown)

  -- that something has another shape doesn't hang on the page
  pub other-paged : (page : Option Page) → HoldsOther request merged
      → HoldsOther (paged page request) merged
  other-paged None other = other
  other-paged (Some page) other =
      other-changed (with_size page.size) page.name (size-like page.size)
      (request_after page.name page.after request) merged
      (other-changed (with_after page.after) page.name (after-like page.after) request merged
      other)
