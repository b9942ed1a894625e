-- The request that is asked where a page is set.
use Rattle.std.specs.Prelude.{Option, None, Some}
use Rattle.agg_request_tree.specs.ChangedRequest.{request_after, request_at_size}
use Rattle.agg_request_tree.specs.Request.{Request}
use Rattle.agg_engine_tree.specs.declared.segment_context.params.Page.{Page}

-- the request with a page, if one is set, in place of the size and the after key of the composite
-- of its name, if there is one at top level
abbrev pub paged : {B : Type 0} → Option Page → Request B → Request B
paged None request = request
paged (Some page) request =
    request_at_size page.name page.size (request_after page.name page.after request)
