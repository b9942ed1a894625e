-- Why a request is refused for one of its builders.
use Rattle.std.proofs.Common.{◌≡◌, inl, inr, ℕ, List}
use Rattle.std.proofs.Common.{Option, refl}
use Rattle.agg_cache.specs.Limits.{Limits}
use Rattle.agg_segment.specs.declared.query.QueryTree.{QueryTree}
use Rattle.agg_request_tree.specs.Faults.{IsSoundRequest}
use Rattle.agg_request_tree.specs.Request.{Request}
use Rattle.agg_engine_tree.specs.segment_context.SetupError.{IsOfBuilders}
use Rattle.agg_request_tree.specs.BuiltRequest.{SomeMakesNone}
use Rattle.agg_engine_tree.specs.declared.segment_context.error.SetupError.{SetupError}
use Rattle.agg_engine_tree.specs.declared.segment_context.error.SetupError.TheVariants as setup
use Rattle.agg_engine.specs.NamedComposite.{NamesComposite}
use Rattle.agg_engine.specs.Refusals.{WalkFailsAtMost}
use Rattle.agg_segment.specs.SnapshotDocuments.{SnapshotDocuments}
use Rattle.agg_engine.specs.Walk.{HaveRoom}
use Rattle.agg_engine.specs.WalkError.{error_from_setup}

-- what is wrong with the builders of a request that may be asked otherwise has its cause
pub cause-built : {B : Type 0} (query_for : B → Option QueryTree) (limits : Limits) (name : List ℕ)
    (query : QueryTree) (request : Request B) (snapshots : List SnapshotDocuments)
    (given : SetupError) → IsOfBuilders given → IsSoundRequest request → HaveRoom snapshots
    → NamesComposite name request
    → (given ≡ setup.QueryBuild → SomeMakesNone query_for request)
    → WalkFailsAtMost query_for limits name query request snapshots (error_from_setup given)
cause-built query_for limits name query request snapshots setup.QueryBuild of sound room named
    none = (sound, room, named, none refl)
cause-built query_for limits name query request snapshots setup.OutOfMemory of sound room named
    none = tt
cause-built query_for limits name query request snapshots (setup.Invalid fault) (inl is) sound room
    named none = cc is
cause-built query_for limits name query request snapshots (setup.Invalid fault) (inr is) sound room
    named none = cc is
cause-built query_for limits name query request snapshots (setup.Aggregation part) (inl is) sound
    room named none = cc is
cause-built query_for limits name query request snapshots (setup.Aggregation part) (inr is) sound
    room named none = cc is
