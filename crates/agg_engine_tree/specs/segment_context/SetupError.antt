-- Why collectors can't be set up.
use Rattle.std.specs.Prelude.{◌≡◌, ◌⊎◌}
use Rattle.agg_values.specs.declared.request_error.RequestError.{RequestError}
use Rattle.agg_values.specs.declared.request_error.RequestError.TheVariants as request
use Rattle.agg_request_tree.specs.declared.builder.QueryBuildError.{QueryBuildError}
use Rattle.agg_request_tree.specs.declared.builder.QueryBuildError.TheVariants as build
use Rattle.agg_engine_tree.specs.declared.segment_context.error.SetupError.{SetupError}
use Rattle.agg_engine_tree.specs.declared.segment_context.error.SetupError.TheVariants.{Aggregation}
use Rattle.agg_engine_tree.specs.declared.segment_context.error.SetupError.TheVariants.{Invalid}
use Rattle.agg_engine_tree.specs.declared.segment_context.error.SetupError.TheVariants.{OutOfMemory}
use Rattle.agg_engine_tree.specs.declared.segment_context.error.SetupError.TheVariants.{QueryBuild}

-- the error for that of a request
abbrev pub error_from_request : RequestError → SetupError
error_from_request (request.Invalid given) = Invalid given
error_from_request (request.Aggregation given) = Aggregation given
error_from_request request.OutOfMemory = OutOfMemory

-- the error for that of a builder
abbrev pub error_from_builder : QueryBuildError → SetupError
error_from_builder build.NoTree = QueryBuild
error_from_builder build.OutOfMemory = OutOfMemory

-- a builder gave no tree, or memory was refused
abbrev pub IsOfBuilders : SetupError → Type 0
IsOfBuilders error = (error ≡ QueryBuild) ⊎ (error ≡ OutOfMemory)
