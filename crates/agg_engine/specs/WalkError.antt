-- Why a walk gave no pages.
use Rattle.std.specs.Prelude.{ℕ, List, codes}
use Rattle.agg_values.specs.declared.error.InvalidArgument.{InvalidArgument}
use Rattle.agg_values.specs.declared.error.InvalidArgument.TheVariants as argument
use Rattle.agg_values.specs.declared.request_error.AggregationError.{AggregationError}
use Rattle.agg_values.specs.declared.request_error.AggregationError.TheVariants as aggregation
use Rattle.agg_values.specs.declared.request_error.DateHistogramParseError as parsing
use parsing.{DateHistogramParseError}
use parsing.TheVariants as parse
use Rattle.agg_values.specs.declared.request_error.RequestError.{RequestError}
use Rattle.agg_values.specs.declared.request_error.RequestError.TheVariants as request
use Rattle.agg_engine_tree.specs.declared.segment_context.error.SetupError.{SetupError}
use Rattle.agg_engine_tree.specs.declared.segment_context.error.SetupError.TheVariants as setup
use Rattle.agg_engine.specs.declared.snapshot_results.error.SnapshotError.{SnapshotError}
use Rattle.agg_engine.specs.declared.snapshot_results.error.SnapshotError.TheVariants as snapshot
use Rattle.agg_engine.specs.declared.walk.error.WalkError.{WalkError}
use Rattle.agg_engine.specs.declared.walk.error.WalkError.TheVariants.{Invalid, UnknownComposite}
use Rattle.agg_engine.specs.declared.walk.error.WalkError.TheVariants.{TooMany, OutOfMemory}
use Rattle.agg_engine.specs.declared.walk.error.WalkError.TheVariants.{Aggregation}
use Rattle.agg_engine.specs.declared.walk.error.WalkError.TheVariants.{BucketOutOfRange}
use Rattle.agg_engine.specs.declared.walk.error.WalkError.TheVariants.{QueryBuild}

-- the name of an argument's error
abbrev pub argument_name : InvalidArgument → List ℕ
argument_name argument.NoSource = codes "NoSource"
argument_name argument.ZeroSize = codes "ZeroSize"
argument_name argument.TooManySources = codes "TooManySources"
argument_name argument.DuplicateSource = codes "DuplicateSource"
argument_name argument.BadInterval = codes "BadInterval"
argument_name argument.IntervalChoice = codes "IntervalChoice"
argument_name argument.NullAfter = codes "NullAfter"
argument_name argument.AfterType = codes "AfterType"

-- the name of a refused interval or offset
abbrev pub parse_name : DateHistogramParseError → List ℕ
parse_name (parse.UnitNotRecognized unit) = codes "UnitNotRecognized"
parse_name (parse.NumberMissing text) = codes "NumberMissing"
parse_name (parse.UnitMissing text) = codes "UnitMissing"
parse_name (parse.InvalidOffset text) = codes "InvalidOffset"
parse_name (parse.OutOfBounds text) = codes "OutOfBounds"

-- the name of an aggregation's error
abbrev pub aggregation_name : AggregationError → List ℕ
aggregation_name (aggregation.DateHistogramParseError part) = parse_name part
aggregation_name (aggregation.MemoryExceeded limit current) = codes "MemoryExceeded"
aggregation_name (aggregation.BucketLimitExceeded limit current) = codes "BucketLimitExceeded"

-- the name of an error: that of the innermost
abbrev pub error_name : WalkError → List ℕ
error_name (Invalid given) = argument_name given
error_name UnknownComposite = codes "UnknownComposite"
error_name QueryBuild = codes "QueryBuild"
error_name BucketOutOfRange = codes "BucketOutOfRange"
error_name TooMany = codes "TooMany"
error_name (Aggregation given) = aggregation_name given
error_name OutOfMemory = codes "OutOfMemory"

-- the error of a walk for that of a request
abbrev pub error_from_request : RequestError → WalkError
error_from_request (request.Invalid given) = Invalid given
error_from_request (request.Aggregation given) = Aggregation given
error_from_request request.OutOfMemory = OutOfMemory

-- the error of a walk for one of the builders of a request
abbrev pub error_from_setup : SetupError → WalkError
error_from_setup (setup.Invalid given) = Invalid given
error_from_setup setup.QueryBuild = QueryBuild
error_from_setup (setup.Aggregation given) = Aggregation given
error_from_setup setup.OutOfMemory = OutOfMemory

-- the error of a walk for one of a snapshot
abbrev pub error_from_snapshot : SnapshotError → WalkError
error_from_snapshot snapshot.BucketOutOfRange = BucketOutOfRange
error_from_snapshot snapshot.TooMany = TooMany
error_from_snapshot (snapshot.MemoryExceeded limit current) =
    Aggregation (aggregation.MemoryExceeded limit current)
error_from_snapshot snapshot.OutOfMemory = OutOfMemory
