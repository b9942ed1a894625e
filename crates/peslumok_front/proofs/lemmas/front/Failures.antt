-- Failures that errors become.
use Rattle.agg_engine.specs.declared.walk.error.WalkError.{WalkError}
use Rattle.agg_engine.specs.declared.walk.error.WalkError.TheVariants as walk
use Rattle.peslumok_front.specs.declared.grouping.error.GroupingError.{GroupingError}
use Rattle.peslumok_front.specs.declared.grouping.error.GroupingError.TheVariants as grouping
use Rattle.peslumok_front.specs.front.Codes.{failure_of_grouping, failure_of_walk}
use Rattle.peslumok_front.specs.declared.front.failure.Failure.{Failure}
use Rattle.peslumok_front.specs.declared.front.failure.Failure.TheVariants as failure

-- a cause of an error is one of its failure, if it is one of that of its kind
pub of-grouping : (Has : GroupingError → Type 0) (Fails : Failure → Type 0)
    → Fails failure.OutOfMemory → ((why : GroupingError) → Has why → Fails (failure.Usage why))
    → (error : GroupingError) → Has error → Fails (failure_of_grouping error)
of-grouping Has Fails memory usage grouping.OutOfMemory has = memory
of-grouping Has Fails memory usage (grouping.By field text why) has = usage _ has
of-grouping Has Fails memory usage (grouping.Value field value why) has = usage _ has
of-grouping Has Fails memory usage (grouping.Query why) has = usage _ has
of-grouping Has Fails memory usage (grouping.AfterValue field why) has = usage _ has
of-grouping Has Fails memory usage (grouping.ExtraValue text) has = usage _ has
of-grouping Has Fails memory usage (grouping.TwoTypes field) has = usage _ has

-- a cause of an error of a walk is one of its failure, if it is one of that of its kind
pub of-walk : (Has : WalkError → Type 0) (Fails : Failure → Type 0)
    → Fails failure.OutOfMemory → ((why : WalkError) → Has why → Fails (failure.Refused why))
    → (error : WalkError) → Has error → Fails (failure_of_walk error)
of-walk Has Fails memory refused walk.OutOfMemory has = memory
of-walk Has Fails memory refused (walk.Invalid given) has = refused _ has
of-walk Has Fails memory refused walk.UnknownComposite has = refused _ has
of-walk Has Fails memory refused walk.QueryBuild has = refused _ has
of-walk Has Fails memory refused walk.BucketOutOfRange has = refused _ has
of-walk Has Fails memory refused walk.TooMany has = refused _ has
of-walk Has Fails memory refused (walk.Aggregation given) has = refused _ has
