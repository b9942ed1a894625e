-- How a run answers: the cause of each status, and what is then read and written.
use Rattle.std.specs.Prelude.{◌≡◌, ◌+◌, ◌⊎◌, ◌↔◌, ℕ, List, Option, Some}
use Rattle.std.specs.Io.KnownBytes.{Appends}
use Rattle.agg_values.specs.Nothing.{NoneIs}
use Rattle.agg_segment.specs.declared.query.QueryTree.{QueryTree}
use Rattle.agg_pages.specs.declared.status.Status.{Status}
use Rattle.agg_pages.specs.declared.status.Status.TheVariants.{Ok, Refused, Usage}
use Rattle.agg_pages.specs.declared.status.Status.TheVariants.{Input as NotInput, ReadFault}
use Rattle.agg_pages.specs.declared.status.Status.TheVariants.{WriteFault, OutOfMemory}
use Rattle.agg_pages.specs.Answer.{IsNeverRefused, IsNoInput, IsPrintedWalk, IsRefusal}
use Rattle.agg_pages.specs.Answer.{IsReplyPrefix, IsSummary, IsSummaryPrefix}
use Rattle.agg_pages.specs.Commands.{AskFor, IsSeed, make_arguments, walk_arguments}
use Rattle.agg_pages.specs.input_text.Input.{Input, IsInput, max_input_bytes}
use Rattle.agg_pages.specs.generator.Generator.{generated}
use Rattle.agg_pages.specs.Observed.{Observed, HadFault, IsUntouched, bytes_after, bytes_before}
use Rattle.agg_pages.specs.Reading.{GivesAll, TakesAtMost}
use Rattle.agg_pages.specs.Status.{IsUnanswered}

-- a run of the program: its arguments and its status
pub record Invocation : Type 0 where
  pub arguments : List (List ℕ)
  pub status : Status

-- a run with these arguments, and the status that it ended with
abbrev pub invocation : List (List ℕ) → Status → Invocation
invocation arguments status = record { arguments = arguments; status = status }

-- a source gave bytes of this input, which are all that it had left, where it told them
abbrev pub GaveInput : {R B : Type 0} → List B → (B → List ℕ) → Observed R → Input B → Type 0
GaveInput builders name_of source i =
    (bytes : List ℕ)
    × GivesAll (bytes_before source) (bytes_after source) bytes
    × IsInput builders name_of bytes i

-- a sink holds such a text after what it held
abbrev pub HasAppended : {W : Type 0} → (List ℕ → Type 0) → Observed W → Type 0
HasAppended IsText sink =
    (text : List ℕ) × IsText text × Appends (bytes_before sink) (bytes_after sink) text

-- a source gave an input, and a sink holds such a text of it after what it held
abbrev pub HasWritten : {R W B : Type 0} → List B → (B → List ℕ) → (Input B → List ℕ → Type 0)
    → Observed R
    → Observed W → Type 0
HasWritten {B = B} builders name_of IsText source sink =
    (i : Input B) × GaveInput builders name_of source i × HasAppended (IsText i) sink

-- the bytes that a source told it had left are no input
abbrev pub HadNoInput : {R B : Type 0} → List B → (B → List ℕ) → Observed R → Type 0
HadNoInput builders name_of source =
    (bytes : List ℕ) → bytes_before source ≡ Some bytes
    → IsNoInput builders name_of bytes (bytes_after source)

-- a source told that it had an input left whose walk is never refused
abbrev pub HadSafeInput : {R B : Type 0} → List B → (B → List ℕ)
    → (B → List (List ℕ) → Option QueryTree) → Observed R → Type 0
HadSafeInput {B = B} builders name_of tree_for source =
    (bytes : List ℕ) × (i : Input B)
    × (bytes_before source ≡ Some bytes) × IsInput builders name_of bytes i
    × IsNeverRefused tree_for i

-- how a walk of what a source has left is answered: each status has its cause, where a program has
-- these builders, with their names and the queries that they make for a schema
pub record IsWalkAnswered {R W B : Type 0} (builders : List B) (name_of : B → List ℕ)
    (tree_for : B → List (List ℕ) → Option QueryTree) (status : Status)
    (source : Observed R) (sink : Observed W) : Type 0 where
  -- status 0: the bytes read are a valid input, and the printed walk of it is written
  pub ok : status ≡ Ok → HasWritten builders name_of (IsPrintedWalk tree_for) source sink
  -- each other status has its cause
  pub read_fault : status ≡ ReadFault → HadFault source
  pub no_input : status ≡ NotInput → HadNoInput builders name_of source
  pub refused : status ≡ Refused → HasWritten builders name_of (IsRefusal tree_for) source sink
  pub write_fault : status ≡ WriteFault → HadFault sink
  pub prefix : status ≡ WriteFault
      → HasWritten builders name_of (IsReplyPrefix tree_for) source sink
  -- where no answer is given, nothing is written
  pub quiet : IsUnanswered status → IsUntouched sink
  -- whatever the status, no more than one byte past the limit is gone
  pub taken : TakesAtMost (max_input_bytes + 1) (bytes_before source) (bytes_after source)
  -- an input that is never refused is answered without a fault, unless memory is refused
  pub complete : HadSafeInput builders name_of tree_for source
      → ¬ (HadFault source) → ¬ (HadFault sink)
      → (status ≡ Ok) ⊎ (status ≡ OutOfMemory)

-- how the walk of the input of a seed is answered, where builders make such queries for a schema
pub record IsMakeAnswered {R W B : Type 0} (tree_for : B → List (List ℕ) → Option QueryTree)
    (seed : ℕ) (status : Status) (source : Observed R) (sink : Observed W) : Type 0 where
  -- status 0: the summary of the plain walk is written
  pub ok : status ≡ Ok → HasAppended (IsSummary tree_for (generated seed)) sink
  -- no status but these comes, and each has its cause
  pub kinds : (status ≡ Ok) ⊎ ((status ≡ WriteFault) ⊎ (status ≡ OutOfMemory))
  pub write_fault : status ≡ WriteFault → HadFault sink
  pub prefix : status ≡ WriteFault
      → HasAppended (IsSummaryPrefix tree_for (generated seed)) sink
  -- without memory nothing is written
  pub quiet : status ≡ OutOfMemory → IsUntouched sink
  -- nothing is read, whatever the status
  pub unread : IsUntouched source

-- each command is answered, and other arguments touch nothing, where a program has these builders,
-- with their names and the queries that they make for a schema
pub record IsAnswered {R W B : Type 0} (builders : List B) (name_of : B → List ℕ)
    (tree_for : B → List (List ℕ) → Option QueryTree) (run : Invocation)
    (source : Observed R) (sink : Observed W) : Type 0 where
  pub usage : run.status ≡ Usage ↔ NoneIs (AskFor run.arguments)
  pub untouched : run.status ≡ Usage → IsUntouched source × IsUntouched sink
  pub walked : run.arguments ≡ walk_arguments
      → IsWalkAnswered builders name_of tree_for run.status source sink
  pub made : (digits : List ℕ) (seed : ℕ) → run.arguments ≡ make_arguments digits
      → IsSeed digits seed → IsMakeAnswered tree_for seed run.status source sink
