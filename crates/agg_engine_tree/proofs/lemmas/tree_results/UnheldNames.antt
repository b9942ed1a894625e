-- A result under a name that isn't held.
use Rattle.std.proofs.Common.{◌≡◌, ◌≢◌, ℕ, [], ◌∷◌, List, None, sym}
use Rattle.agg_values.specs.Names.{value_of}
use Rattle.agg_results.specs.declared.metric_results.error.MergeError.{MergeError}
use Rattle.agg_results.specs.declared.metric_results.error.MergeError.TheVariants as merge
use Rattle.agg_results.specs.intermediate_results.Intermediate.{Held}
use Rattle.agg_results.specs.intermediate_results.Merging.{SomeOfBoth}
use Rattle.agg_results.specs.declared.intermediate_results as declared
use declared.results.IntermediateAggregationResult.{IntermediateAggregationResult}
use Rattle.agg_results.proofs.lemmas.intermediate_results.ToldNames.{nothing_told, past_first}

abbrev Result : Type 0
Result = IntermediateAggregationResult

-- a merge that isn't refused for its two sides has run out of memory
pub is_out_of_memory : (error : MergeError) → error ≢ merge.Mismatch → error ≢ merge.TooMany
    → error ≡ merge.OutOfMemory
is_out_of_memory merge.Mismatch mismatch too_many = absurd (mismatch (λ i. merge.Mismatch))
is_out_of_memory merge.TooMany mismatch too_many = absurd (too_many (λ i. merge.TooMany))
is_out_of_memory merge.OutOfMemory mismatch too_many = λ i. merge.OutOfMemory

-- a name that isn't held isn't on both sides
pub unheld : (Told : Result → Result → Type 0) (held : Held) (name : List ℕ) (value : Result)
    → value_of name held ≡ None → ¬ (SomeOfBoth Told held ((name, value) ∷ []))
unheld Told held name value none some =
    nothing_told Told held (past_first Told held name value [] None (sym none) tt some)
