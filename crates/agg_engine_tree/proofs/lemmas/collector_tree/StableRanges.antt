-- Starts of which none is out of range are in range.
use Rattle.std.proofs.Common.{List, Option, None, Some, get_or}
use Rattle.std.specs.Prelude.{FitsSigned, ℤ}
use Rattle.std.specs.Int.{w64}
use Rattle.std.specs.List.{All}
use Rattle.std.proofs.Math.Nat.{lt_of_not-le, not-le_of_lt}
use Rattle.agg_segment.specs.storage.Document.{Fields}
use Rattle.agg_request_tree.specs.Ranges.{AreInRange, IsInRange, IsWithin}
use Rattle.agg_request_tree.specs.Source.{Sources, start_in, values_from}

-- what isn't refuted of each of a list holds of each, where it does so of an element
all-stable : {X : Type 0} (P : X → Type 0) → ((x : X) → ¬ (¬ (P x)) → P x) → (xs : List X)
    → ¬ (¬ (All P xs)) → All P xs
all-stable P stable xs kept k d within =
    stable (get_or xs k d) (λ no. kept (λ all. no (all k d within)))

-- a number that isn't out of 64 bits is of 64 bits
fits-stable : (n : ℤ) → ¬ (¬ (FitsSigned w64 n)) → FitsSigned w64 n
fits-stable n kept = record {
  sfits = lt_of_not-le (λ over. kept (λ fits. not-le_of_lt fits.sfits over));
}

-- a start that isn't out of range is in range
within-stable : (start : Option ℤ) → ¬ (¬ (IsWithin start)) → IsWithin start
within-stable None kept = tt
within-stable (Some n) kept = fits-stable n kept

-- starts in documents that aren't out of range are in range
pub ranges-stable : (sources : Sources) (documents : List Fields)
    → ¬ (¬ (All (AreInRange sources) documents)) → All (AreInRange sources) documents
ranges-stable sources =
    all-stable (AreInRange sources)
    (λ document.
    all-stable (λ source. All (IsInRange source) (values_from source document))
    (λ source.
    all-stable (IsInRange source) (λ k. within-stable (start_in source k))
    (values_from source document)) sources)
