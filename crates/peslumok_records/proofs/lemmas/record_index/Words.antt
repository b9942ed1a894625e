-- Words that differ.
use Rattle.std.proofs.Common.{◌≡◌, ◌≢◌, ℕ, false, List}
use Rattle.std.specs.Str.{bytes_eq}
use Rattle.std.proofs.lemmas.Bool.{false_from_ne_true}
use Rattle.std.proofs.lemmas.Slice.Eq.{bytes_eq-Decides}

-- a word that differs does so byte by byte
pub other : (word told : List ℕ) → word ≢ told → bytes_eq word told ≡ false
other word told h = false_from_ne_true _ (λ y. h ((bytes_eq-Decides word told).0 y))
