-- Names that are another.
use Rattle.std.proofs.Common.{◌≡◌, ◌≢◌, ℕ, false, List}
use Rattle.std.specs.Str.{bytes_eq}
use Rattle.std.proofs.lemmas.Bool.{false_from_ne_true}
use Rattle.std.proofs.lemmas.Slice.Eq.{bytes_eq-Decides}

-- another name is so byte by byte
pub other : (name word : List ℕ) → name ≢ word → bytes_eq name word ≡ false
other name word h = false_from_ne_true _ (λ y. h ((bytes_eq-Decides name word).0 y))
