-- A whole number writes a number of JSON that reads as itself.
use Rattle.std.proofs.Common.{◌≡◌, ℕ, ◌^◌, ◌<◌, decimal, negsuc, Some}
use Rattle.std.proofs.Common.{arith}
use Rattle.std.specs.Fmt.{signed_decimal}
use Rattle.json.specs.Print.{IsNumber}
use Rattle.json.proofs.Printed.Decimals.{IsNumber-decimal, IsNumber-signed_decimal}
use Rattle.serde_json.specs.Data.{unsigned, negative}
use Rattle.serde_json.specs.Read.{number_of}
use Rattle.serde_json.proofs.Numbers.{number_of-decimal, number_of-negative}

pub unsigned_number : (n : ℕ) → n < 2 ^ 64
    → IsNumber (decimal n) × (number_of (decimal n) ≡ Some (unsigned n))
unsigned_number n h = (IsNumber-decimal n h, number_of-decimal n h)

pub negative_number : (n : ℕ) → n < 2 ^ 63
    → IsNumber (signed_decimal (negsuc n))
    × (number_of (signed_decimal (negsuc n)) ≡ Some (negative (negsuc n)))
negative_number n h = (IsNumber-signed_decimal (negsuc n) (omega arith), number_of-negative n h)
