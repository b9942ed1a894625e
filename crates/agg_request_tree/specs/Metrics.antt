-- What metrics read, and what they compute of it.
use Rattle.std.specs.Prelude.{◌+ℤ◌, ℕ, ℤ, pos, List, [], ◌∷◌, Option, None, Some, filter_map}
use Rattle.std.specs.List.{flat_map}
use Rattle.agg_values.specs.TypedKey.{CompositeIntermediateKey}
use Rattle.agg_values.specs.declared.typed_key.CompositeIntermediateKey.TheVariants as key
use Rattle.agg_segment.specs.storage.Document.{Fields}

-- the values of a field in all documents
abbrev pub values_of_field : List ℕ → List Fields → List CompositeIntermediateKey
values_of_field field documents = flat_map (λ d. d field) documents

-- the number of a key that is a number, or a date in nanoseconds
abbrev pub number_of : CompositeIntermediateKey → Option ℤ
number_of (key.I64 n) = Some n
number_of (key.U64 n) = Some (pos n)
number_of (key.DateTime ns) = Some ns
number_of _ = None

-- the numbers and dates of a field in all documents
abbrev pub numbers_of : List ℕ → List Fields → List ℤ
numbers_of field documents = filter_map number_of (values_of_field field documents)

-- the better of two numbers, where there are two
abbrev pub best : (ℤ → ℤ → ℤ) → Option ℤ → Option ℤ → Option ℤ
best better None b = b
best better (Some a) None = Some a
best better (Some a) (Some b) = Some (better a b)

-- the best of some numbers, if there are any
abbrev pub best_of : (ℤ → ℤ → ℤ) → List ℤ → Option ℤ
best_of better [] = None
best_of better (n ∷ ns) = best better (Some n) (best_of better ns)

-- the sum of some numbers
abbrev pub sum_of : List ℤ → ℤ
sum_of [] = pos 0
sum_of (n ∷ ns) = n +ℤ sum_of ns
