-- Numbers with their documents, while more may come.
use Rattle.std.specs.Prelude.{◌≤◌, ◌-◌, ⊤, ℕ, List, [], ◌∷◌, ◌++◌, length, map}
use Rattle.std.specs.List.{zip, range_with_len}
use Rattle.std.specs.List.Sorted.{IsNonDecreasing}
use Rattle.agg_segment.specs.declared.storage.rows.growing.ManyNumbers.{ManyNumbers}
use Rattle.agg_segment.specs.declared.storage.rows.growing.Growing.{Growing}
use Rattle.agg_segment.specs.declared.storage.rows.growing.Growing.TheVariants.{Empty, One, Many}

-- the documents of numbers: 0, 1, 2 and so on, and then those that are listed
abbrev pub many_docs : ManyNumbers → List ℕ
many_docs many =
    range_with_len 0 (length many.numbers.items - length many.docs.items) ++ many.docs.items

-- numbers with their documents
abbrev pub many_rows : ManyNumbers → List (ℕ × ℕ)
many_rows many = zip (many_docs many) many.numbers.items

-- the numbers with their documents
abbrev pub growing_rows : Growing → List (ℕ × ℕ)
growing_rows Empty = []
growing_rows (One number) = (number.doc, number.number) ∷ []
growing_rows (Many many) = many_rows many.value

-- no more documents are listed than there are numbers, and the documents rise
abbrev pub AreMany : ManyNumbers → Type 0
AreMany many =
    (length many.docs.items ≤ length many.numbers.items)
    × IsNonDecreasing (many_docs many)

-- the documents of the numbers rise
abbrev pub AreGrowing : Growing → Type 0
AreGrowing Empty = ⊤
AreGrowing (One number) = ⊤
AreGrowing (Many many) = AreMany many.value

-- numbers of one document
abbrev pub doc_rows : ℕ → List ℕ → List (ℕ × ℕ)
doc_rows doc numbers = map {B = ℕ × ℕ} (λ n. (doc, n)) numbers
