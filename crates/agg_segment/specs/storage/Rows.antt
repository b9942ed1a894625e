-- Numbers in one buffer, and whose they are.
use Rattle.std.specs.Prelude.{◌≡◌, ◌<◌, ◌≤◌, ◌+◌, ◌-◌, ⊤, ℕ, zero, suc}
use Rattle.std.specs.Prelude.{List, [], ◌∷◌, ◌++◌, length, replicate}
use Rattle.std.specs.List.{zip, range_with_len}
use Rattle.agg_segment.specs.declared.storage.rows.DocEnd.{DocEnd}
use Rattle.agg_segment.specs.declared.storage.rows.Layout.{Layout}
use Rattle.agg_segment.specs.declared.storage.rows.Layout.TheVariants.{Dense, Listed}
use Rattle.agg_segment.specs.declared.storage.rows.UnevenNumbers.{UnevenNumbers}
use Rattle.agg_segment.specs.declared.storage.rows.Numbers.{Numbers}
use Rattle.agg_segment.specs.declared.storage.rows.Numbers.TheVariants.{One, OneEach, Uneven}

-- each document as often as it has numbers
abbrev pub listed_docs : ℕ → List DocEnd → List ℕ
listed_docs start [] = []
listed_docs start (e ∷ ends) = replicate (e.end - start) e.doc ++ listed_docs e.end ends

-- where the last document's numbers end
abbrev pub last_end : ℕ → List DocEnd → ℕ
last_end start [] = start
last_end start (e ∷ ends) = last_end e.end ends

-- where the numbers of the document at a place begin
abbrev pub start_at : ℕ → List DocEnd → ℕ → ℕ
start_at start ends zero = start
start_at start [] (suc at) = start
start_at start (e ∷ ends) (suc at) = start_at e.end ends at

-- the ends of documents from one on, with their documents
abbrev pub numbered : ℕ → List ℕ → List DocEnd
numbered doc [] = []
numbered doc (end ∷ ends) = record { doc = doc; end = end } ∷ numbered (doc + 1) ends

-- the documents of numbers
abbrev pub layout_docs : Layout → List ℕ
layout_docs (Dense ends) = listed_docs 0 (numbered 0 ends.items)
layout_docs (Listed ends) = listed_docs 0 ends.items

-- numbers of which a document may have none or several, with their documents
abbrev pub uneven_rows : UnevenNumbers → List (ℕ × ℕ)
uneven_rows uneven = zip (layout_docs uneven.layout) uneven.numbers.items

-- the numbers with their documents
abbrev pub rows : Numbers → List (ℕ × ℕ)
rows (One number) = (number.doc, number.number) ∷ []
rows (OneEach numbers) = zip (range_with_len 0 (length numbers.items)) numbers.items
rows (Uneven uneven) = uneven_rows uneven.value

-- the ends rise, and so do the documents
abbrev pub AreEnds : ℕ → List DocEnd → Type 0
AreEnds start [] = ⊤
AreEnds start (e ∷ []) = start ≤ e.end
AreEnds start (e ∷ f ∷ ends) = (start ≤ e.end) × (e.doc < f.doc) × AreEnds e.end (f ∷ ends)

-- the ends of documents rise to a count
abbrev pub AreEndsOf : List DocEnd → ℕ → Type 0
AreEndsOf ends count = AreEnds 0 ends × (last_end 0 ends ≡ count)

-- a layout is of so many numbers
abbrev pub IsLaidOut : Layout → ℕ → Type 0
IsLaidOut (Dense ends) count = AreEndsOf (numbered 0 ends.items) count
IsLaidOut (Listed ends) count = AreEndsOf ends.items count

-- numbers are as many as their layout says
abbrev pub AreLaidOut : Numbers → Type 0
AreLaidOut (One number) = ⊤
AreLaidOut (OneEach numbers) = ⊤
AreLaidOut (Uneven uneven) = IsLaidOut uneven.value.layout (length uneven.value.numbers.items)
