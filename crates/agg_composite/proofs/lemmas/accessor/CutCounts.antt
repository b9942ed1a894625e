-- How many occurrences documents have, by numbers that are cut at each step.
use Rattle.std.proofs.Common.{◌≡◌, inl, inr, ℕ, zero, suc, ◌+◌, ◌*◌, ◌<◌, ◌≤◌, List, [], ◌∷◌}
use Rattle.std.proofs.Common.{◌++◌, length, length-append, min, take, map, get_or, sym, ap, ◌∙◌}
use Rattle.std.proofs.Common.{Bool, arith, filter}
use Rattle.std.proofs.Math.Nat.{add_comm, mul_assoc, mul_comm, zero-mul, suc-mul, one-mul}
use Rattle.std.proofs.Math.Nat.{mul-one, mul-zero}
use Rattle.std.proofs.Math.Nat.{le-mul_of_pos_right, min-eq_left, min-eq_right}
use Rattle.std.specs.List.{flat_map}
use Rattle.std.proofs.lemmas.Bool.{cases_lt}
use Rattle.std.proofs.lemmas.List.{map-append, append-nil, length-map, take_more}
use Rattle.std.proofs.lemmas.List.Concat.{flat_map-append, flat_map-cons}
use Rattle.std.proofs.lemmas.List.Elements.{filter-append}
use Rattle.agg_values.specs.Tuple.{KeyTuple}
use Rattle.agg_values.specs.TypedKey.{CompositeIntermediateKey}
use Rattle.agg_segment.specs.storage.Document.{Fields}
use Rattle.agg_segment.specs.storage.Columns.{StoredColumn, all_keys, column_keys, encoded_key}
use Rattle.agg_segment.specs.Segment.{Stored, document_at, documents_at}
use Rattle.agg_request_tree.specs.declared.source.CompositeAggregationSource as kind
use kind.{CompositeAggregationSource}
use Rattle.agg_request_tree.specs.Source.{Sources, source_values}
use Rattle.agg_request_tree.specs.Occurrences.{occurrences, occurrences_in}

-- ---- of one document: a product over the sources

-- the tuples that begin with one of these keys and go on with one of these tuples
length-pairs : (tuples : List KeyTuple) (keys : KeyTuple)
    → length (flat_map (λ k. map (λ t. k ∷ t) tuples) keys) ≡ length keys * length tuples
length-pairs tuples [] = sym (zero-mul (length tuples))
length-pairs tuples (k ∷ keys) =
    let with_key = λ (key : CompositeIntermediateKey). map (λ t. key ∷ t) tuples in
    let parts = ap length (flat_map-cons with_key k keys) ∙ length-append (with_key k)
    (flat_map with_key keys) in
    let first = length-map tuples (λ t. k ∷ t) in
    let rest = length-pairs tuples keys in
    let product = suc-mul (length keys) (length tuples) in
    omega (arith, parts, first, rest, product)

length-occurrences-append : (sources others : Sources) (document : Fields)
    → length (occurrences (sources ++ others) document)
    ≡ length (occurrences sources document) * length (occurrences others document)
length-occurrences-append [] others document = sym (one-mul _)
length-occurrences-append (source ∷ sources) others document =
    let keys = source_values source document in
    length-pairs (occurrences (sources ++ others) document) keys
    ∙ ap (λ n. length keys * n) (length-occurrences-append sources others document)
    ∙ sym (mul_assoc (length keys) (length (occurrences sources document))
    (length (occurrences others document)))
    ∙ ap (λ n. n * length (occurrences others document))
    (sym (length-pairs (occurrences sources document) keys))

length-occurrences-one : (source : CompositeAggregationSource) (document : Fields)
    → length (occurrences (source ∷ []) document) ≡ length (source_values source document)
length-occurrences-one source document =
    length-pairs ([] ∷ []) (source_values source document) ∙ mul-one _

-- one source more
length-occurrences-more : (sources : Sources) (i : ℕ) (d : CompositeAggregationSource)
    (document : Fields) → i < length sources
    → length (occurrences (take (i + 1) sources) document)
    ≡ length (occurrences (take i sources) document) * length (source_values (get_or sources i d)
    document)
length-occurrences-more sources i d document l =
    ap (λ ss. length (occurrences ss document)) (take_more sources i d l)
    ∙ length-occurrences-append (take i sources) (get_or sources i d ∷ []) document
    ∙ ap (λ n. length (occurrences (take i sources) document) * n) (length-occurrences-one
    (get_or sources i d) document)

-- a product that is cut at each step is the product, cut
cut-product : (a b most : ℕ) → min (min a most * b) most ≡ min (a * b) most
cut-product a zero most = ap (λ n. min n most) (mul-zero (min a most) ∙ sym (mul-zero a))
cut-product a (suc b) most = elim (cases_lt a most) [
  | inl below ↦ let l : a ≤ most = omega arith in ap (λ n. min (n * suc b) most) (min-eq_left l)
  | inr above ↦
      let cut : min a most ≡ most = min-eq_right above in
      let positive : 0 < suc b = omega arith in
      let kept : most ≤ most * suc b = le-mul_of_pos_right most positive in
      let greater : most ≤ a * suc b = let more = le-mul_of_pos_right a positive in
      omega (arith, more, above) in
      ap (λ n. min (n * suc b) most) cut ∙ min-eq_right kept ∙ sym (min-eq_right greater)
]

-- the product of two cut factors, cut, is their product, cut
cut-factors : (a b most : ℕ) → min (min a most * min b most) most ≡ min (a * b) most
cut-factors a b most =
    cut-product a (min b most) most
    ∙ ap (λ n. min n most) (mul_comm a (min b most))
    ∙ cut-product b a most
    ∙ ap (λ n. min n most) (mul_comm b a)

-- the cut product, one source more
pub cut-occurrences-more : (sources : Sources) (i : ℕ) (d : CompositeAggregationSource)
    → (document : Fields) (product keys most : ℕ) → i < length sources
    → product ≡ min (length (occurrences (take i sources) document)) most
    → keys ≡ min (length (source_values (get_or sources i d) document)) most
    → min (product * keys) most
    ≡ min (length (occurrences (take (i + 1) sources) document)) most
cut-occurrences-more sources i d document product keys most l p k =
    let all = length (occurrences (take i sources) document) in
    let own = length (source_values (get_or sources i d) document) in
    ap (λ n. min (n * keys) most) p
    ∙ ap (λ n. min (min all most * n) most) k
    ∙ cut-factors all own most
    ∙ ap (λ n. min n most) (sym (length-occurrences-more sources i d document l))

-- ---- of documents: a sum

-- how many occurrences the documents of these numbers have
abbrev count_at : Sources → Stored → List ℕ → ℕ
count_at sources segment docs = length (occurrences_in sources (documents_at segment docs))

count_at-append : (sources : Sources) (segment : Stored) (xs ys : List ℕ)
    → count_at sources segment (xs ++ ys) ≡ count_at sources segment xs + count_at sources segment
    ys
count_at-append sources segment xs ys =
    ap (λ documents. length (occurrences_in sources documents)) (map-append (document_at segment) xs
    ys)
    ∙ ap length (flat_map-append (occurrences sources) (documents_at segment xs)
    (documents_at segment ys))
    ∙ length-append (occurrences_in sources (documents_at segment xs)) (occurrences_in sources
    (documents_at segment ys))

-- one more document adds its occurrences
count_at-more : (sources : Sources) (segment : Stored) (docs : List ℕ) (i : ℕ)
    → i < length docs
    → length (occurrences_in sources (documents_at segment (take (i + 1) docs)))
    ≡ length (occurrences_in sources (documents_at segment (take i docs)))
    + length (occurrences sources (document_at segment (get_or docs i 0)))
count_at-more sources segment docs i l =
    let document = document_at segment (get_or docs i 0) in
    let one : count_at sources segment (get_or docs i 0 ∷ [])
    ≡ length (occurrences sources document) =
    ap length (flat_map-cons (occurrences sources) document []
    ∙ append-nil (occurrences sources document)) in
    ap (count_at sources segment) (take_more docs i 0 l)
    ∙ count_at-append sources segment (take i docs) (get_or docs i 0 ∷ [])
    ∙ ap (λ n. count_at sources segment (take i docs) + n) one

-- a sum that is cut at each step is the sum, cut
cut-sum : (count more most : ℕ) → min (count + min more most) most ≡ min (count + more) most
cut-sum count more most = elim (cases_lt more most) [
  | inl below ↦ let l : more ≤ most = omega arith in ap (λ n. min (count + n) most) (min-eq_left l)
  | inr above ↦
      let cut : min more most ≡ most = min-eq_right above in
      let kept : most ≤ count + most = omega arith in
      let greater : most ≤ count + more = omega arith in
      ap (λ n. min (count + n) most) cut ∙ min-eq_right kept ∙ sym (min-eq_right greater)
]

-- the sum of two cut parts, cut, is their sum, cut
cut-sums : (sum more most : ℕ)
    → min (min sum most + min more most) most ≡ min (sum + more) most
cut-sums sum more most =
    cut-sum (min sum most) more most
    ∙ ap (λ n. min n most) (add_comm (min sum most) more)
    ∙ cut-sum more sum most
    ∙ ap (λ n. min n most) (add_comm more sum)

-- the first documents and one more, by a sum that is cut at each step
pub cut-count : (sources : Sources) (segment : Stored) (docs : List ℕ) (i count own most : ℕ)
    → i < length docs
    → count ≡ min (length (occurrences_in sources (documents_at segment (take i docs)))) most
    → own ≡ min (length (occurrences sources (document_at segment (get_or docs i 0)))) most
    → min (count + own) most
    ≡ min (length (occurrences_in sources (documents_at segment (take (i + 1) docs)))) most
cut-count sources segment docs i count own most l counted one =
    let before = count_at sources segment (take i docs) in
    let more = length (occurrences sources (document_at segment (get_or docs i 0))) in
    ap (λ n. min (n + own) most) counted
    ∙ ap (λ n. min (min before most + n) most) one
    ∙ cut-sums before more most
    ∙ ap (λ n. min n most) (sym (count_at-more sources segment docs i l))

-- ---- of one source: the values in its columns

-- one column more
all_keys-more : (p : CompositeIntermediateKey → Bool) (columns : List StoredColumn) (doc i : ℕ)
    (d : StoredColumn) → i < length columns
    → length (filter p (all_keys (take (i + 1) columns) doc))
    ≡ length (filter p (all_keys (take i columns) doc))
    + length (filter p (column_keys (get_or columns i d) doc))
all_keys-more p columns doc i d l =
    let keys = λ (column : StoredColumn). column_keys column doc in
    let one = get_or columns i d in
    let before = all_keys (take i columns) doc in
    ap (λ cs. length (filter p (flat_map keys cs))) (take_more columns i d l)
    ∙ ap (λ ks. length (filter p ks)) (flat_map-append keys (take i columns) (one ∷ []))
    ∙ ap length (filter-append p before (flat_map keys (one ∷ [])))
    ∙ length-append (filter p before) (filter p (flat_map keys (one ∷ [])))
    ∙ ap (λ n. length (filter p before) + n)
    (ap (λ ks. length (filter p ks)) (flat_map-cons keys one [] ∙ append-nil (keys one)))

-- the cut number of values that pass, one column more
pub cut-columns-more : (p : CompositeIntermediateKey → Bool) (columns : List StoredColumn)
    (doc i : ℕ) (column : StoredColumn) (count most : ℕ) (values : List ℕ)
    → i < length columns → column ≡ get_or columns i column
    → count ≡ min (length (filter p (all_keys (take i columns) doc))) most
    → map (encoded_key column.keys) values ≡ filter p (column_keys column doc)
    → min (count + length values) most
    ≡ min (length (filter p (all_keys (take (i + 1) columns) doc))) most
cut-columns-more p columns doc i column count most values l item c own =
    let before = length (filter p (all_keys (take i columns) doc)) in
    let as_many = sym (length-map values (encoded_key column.keys)) ∙ ap length own in
    let all = all_keys-more p columns doc i column l
    ∙ ap (λ (x : StoredColumn). before + length (filter p (column_keys x doc))) (sym item) in
    ap (λ n. min (n + length values) most) c
    ∙ ap (λ n. min n most) (add_comm (min before most) (length values))
    ∙ cut-sum (length values) before most
    ∙ ap (λ n. min n most)
    (add_comm (length values) before ∙ ap (λ n. before + n) as_many ∙ sym all)
