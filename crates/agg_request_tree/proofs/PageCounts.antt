-- The counts of a page: each is the number of the entry's documents, and none hangs on the order of
-- the documents, or on more than the tuples of the documents and how often each occurs.
use Rattle.std.proofs.Common.{◌≡◌, ℕ, ◌+◌, List, [], ◌∷◌, Bool, cond, length, length-append, get_or}
use Rattle.std.proofs.Common.{map, replicate, refl, sym, ap, ◌∙◌}
use Rattle.std.specs.List.{All, Contains, count_by, flat_map, sum_by}
use Rattle.std.specs.List.Sorted.{IsPermutation}
use Rattle.std.proofs.lemmas.List.{length-replicate}
use Rattle.std.proofs.lemmas.List.Sums.{sum_by-append, sum_by-cons}
use Rattle.std.proofs.lemmas.List.Sorted.{Contains-permutation, IsPermutation-sym}
use Rattle.std.proofs.lemmas.List.Sorted.{sum_by-IsPermutation}
use Rattle.agg_values.specs.KeyOrder.{tuple_order}
use Rattle.agg_values.proofs.TupleOrder.{tuple_order-total}
use Rattle.agg_segment.specs.storage.Document.{Fields}
use Rattle.agg_request_tree.specs.Source.{rules_of, Sources}
use Rattle.agg_request_tree.specs.Occurrences.{occurrences, occurrences_in, same_tuple}
use Rattle.agg_request_tree.specs.Page.{Entry, IsPage, MayList, count_in, documents_with, group_of}
use Rattle.agg_request_tree.proofs.Lists.{Has-from_Contains, Contains-from_Has, Has-flat_map}
use Rattle.agg_request_tree.proofs.Lists.{Has-from_flat_map}
use Rattle.agg_request_tree.proofs.PageKeys.{Lowest-alike, Lowest-same}
use Rattle.agg_request_tree.proofs.PageTuples.{occurring-exact}
use Rattle.agg_request_tree.proofs.PageUnique.{Lowest-from_page, entry_at, entries-from_tuples}
use Rattle.agg_request_tree.proofs.PagePast.{past-parts, past-whole}
use Rattle.agg_values.specs.Tuple.{KeyTuple}
use Rattle.agg_request_tree.specs.Groups.{Group}

-- ---- lists

module _ {X Y : Type 0} (f : X → List Y) where
  -- a count over parts end to end is the sum of the counts
  pub count_by-flat_map : (p : Y → Bool) (xs : List X)
      → count_by p (flat_map f xs) ≡ sum_by (λ x. count_by p (f x)) xs
  count_by-flat_map p [] = refl
  count_by-flat_map p (x ∷ xs) =
      sum_by-append (λ y. cond (p y) 1 0) (f x) (flat_map f xs) ∙ ap (λ n. count_by p (f x) + n)
      (count_by-flat_map p xs) ∙ sym (sum_by-cons (λ z. count_by p (f z)) x xs)

-- how long a list is in which each element is repeated
pub length-repeated : {X : Type 0} (n : X → ℕ) (xs : List X)
    → length (flat_map (λ x. replicate (n x) x) xs) ≡ sum_by n xs
length-repeated n [] = refl
length-repeated n (x ∷ xs) =
    length-append (replicate (n x) x) (flat_map (λ z. replicate (n z) z) xs)
    ∙ (λ i. length-replicate (n x) x i + length-repeated n xs i) ∙ sym (sum_by-cons n x xs)

-- ---- pages

-- each tuple of documents is one of others
abbrev pub HoldsTuplesOf : Sources → List Fields → List Fields → Type 0
HoldsTuplesOf sources documents others =
    (tuple : KeyTuple)
    → Contains (occurrences_in sources documents) tuple
    → Contains (occurrences_in sources others) tuple

module _ (sources : Sources) where
  -- how often a tuple occurs is how many documents it has
  count_in-documents : (documents : List Fields) (tuple : KeyTuple)
      → count_in sources documents tuple ≡ length (documents_with sources documents tuple)
  count_in-documents documents tuple =
      count_by-flat_map (occurrences sources) (same_tuple (rules_of sources) tuple) documents
      ∙ sym (length-repeated (λ d. count_by (same_tuple (rules_of sources) tuple)
      (occurrences sources d)) documents)

  -- each entry of a page counts its documents
  pub counts-documents : (size : ℕ) (bound : KeyTuple) (documents : List Fields) (page : List Entry)
      → IsPage sources size bound documents page
      → All (λ e. e.count ≡ length e.documents) page
  counts-documents size bound documents page is k d within =
      is.counted k d within ∙ count_in-documents documents (get_or page k d).tuple
      ∙ ap length (sym (is.kept k d within))

  -- a tuple of the documents is one of them in any order
  occurring-permutation : (documents others : List Fields) → IsPermutation documents others
      → HoldsTuplesOf sources documents others
  occurring-permutation documents others moved tuple c =
      let from = Has-from_flat_map (occurrences sources) documents tuple (Has-from_Contains
      (occurrences_in sources documents) tuple c) in
      let there = Contains-permutation documents others from.0 moved (Contains-from_Has documents
      from.0 from.1) in
      Contains-from_Has (occurrences_in sources others) tuple (Has-flat_map (occurrences sources)
      others from.0 tuple (Has-from_Contains others from.0 there) from.2)

  -- how often a tuple occurs is the same in any order
  count_in-permutation : (documents others : List Fields) → IsPermutation documents others
      → (tuple : KeyTuple)
      → count_in sources documents tuple ≡ count_in sources others tuple
  count_in-permutation documents others moved tuple =
      let test = same_tuple (rules_of sources) tuple in
      count_by-flat_map (occurrences sources) test documents
      ∙ sym (sum_by-IsPermutation (λ d. count_by test (occurrences sources d)) documents others
      moved)
      ∙ sym (count_by-flat_map (occurrences sources) test others)

  -- a tuple with how often it occurs
  abbrev counted : List Fields → KeyTuple → Group
  counted documents tuple = (tuple, count_in sources documents tuple)

  -- the tuples of a page with their counts
  counted_tuples : (size : ℕ) (bound : KeyTuple) (documents : List Fields) (tuples : List KeyTuple)
      → map group_of (map (entry_at sources size bound documents) tuples) ≡ map (counted documents)
      tuples
  counted_tuples size bound documents [] = refl
  counted_tuples size bound documents (t ∷ tuples) = ap (λ ts. counted documents t ∷ ts)
      (counted_tuples size bound documents tuples)

  -- what one list of documents may list the other may, where it holds the tuples of the one
  may_list-there : (documents others : List Fields) → HoldsTuplesOf sources documents others
      → (bound tuple : KeyTuple)
      → MayList sources bound documents tuple → MayList sources bound others tuple
  may_list-there documents others there bound tuple may =
      let parts = past-parts sources bound documents tuple may in
      past-whole sources bound others tuple (there tuple parts.0) parts.1

  -- the pages of documents with the same tuples and counts have the same tuples and counts
  pub counts-same : (size : ℕ) (bound : KeyTuple) (documents others : List Fields)
      (page other : List Entry)
      → HoldsTuplesOf sources documents others → HoldsTuplesOf sources others documents
      → ((tuple : KeyTuple) → count_in sources documents tuple ≡ count_in sources others tuple)
      → IsPage sources size bound documents page
      → IsPage sources size bound others other
      → map group_of page ≡ map group_of other
  counts-same size bound documents others page other there back same_counts first second =
      ap (map group_of) (entries-from_tuples sources size bound documents page first)
      ∙ counted_tuples size bound documents (map (λ e. e.tuple) page)
      ∙ (λ i. map (same_counted i) (tuples i))
      ∙ sym (counted_tuples size bound others (map (λ e. e.tuple) other))
      ∙ ap (map group_of) (sym (entries-from_tuples sources size bound others other second))
    where
      same_counted : counted documents ≡ counted others
      same_counted = λ i t. (t, same_counts t i)

      tuples : map (λ e. e.tuple) page ≡ map (λ e. e.tuple) other
      tuples =
          Lowest-same (tuple_order (rules_of sources)) (tuple_order-total (rules_of sources))
          (map (λ e. e.tuple) page) (map (λ e. e.tuple) other) (MayList sources bound documents)
          (λ t u may_t may_u e. occurring-exact sources documents t u
          (past-parts sources bound documents t may_t).0
          (past-parts sources bound documents u may_u).0 e)
          size (Lowest-from_page sources size bound documents page first)
          (Lowest-alike (tuple_order (rules_of sources)) (MayList sources bound others)
          (MayList sources bound documents) (may_list-there others documents back bound)
          (may_list-there documents others there bound)
          size (map (λ e. e.tuple) other) (Lowest-from_page sources size bound others other second))

  -- the pages of the same documents in two orders have the same tuples and counts
  pub counts-permutation : (size : ℕ) (bound : KeyTuple) (documents others : List Fields)
      (page other : List Entry) → IsPermutation documents others
      → IsPage sources size bound documents page
      → IsPage sources size bound others other
      → map group_of page ≡ map group_of other
  counts-permutation size bound documents others page other moved =
      counts-same size bound documents others page other
      (occurring-permutation documents others moved)
      (occurring-permutation others documents (IsPermutation-sym documents others moved))
      (count_in-permutation documents others moved)
