-- A page of a composite, as a relation on whole lists of documents.
use Rattle.std.specs.Prelude.{◌≡◌, ◌≤◌, ℕ, List, length, map, count_by, replicate}
use Rattle.std.specs.Prelude.{All, Contains}
use Rattle.std.specs.List.{flat_map}
use Rattle.std.specs.List.Sorted.{IsStrictlySortedBy}
use Rattle.std.specs.declared.cmp.Ordering.TheVariants.{Less}
use Rattle.agg_values.specs.KeyOrder.{tuple_order}
use Rattle.agg_segment.specs.storage.Document.{Fields}
use Rattle.agg_request_tree.specs.Source.{rules_of, Sources}
use Rattle.agg_request_tree.specs.Occurrences.{occurrences, occurrences_in, past_occurrences}
use Rattle.agg_request_tree.specs.Occurrences.{same_tuple}
use Rattle.agg_values.specs.Tuple.{KeyTuple}
use Rattle.agg_request_tree.specs.Groups.{Group}

-- a group of a page: its tuple, how often it occurs, and its documents, once for each occurrence
pub record Entry : Type 0 where
  pub tuple : KeyTuple
  pub count : ℕ
  pub documents : List Fields

-- an entry as a group: its tuple with its count
abbrev pub group_of : Entry → Group
group_of entry = (entry.tuple, entry.count)

-- the tuples of a page's entries
abbrev pub tuples_of : List Entry → List KeyTuple
tuples_of entries = map (λ entry. entry.tuple) entries

module _ (sources : Sources) where
  -- how often a tuple occurs in the documents
  abbrev pub count_in : List Fields → KeyTuple → ℕ
  count_in documents tuple =
      count_by (same_tuple (rules_of sources) tuple) (occurrences_in sources documents)

  -- the documents, each as often as the tuple occurs in it
  abbrev pub documents_with : List Fields → KeyTuple → List Fields
  documents_with documents tuple =
      let is_it = same_tuple (rules_of sources) tuple in
      flat_map (λ d. replicate (count_by is_it (occurrences sources d)) d) documents

  -- a group as an entry: its tuple and count, with the documents of the tuple
  abbrev pub entry_of : List Fields → Group → Entry
  entry_of documents group =
      record { tuple = group.0; count = group.1; documents = documents_with documents group.0 }

  -- a tuple that the page may list: it occurs, and lies past the bound
  abbrev pub MayList : KeyTuple → List Fields → KeyTuple → Type 0
  MayList bound documents tuple = Contains (past_occurrences sources bound documents) tuple

  -- the page of a size past a bound: the lowest tuples, ascending, each with its exact count and
  -- its documents
  pub record IsPage (size : ℕ) (bound : KeyTuple) (documents : List Fields) (entries : List Entry)
      : Type 0 where
    pub ascending : IsStrictlySortedBy (tuple_order (rules_of sources)) (tuples_of entries)
    pub short : length entries ≤ size
    pub listed : All (λ e. MayList bound documents e.tuple) entries
    pub complete : (tuple : KeyTuple)
        → MayList bound documents tuple
        → ¬ (Contains (tuples_of entries) tuple)
        → All (λ e. tuple_order (rules_of sources) e.tuple tuple ≡ Less) entries
        × (length entries ≡ size)
    pub counted : All (λ e. e.count ≡ count_in documents e.tuple) entries
    pub kept : All (λ e. e.documents ≡ documents_with documents e.tuple) entries
