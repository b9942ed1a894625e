-- The tuples of a composite, and what is counted over the documents of each.
use Rattle.std.proofs.Common.{◌≡◌, ◌≤◌, ◌*◌, ℕ, Bool, true, List, length, min, refl, ◌∙◌, arith}
use Rattle.std.specs.Cmp.{IsEquivalence}
use Rattle.std.specs.Prelude.{nat_le}
use Rattle.std.specs.List.{list_all, sum_by}
use Rattle.std.specs.Map.{keys_of}
use Rattle.std.proofs.Math.Nat.{mul-le-mul_left}
use Rattle.std.proofs.lemmas.Bool.Decides.{nat_tests}
use Rattle.std.proofs.lemmas.Cmp.{eq_by_cmp_equiv}
use Rattle.std.proofs.lemmas.Map.Entries.{length-keys_of as length-keys}
use Rattle.std.proofs.lemmas.Map.Keys.{IsDistinct-from_sorted}
use Rattle.agg_values.specs.KeyOrder.{tuple_order}
use Rattle.agg_values.specs.Tuple.{KeyTuple}
use Rattle.agg_values.proofs.TupleOrder.{tuple_order-total}
use Rattle.agg_segment.specs.storage.Document.{Fields}
use Rattle.agg_request_tree.specs.Groups.{Group}
use Rattle.agg_request_tree.specs.Occurrences.{bound_of, is_past, occurrences, same_tuple}
use Rattle.agg_request_tree.specs.Page.{documents_with}
use Rattle.agg_request_tree.specs.Source.{rules_of}
use Rattle.agg_request_tree.specs.Uncut.{counted}
use Rattle.agg_request_tree.specs.declared.aggregation.CompositeAggregation.{CompositeAggregation}
use Rattle.agg_request_tree.specs.charges.Charges.{bucket_bytes}
use Rattle.agg_request_tree.specs.charges.Laws.{AreGroupsOf}
use Rattle.agg_request_tree.specs.charges.Roof.{has_room, over_tuples, own_bytes, past_tuples}
use Rattle.agg_request_tree.specs.charges.Within.{Within}
use Rattle.agg_request_tree.proofs.lemmas.charges.Distinct.{Alike, Apart-distinct}
use Rattle.agg_request_tree.proofs.lemmas.charges.KeySums.{Within-with_each, Within-with_key}
use Rattle.agg_request_tree.proofs.lemmas.charges.KeySums.{length-keys_of, length-keys_within}
use Rattle.agg_request_tree.proofs.lemmas.charges.KeySums.{list_all-keys_within, sum_by-each_key}
use Rattle.agg_request_tree.proofs.lemmas.charges.KeySums.{sum_by-keys_within, sum_by-other_keys}
use Rattle.agg_request_tree.proofs.lemmas.charges.KeySums.{with_key-alike}
use Rattle.agg_request_tree.proofs.lemmas.charges.Sums.{sum_by-constant, sum_by-map}

-- the smaller of a size and a number doesn't fall where the number rises
min-rises : (size m n : ℕ) → m ≤ n → min size m ≤ min size n
min-rises size m n most = omega (arith, most)

-- so many fit where more do
fits-fewer : (size m n : ℕ) → m ≤ n → nat_le n size ≡ true → nat_le m size ≡ true
fits-fewer size m n most fits = grind (arith, nat_tests)

module _ (composite : CompositeAggregation) where
  -- whether two of its tuples are one
  abbrev same : KeyTuple → KeyTuple → Bool
  same = same_tuple (rules_of composite.sources)

  laws : IsEquivalence same
  laws = eq_by_cmp_equiv (tuple_order-total (rules_of composite.sources))

  -- the tuples of a document
  abbrev tuples : Fields → List KeyTuple
  tuples = occurrences composite.sources

  -- whether a tuple lies past the bound
  abbrev passes : KeyTuple → Bool
  passes = is_past (rules_of composite.sources) (bound_of composite.sources composite.after)

  -- the documents of a tuple
  abbrev pub those : List Fields → KeyTuple → List Fields
  those = documents_with composite.sources

  -- ---- over one list

  -- its own buckets are no more than the places of its uncut list
  pub own-most : (documents : List Fields)
      → own_bytes composite documents
      ≤ bucket_bytes composite * length (counted composite documents)
  own-most documents =
      mul-le-mul_left (bucket_bytes composite)
      (omega (arith, length-keys_of same laws tuples passes documents))

  -- the documents of all tuples weigh at most as much as its uncut list
  pub each_tuple-most : (weight : Fields → ℕ) (documents : List Fields)
      → sum_by (λ t. sum_by weight (those documents t)) (past_tuples composite documents)
      ≤ sum_by weight (counted composite documents)
  each_tuple-most = sum_by-each_key same laws tuples passes

  -- ---- over a list and one that it is within

  module _ (documents others : List Fields) (inside : Within documents others) where
    -- it has no more tuples
    tuples-within : length (past_tuples composite documents) ≤ length (past_tuples composite others)
    tuples-within = length-keys_within same laws tuples passes documents others inside

    pub own-within : own_bytes composite documents ≤ own_bytes composite others
    own-within =
        mul-le-mul_left (bucket_bytes composite)
        (min-rises composite.size (length (past_tuples composite documents))
        (length (past_tuples composite others)) tuples-within)

    -- there is room for the tuples if there is for the others
    pub room-within : has_room composite others ≡ true → has_room composite documents ≡ true
    room-within =
        fits-fewer composite.size (length (past_tuples composite documents))
        (length (past_tuples composite others)) tuples-within

    -- uncut lists, and the documents of a tuple, are within each other too
    pub counted-within : Within (counted composite documents) (counted composite others)
    counted-within = Within-with_each same laws tuples passes documents others inside

    pub those-within : (t : KeyTuple) → Within (those documents t) (those others t)
    those-within = Within-with_key same laws tuples passes documents others inside

    -- what is no more for each tuple is no more over all
    pub over_tuples-within : (bytes : List Fields → ℕ)
        → ((t : KeyTuple) → bytes (those documents t) ≤ bytes (those others t))
        → over_tuples composite bytes documents ≤ over_tuples composite bytes others
    over_tuples-within = sum_by-keys_within same laws tuples passes documents others inside

    -- what passes for each tuple of the others passes for each tuple, if it does for the same one
    pub all_tuples-within : (test : List Fields → Bool)
        → ((t : KeyTuple) → test (those others t) ≡ true → test (those documents t) ≡ true)
        → list_all (λ t. test (those others t)) (past_tuples composite others) ≡ true
        → list_all (λ t. test (those documents t)) (past_tuples composite documents) ≡ true
    all_tuples-within = list_all-keys_within same laws tuples passes documents others inside

  -- ---- groups

  module _ (documents : List Fields) (groups : List Group)
      (are : AreGroupsOf composite documents groups) where
    sum_by-groups : (f : KeyTuple → ℕ) → Alike same laws f
        → sum_by f (past_tuples composite documents) ≡ sum_by f (keys_of groups)
    sum_by-groups f alike =
        sum_by-other_keys same laws tuples passes f alike documents (keys_of groups)
        (Apart-distinct same laws (keys_of groups)
        (IsDistinct-from_sorted (tuple_order (rules_of composite.sources)) (keys_of groups)
        are.ascending))
        are.occurring are.complete

    -- a composite has as many tuples as its past occurrences have groups
    pub tuples-many : length (past_tuples composite documents) ≡ length groups
    tuples-many = omega (
      arith,
      sum_by-constant 1 (past_tuples composite documents),
      sum_by-groups (λ t. 1) (λ t u is. refl),
      sum_by-constant 1 (keys_of groups),
      length-keys groups,
    )

    -- what is counted over its tuples is counted over these groups
    pub tuples-sums : (bytes : List Fields → ℕ)
        → over_tuples composite bytes documents
        ≡ sum_by (λ g. bytes (documents_with composite.sources documents g.0)) groups
    tuples-sums bytes =
        sum_by-groups (λ t. bytes (those documents t))
        (with_key-alike same laws tuples passes bytes documents)
        ∙ sum_by-map (λ t. bytes (those documents t)) (λ g. g.0) groups
