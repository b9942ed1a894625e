-- The worked cases of the definitions: a composite, by itself and below another, a metric and a
-- filter.
use Rattle.std.proofs.Common.{◌≡◌, ℕ, ℤ, pos, Bool, true, false, List, [], ◌∷◌, ◌++◌, ◌+◌, None}
use Rattle.std.proofs.Common.{ap, ◌∙◌}
use Rattle.std.specs.Prelude.{if◌then◌else◌, sum}
use Rattle.std.specs.Str.{bytes_eq}
use Rattle.agg_values.specs.declared.order.Order.TheVariants.{Asc}
use Rattle.agg_values.specs.declared.order.MissingOrder.TheVariants as nulls
use Rattle.agg_values.specs.declared.typed_key.CompositeIntermediateKey.TheVariants.{I64}
use Rattle.agg_segment.specs.storage.Document.{Fields}
use Rattle.agg_request_tree.specs.Request.{Request, aggregation_of}
use Rattle.agg_request_tree.specs.declared.aggregation.AggregationVariants as variants
use variants.{AggregationVariants}
use variants.TheVariants.{Composite, Count, Filter}
use Rattle.agg_request_tree.specs.declared.aggregation.filter.FilterQuery.TheVariants as by
use by.{CustomBuilder}
use Rattle.agg_request_tree.specs.declared.source.CompositeAggregationSource as kind
use kind.{CompositeAggregationSource}
use kind.TheVariants.{Terms}
use Rattle.agg_request_tree.specs.charges.Charges.{fixed_charge, node_charge}
use Rattle.agg_request_tree.specs.charges.Roof.{counts_by, counts_of, low_roof, roof, together}
use Rattle.agg_request_tree.specs.charges.Roof.Height.{High, Low}
use Rattle.agg_request_tree.specs.charges.Settled.{IsSettled, settling_by, settling_of}
use Rattle.agg_request_tree.specs.charges.Settled.{settling_together}
use Rattle.agg_request_tree.proofs.lemmas.charges.CountsOut.{counts-made, listed-made}
use Rattle.agg_request_tree.proofs.lemmas.charges.CountsOut.{settling-made}

-- two names
abbrev a : List ℕ
a = 97 ∷ []

abbrev b : List ℕ
b = 98 ∷ []

-- a source of the values of a field
abbrev terms : List ℕ → CompositeAggregationSource
terms field = Terms (record {
  name = field;
  field = field;
  order = Asc;
  missing_bucket = false;
  missing_order = nulls.Default;
  min = None;
})

-- a document with this value of b, and 1 in each other field
abbrev document : ℤ → Fields
document n field = if bytes_eq field b then I64 n ∷ [] else I64 (pos 1) ∷ []

-- documents with three values of b, and with six
abbrev three : List Fields
three = document (pos 1) ∷ document (pos 2) ∷ document (pos 3) ∷ []

abbrev six : List Fields
six = document (pos 4) ∷ document (pos 5) ∷ document (pos 6) ∷ three

-- a page of the values of a field
abbrev page : {B : Type 0} → List ℕ → ℕ → AggregationVariants B
page field size = Composite (record {
  sources = terms field ∷ [];
  size = size;
  after = [];
})

module _ {B : Type 0} (is_match : B → Fields → Bool) where
  -- ---- one aggregation

  abbrev single : AggregationVariants B → Request B
  single agg = (a, aggregation_of agg []) ∷ []

  single-charge : (agg : AggregationVariants B) (documents : ℕ)
      → fixed_charge (single agg) documents ≡ sum (node_charge documents agg ∷ [])
  single-charge agg documents =
      ap (λ list. sum (list ++ [])) (listed-made (λ agg. node_charge documents agg ∷ []) agg [])

  single-counts : (agg : AggregationVariants B)
      → counts_of is_match (single agg) ≡ together ((a, counts_by is_match agg (together [])) ∷ [])
  single-counts agg = ap (λ c. together ((a, c) ∷ [])) (counts-made is_match agg [])

  -- six values in a page of five, and in a page of ten
  six-in_five : roof is_match (single (page b 5)) 6 six ≡ 992
  six-in_five i = single-charge (page b 5) 6 i + single-counts (page b 5) i High six

  six-in_ten : roof is_match (single (page b 10)) 6 six ≡ 1088
  six-in_ten i = single-charge (page b 10) 6 i + single-counts (page b 10) i High six

  -- ---- one below another

  abbrev nested : AggregationVariants B → AggregationVariants B → Request B
  nested agg inner = (a, aggregation_of agg (single inner)) ∷ []

  nested-charge : (agg inner : AggregationVariants B) (documents : ℕ)
      → fixed_charge (nested agg inner) documents
      ≡ sum (node_charge documents agg ∷ node_charge documents inner ∷ [])
  nested-charge agg inner documents =
      ap (λ list. sum (list ++ []))
      (listed-made (λ agg. node_charge documents agg ∷ []) agg (single inner)
      ∙ ap (λ list. node_charge documents agg ∷ (list ++ []))
      (listed-made (λ agg. node_charge documents agg ∷ []) inner []))

  nested-counts : (agg inner : AggregationVariants B)
      → counts_of is_match (nested agg inner)
      ≡ together ((
        a,
        counts_by is_match agg
            (together ((a, counts_by is_match inner (together [])) ∷ [])),
      ) ∷ [])
  nested-counts agg inner =
      ap (λ c. together ((a, c) ∷ []))
      (counts-made is_match agg (single inner)
      ∙ ap (counts_by is_match agg) (single-counts inner))

  nested-settling : (agg inner : AggregationVariants B)
      → settling_of is_match (nested agg inner)
      ≡ settling_together ((
        a,
        settling_by is_match agg
            (settling_together ((a, settling_by is_match inner (settling_together [])) ∷ [])),
      ) ∷ [])
  nested-settling agg inner =
      ap (λ s. settling_together ((a, s) ∷ []))
      (settling-made is_match agg (single inner)
      ∙ ap (λ s. settling_by is_match agg (settling_together ((a, s) ∷ [])))
      (settling-made is_match inner []))

  -- a page of one below a page with room for its value: a bucket of each
  roomy : roof is_match (nested (page a 10) (page b 1)) 3 three ≡ 1216
  roomy i =
      nested-charge (page a 10) (page b 1) 3 i
      + nested-counts (page a 10) (page b 1) i High three

  roomy-low : low_roof is_match (nested (page a 10) (page b 1)) 3 three ≡ 1216
  roomy-low i =
      nested-charge (page a 10) (page b 1) 3 i
      + nested-counts (page a 10) (page b 1) i Low three

  roomy-settled : IsSettled is_match (nested (page a 10) (page b 1)) three
  roomy-settled i = (nested-settling (page a 10) (page b 1) i).is_settled three

  -- a page of one below a page without room for its three values: a bucket there, and one for each
  -- of the three places of the uncut list below, which the low roof doesn't have
  crowded : roof is_match (nested (page b 1) (page a 1)) 3 three ≡ 1408
  crowded i =
      nested-charge (page b 1) (page a 1) 3 i
      + nested-counts (page b 1) (page a 1) i High three

  crowded-low : low_roof is_match (nested (page b 1) (page a 1)) 3 three ≡ 1120
  crowded-low i =
      nested-charge (page b 1) (page a 1) 3 i
      + nested-counts (page b 1) (page a 1) i Low three

  -- a page below a metric: nothing is counted
  abbrev metric : AggregationVariants B
  metric = Count (record { field = a })

  measured : roof is_match (nested metric (page b 1)) 3 three ≡ 768
  measured i =
      nested-charge metric (page b 1) 3 i + nested-counts metric (page b 1) i High three

  measured-settled : IsSettled is_match (nested metric (page b 1)) three
  measured-settled i = (nested-settling metric (page b 1) i).is_settled three

-- ---- a page below a filter, in a segment of nine documents

-- a builder that says itself whether it matches
abbrev told : Bool → Fields → Bool
told builder document = builder

abbrev kept : Bool → AggregationVariants Bool
kept builder = Filter (record { query = CustomBuilder builder })

-- where it matches, a bucket of each value
kept-all : roof told (nested told (kept true) (page b 10)) 9 three ≡ 1058
kept-all i =
    nested-charge told (kept true) (page b 10) 9 i
    + nested-counts told (kept true) (page b 10) i High three

-- no bucket where it doesn't match
kept-none : roof told (nested told (kept false) (page b 10)) 9 three ≡ 770
kept-none i =
    nested-charge told (kept false) (page b 10) 9 i
    + nested-counts told (kept false) (page b 10) i High three
