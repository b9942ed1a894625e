-- The texts of groups and pages.
use Rattle.std.specs.Prelude.{◌≡◌, ◌∷◌, ◌++◌, [], ℕ, List, Bool, true, false, Option, None, Some}
use Rattle.std.specs.Prelude.{codes, if◌then◌else◌}
use Rattle.std.specs.List.{AllZip, last_or}
use Rattle.std.specs.Option.{option_and_then}
use Rattle.agg_values.specs.Names.{value_of}
use Rattle.agg_results.specs.declared.final_results.types as final
use final.AggregationResult.{AggregationResult}
use final.AggregationResult.TheOpen as opened
use final.AggregationResult.TheVariants.{BucketResult, MetricResult}
use final.AggregationResults.{AggregationResults}
use final.BucketResult as buckets
use final.CompositeBucketEntry.{CompositeBucketEntry}
use final.FilterBucketResult.{FilterBucketResult}
use Rattle.peslumok_front.specs.tables.Cells.{is_total, shown_cells}
use Rattle.peslumok_front.specs.tables.Groups.{ShowsGroup, ShowsTotals}
use Rattle.peslumok_front.specs.tables.Output.{AppendsRows}
use Rattle.peslumok_front.specs.declared.tables.columns.TableColumn.{TableColumn}
use Rattle.peslumok_texts.specs.declared.formats.OutputFormat.{OutputFormat}
use Rattle.peslumok_front.specs.declared.tables.row.Row.{Row}

-- ---- what a page shows

-- the groups of a result that has buckets
abbrev pub groups_of_buckets : opened.BucketResult-F AggregationResult buckets.BucketResult
    AggregationResults CompositeBucketEntry FilterBucketResult → List CompositeBucketEntry
groups_of_buckets (opened.Composite groups after_key) = groups
groups_of_buckets (opened.Filter filter) = []

-- the groups of a result, where it is that of a composite
abbrev pub groups_of_result : Option AggregationResult → List CompositeBucketEntry
groups_of_result (Some (BucketResult result)) = groups_of_buckets (buckets.out-BucketResult result)
groups_of_result (Some (MetricResult result)) = []
groups_of_result None = []

-- the groups of a page
abbrev pub groups_in : AggregationResults → List CompositeBucketEntry
groups_in page = groups_of_result (value_of (codes "groups") page.0)

-- the documents of a result that has buckets, where it is that of a filter
abbrev pub filtered_of_buckets : opened.BucketResult-F AggregationResult buckets.BucketResult
    AggregationResults CompositeBucketEntry FilterBucketResult → Option FilterBucketResult
filtered_of_buckets (opened.Composite groups after_key) = None
filtered_of_buckets (opened.Filter filter) = Some filter

-- the documents of a result, where it is that of a filter
abbrev pub filtered_of_result : Option AggregationResult → Option FilterBucketResult
filtered_of_result (Some (BucketResult result)) =
    filtered_of_buckets (buckets.out-BucketResult result)
filtered_of_result (Some (MetricResult result)) = None
filtered_of_result None = None

-- the total of a page, where it has one
abbrev pub total_in : AggregationResults → Option FilterBucketResult
total_in page = filtered_of_result (value_of (codes "total") page.0)

-- the total that is written of a page: only that of the last one is
abbrev pub total_written : Bool → AggregationResults → Option FilterBucketResult
total_written is_last page = if is_last then total_in page else None

-- the total of the last of pages, where it has one
abbrev pub last_total : List AggregationResults → Option FilterBucketResult
last_total pages = option_and_then total_in (last_or None pages)

-- whether no page comes after a page
abbrev pub ends : List AggregationResults → Bool
ends [] = true
ends (page ∷ pages) = false

-- ---- rows

module _ (columns : List TableColumn) where
  -- the row of a group
  pub record IsGroupRow (group : CompositeBucketEntry) (row : Row) : Type 0 where
    pub kind : is_total row ≡ false
    pub cells : ShowsGroup columns group (shown_cells row)

  -- the row of a total
  pub record IsTotalRow (total : FilterBucketResult) (row : Row) : Type 0 where
    pub kind : is_total row ≡ true
    pub cells : ShowsTotals (codes "total") total.doc_count total.sub_aggregations columns
        (shown_cells row)

  -- the row of a total, where there is one
  abbrev pub AreTotalRows : Option FilterBucketResult → List Row → Type 0
  AreTotalRows None rows = rows ≡ []
  AreTotalRows (Some total) rows = (row : Row) × IsTotalRow total row × (rows ≡ row ∷ [])

  -- the rows of groups, one for each in order, and then that of a total, where there is one
  pub record AreRowsOf (groups : List CompositeBucketEntry) (total : Option FilterBucketResult)
      (rows : List Row) : Type 0 where
    pub of_groups : List Row
    pub of_total : List Row
    pub are_groups : AllZip IsGroupRow groups of_groups
    pub are_totals : AreTotalRows total of_total
    pub joined : rows ≡ of_groups ++ of_total

  -- ---- texts

  module _ (format : OutputFormat) where
    -- the text of groups and a total: their rows in a format, after the header where it comes first
    pub record IsGroupsText (is_first : Bool) (groups : List CompositeBucketEntry)
        (total : Option FilterBucketResult) (text : List ℕ) : Type 0 where
      pub rows : List Row
      pub are_rows : AreRowsOf groups total rows
      pub written : AppendsRows format columns rows is_first [] text

    -- the text of a page: that of its groups, and on the last page of the total
    abbrev pub IsPageText : Bool → Bool → AggregationResults → List ℕ → Type 0
    IsPageText is_first is_last page =
        IsGroupsText is_first (groups_in page) (total_written is_last page)

    -- the text of pages: that of each, one after another
    abbrev pub IsTextOf : Bool → List AggregationResults → List ℕ → Type 0
    IsTextOf is_first [] text = text ≡ []
    IsTextOf is_first (page ∷ pages) text =
        (own rest : List ℕ)
        × IsPageText is_first (ends pages) page own
        × IsTextOf false pages rest
        × (text ≡ own ++ rest)
