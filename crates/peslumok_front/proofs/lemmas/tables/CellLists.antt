-- The cells of a line, column by column.
use Rattle.std.proofs.Common.{◌≡◌, ◌+◌, ◌<◌, ◌≤◌, ◌++◌, ℕ, List, [], ◌∷◌, ap, drop, get_or, length}
use Rattle.std.proofs.Common.{◌∙◌, map, refl, subst, sym, take}
use Rattle.std.proofs.lemmas.List.{append-nil, drop_all, map-append, take_more}
use Rattle.std.proofs.lemmas.Slice.Zip.{all_zipped_more}
use Rattle.agg_results.specs.declared.final_results.types.AggregationResults.{AggregationResults}
use Rattle.agg_results.specs.declared.final_results.types.CompositeBucketEntry.{
  CompositeBucketEntry,
}
use Rattle.peslumok_front.specs.tables.Cells.{Shown, shown_by}
use Rattle.peslumok_front.specs.tables.Groups.{IsGroupCell, ShowsGroup, ShowsTotals}
use Rattle.peslumok_front.specs.declared.tables.columns.TableColumn.{TableColumn}
use Rattle.peslumok_front.specs.declared.tables.row.TableCell.{TableCell}

-- one more cell of a group
pub group-more : (entry : CompositeBucketEntry) (columns : List TableColumn) (index : ℕ)
    (column : TableColumn) (before after : List TableCell) (cell : TableCell)
    → index < length columns
    → column ≡ get_or columns index column
    → after ≡ before ++ cell ∷ []
    → IsGroupCell entry column (shown_by cell)
    → ShowsGroup (take index columns) entry (map shown_by before)
    → ShowsGroup (take (index + 1) columns) entry (map shown_by after)
group-more entry columns index column before after cell less is a here so_far =
    let more : take (index + 1) columns ≡ take index columns ++ column ∷ [] =
    take_more columns index column less ∙ ap (λ c. take index columns ++ c ∷ []) (sym is) in
    let cells : map shown_by after ≡ map shown_by before ++ shown_by cell ∷ [] =
    ap (map shown_by) a ∙ map-append shown_by before (cell ∷ []) in
    rw (more, cells) (all_zipped_more (IsGroupCell entry) (take index columns)
    (map shown_by before) column (shown_by cell) so_far here)

-- the totals' cells once no column is left
pub totals-done : (label start : List ℕ) (doc_count : ℕ) (metrics : AggregationResults)
    (items columns : List TableColumn) (index : ℕ) (cells : List Shown)
    → items ≡ columns
    → length items ≤ index
    → ((rest : List Shown) → ShowsTotals label doc_count metrics (drop index items) rest
    → ShowsTotals start doc_count metrics items (cells ++ rest))
    → ShowsTotals start doc_count metrics columns cells
totals-done label start doc_count metrics items columns index cells same end so_far =
    let none : ShowsTotals label doc_count metrics (drop index items) [] =
    subst (λ left. ShowsTotals label doc_count metrics left []) (sym (drop_all index items end))
    refl in
    let all : ShowsTotals start doc_count metrics items cells =
    subst (ShowsTotals start doc_count metrics items) (append-nil cells) (so_far [] none) in
    subst (λ cs. ShowsTotals start doc_count metrics cs cells) same all
