-- The rows of pages.
use Rattle.std.proofs.Common.{◌≡◌, ◌++◌, ◌∷◌, ◌∙◌, ◌+◌, ◌<◌, [], ℕ, List, ap}
use Rattle.std.proofs.Common.{get_or, length, sym, take}
use Rattle.std.specs.List.{AllZip}
use Rattle.std.proofs.lemmas.List.{take_more}
use Rattle.std.proofs.lemmas.Slice.Zip.{all_zipped_more}
use Rattle.agg_results.specs.declared.final_results.types.CompositeBucketEntry.{
  CompositeBucketEntry,
}
use Rattle.peslumok_front.specs.declared.tables.columns.TableColumn.{TableColumn}
use Rattle.peslumok_front.specs.declared.tables.row.Row.{Row}
use Rattle.peslumok_front.specs.front.Written.{IsGroupRow}

-- the row of one group more
pub group-more : (columns : List TableColumn) (groups : List CompositeBucketEntry) (index : ℕ)
    (group : CompositeBucketEntry) (before after : List Row) (row : Row)
    → index < length groups → group ≡ get_or groups index group → after ≡ before ++ row ∷ []
    → IsGroupRow columns group row → AllZip (IsGroupRow columns) (take index groups) before
    → AllZip (IsGroupRow columns) (take (index + 1) groups) after
group-more columns groups index group before after row within is added here so_far =
    let more : take (index + 1) groups ≡ take index groups ++ group ∷ [] =
    take_more groups index group within ∙ ap (λ g. take index groups ++ g ∷ []) (sym is) in
    rw (more, added)
    (all_zipped_more (IsGroupRow columns) (take index groups) before group row so_far here)
