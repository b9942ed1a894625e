use Rattle.std.proofs.Common.{◌≡◌, [], subst, sym, ap, ◌∙◌}
use Rattle.std.specs.Prelude.{◌==◌, filter, flat_map}
use Rattle.std.specs.Option.{option_map_or}
use Rattle.agg_segment.specs.storage.Cells.{keys_at, number_of}
use Rattle.agg_segment.specs.storage.Names.{numbered_names}
use Rattle.agg_segment.specs.storage.Columns.{StoredColumn, column_cells, all_keys}
use Rattle.agg_segment.specs.storage.Columns.{ClassesAscend}
use Rattle.agg_segment.specs.Segment.{Stored, columns_in, document_at}
use Rattle.agg_segment.proofs.FieldColumns.{field_keys, classes_ascend}
use Rattle.agg_segment.proofs.segment.SegmentReader.columns.Goals as goal

pub columns_of-requires : goal.columns_of-requires
columns_of-requires c = rw c.deref.ensures.value c.self.invariant.1

-- the columns that are found
found : (c : goal.After-columns_of) → c.columns_of.result.now ≡ filter (λ (d : StoredColumn).
    d.field == c.in-Some.number) c.self.inside.columns.items
found c = c.columns_of.ensures ∙ ap (filter (λ (d : StoredColumn). d.field == c.in-Some.number))
    c.deref.ensures.value

pub returns-in-Some-clause-of_field : goal.returns-in-Some-clause-of_field
returns-in-Some-clause-of_field c =
    let s = c.self.inside in
    found c
    ∙ ap
    (λ o. option_map_or (λ n. filter (λ (d : StoredColumn). d.field == n) s.columns.items) o [])
    (c.in-Some.ensures ∙ ap (number_of (numbered_names s.names)) c.as_str.ensures)
    ∙ ap (λ (r : Stored). columns_in r c.args.field.now) c.self.view_is

pub returns-in-Some-clause-keys : goal.returns-in-Some-clause-keys
returns-in-Some-clause-keys c doc =
    let s = c.self.inside in
    let names = numbered_names s.names in
    ap (λ cs. all_keys cs doc) (found c) ∙ field_keys s.columns.items c.in-Some.number doc
    ∙ ap (λ o. option_map_or (λ f. keys_at (flat_map column_cells s.columns.items) f doc) o [])
    (c.in-Some.ensures ∙ ap (number_of names) c.as_str.ensures)
    ∙ ap (λ (r : Stored). document_at r doc c.args.field.now) c.self.view_is

pub returns-in-Some-clause-classes : goal.returns-in-Some-clause-classes
returns-in-Some-clause-classes c = subst ClassesAscend (sym (found c))
    (classes_ascend c.self.inside.columns.items c.in-Some.number c.self.invariant.1)

pub returns-in-None-clause-of_field : goal.returns-in-None-clause-of_field
returns-in-None-clause-of_field c =
    let s = c.self.inside in
    ap (λ o. option_map_or (λ n. filter (λ (d : StoredColumn). d.field == n) s.columns.items) o [])
    (c.in-None.ensures ∙ ap (number_of (numbered_names s.names)) c.as_str.ensures)
    ∙ ap (λ (r : Stored). columns_in r c.args.field.now) c.self.view_is

pub returns-in-None-clause-keys : goal.returns-in-None-clause-keys
returns-in-None-clause-keys c doc =
    let s = c.self.inside in
    let names = numbered_names s.names in
    ap (λ o. option_map_or (λ f. keys_at (flat_map column_cells s.columns.items) f doc) o [])
    (c.in-None.ensures ∙ ap (number_of names) c.as_str.ensures)
    ∙ ap (λ (r : Stored). document_at r doc c.args.field.now) c.self.view_is
