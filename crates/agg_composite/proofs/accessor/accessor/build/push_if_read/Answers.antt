use Rattle.std.proofs.Common.{◌≡◌, ◌++◌, ◌∷◌, [], ℕ, ℤ, All, Bool, FitsSigned, Some, cond, true, ap}
use Rattle.std.proofs.Common.{◌∙◌, rules, subst, sym}
use Rattle.std.specs.Int.{w64}
use Rattle.std.proofs.lemmas.Int.{to_z-of_z}
use Rattle.std.proofs.lemmas.List.{append-nil, map-append}
use Rattle.std.proofs.lemmas.List.Elements.{All-push}
use Rattle.agg_values.specs.Column.{class_of}
use Rattle.agg_values.specs.declared.column.ColumnPaginationOrder.{ColumnPaginationOrder}
use Rattle.agg_segment.specs.storage.Columns.{StoredColumn, encoded_key, type_class, type_of}
use Rattle.agg_segment.specs.declared.storage.keys.ColumnKeys.{ColumnKeys}
use Rattle.agg_segment.specs.declared.storage.keys.ColumnKeys.TheVariants.{Bools, Texts, Signed}
use Rattle.agg_segment.specs.declared.storage.keys.ColumnKeys.TheVariants.{Unsigned, Addresses}
use Rattle.agg_segment.specs.declared.storage.keys.ColumnKeys.TheVariants.{Dates}
use Rattle.agg_request_tree.specs.SourceColumns.{reads_class, reads_type}
use Rattle.agg_request_tree.specs.declared.source.CompositeAggregationSource as kind
use kind.{CompositeAggregationSource}
use Rattle.agg_composite.specs.accessor.Accessors.{IsAccessorOf, columns_read}
use Rattle.agg_composite.specs.accessor.Lanes.{columns_of}
use Rattle.agg_composite.specs.declared.accessor.accessor.CompositeAccessor.{CompositeAccessor}
use Rattle.agg_composite.proofs.accessor.accessor.build.push_if_read.Goals as goal

-- the class of a column's keys is that of its type
type_class-keys : (keys : ColumnKeys) (class : ColumnPaginationOrder)
    → ((n : ℕ) → class_of (encoded_key keys n) ≡ Some class) → type_class (type_of keys) ≡ class
type_class-keys Bools class is = cc (is 0)
type_class-keys (Texts texts) class is = cc (is 0)
type_class-keys Signed class is = cc (is 0)
type_class-keys Unsigned class is = cc (is 0)
type_class-keys (Addresses addresses) class is = cc (is 0)
type_class-keys Dates class is = cc (is 0)

-- whether a source reads a column, by the class of its keys
reads-class : (source : CompositeAggregationSource) (keys : ColumnKeys)
    (class : ColumnPaginationOrder) (reads : Bool)
    → ((n : ℕ) → class_of (encoded_key keys n) ≡ Some class) → reads ≡ reads_class source class
    → reads_type source (type_of keys) ≡ reads
reads-class source keys class reads is told =
    ap (reads_class source) (type_class-keys keys class is) ∙ sym told

-- what it reads of one column
read-one : (source : CompositeAggregationSource) (column : StoredColumn) (reads : Bool)
    → reads_type source (type_of column.keys) ≡ reads
    → columns_read source (column ∷ []) ≡ cond reads (column ∷ []) []
read-one source column reads is = ap (λ (b : Bool). cond b (column ∷ []) []) is

pub returns-then-not-reads-clause-columns : goal.returns-then-not-reads-clause-columns
returns-then-not-reads-clause-columns c =
    let source = c.args.source.now in
    let column = c.args.column.now in
    let others = columns_of c.args.accessors.now.items in
    let class = c.column_pagination_order in
    sym (append-nil others)
    ∙ ap (λ cs. others ++ cs) (sym (read-one source column _
    (reads-class source column.keys class.result _ class.ensures.class c.reads.ensures
    ∙ c.if-not-reads.true)))

pub returns-clause-columns : goal.returns-clause-columns
returns-clause-columns c =
    let source = c.args.source.now in
    let column = c.args.column.now in
    let others = c.args.accessors.now.items in
    let class = c.column_pagination_order in
    let fits : FitsSigned w64 c.args.division.1 = search rules in
    let accessor : ℤ → CompositeAccessor =
    λ offset. record {
      column = c.args.column;
      date_histogram_interval = c.args.division.0;
      date_offset_ns = offset;
    } in
    ap columns_of c.in_ok-push.ensures.items
    ∙ ap (λ o. columns_of (others ++ accessor o ∷ [])) (to_z-of_z w64 c.args.division.1 fits)
    ∙ map-append (λ (a : CompositeAccessor). a.column.now) others (accessor c.args.division.1 ∷ [])
    ∙ ap (λ cs. columns_of others ++ cs) (sym (read-one source column true
    (reads-class source column.keys class.result _ class.ensures.class c.reads.ensures
    ∙ c.if-not-reads.false)))

pub returns-clause-each : goal.returns-clause-each
returns-clause-each c =
    let source = c.args.source.now in
    let others = c.args.accessors.now.items in
    let class = c.column_pagination_order in
    let fits : FitsSigned w64 c.args.division.1 = search rules in
    let accessor : ℤ → CompositeAccessor =
    λ offset. record {
      column = c.args.column;
      date_histogram_interval = c.args.division.0;
      date_offset_ns = offset;
    } in
    let own : IsAccessorOf source (accessor c.args.division.1) = record {
      division = c.requires.division;
      reads = reads-class source c.args.column.now.keys class.result _ class.ensures.class
          c.reads.ensures ∙ c.if-not-reads.false;
      order = class.ensures.order;
    } in
    subst (All (IsAccessorOf source)) (sym (c.in_ok-push.ensures.items
    ∙ ap (λ o. others ++ accessor o ∷ []) (to_z-of_z w64 c.args.division.1 fits)))
    (All-push (IsAccessorOf source) others (accessor c.args.division.1) c.requires.each own)
