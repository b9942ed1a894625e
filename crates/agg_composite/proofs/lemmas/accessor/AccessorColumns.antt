-- The columns of accessors are those of a source's field that the source reads.
use Rattle.std.proofs.Common.{◌≡◌, ◌<◌, ◌+◌, ℕ, List, [], ◌∷◌, length, get_or, ◌++◌, map, reverse}
use Rattle.std.proofs.Common.{take, refl, sym, ap, ◌∙◌, subst}
use Rattle.std.proofs.lemmas.List.{map-append, reverse-append, reverse-reverse, take_more}
use Rattle.std.proofs.lemmas.List.Elements.{filter-append}
use Rattle.std.specs.List.{All}
use Rattle.agg_segment.specs.storage.Columns.{ClassesAscend, StoredColumn, type_of}
use Rattle.agg_segment.specs.Segment.{Stored, columns_in}
use Rattle.agg_request_tree.specs.Faults.{HasInterval}
use Rattle.agg_request_tree.specs.Source.{field_of, order_of}
use Rattle.agg_request_tree.specs.SourceColumns.{reads_type}
use Rattle.agg_request_tree.specs.declared.source.CompositeAggregationSource as kind
use kind.{CompositeAggregationSource}
use Rattle.agg_composite.specs.accessor.Accessors.{AreOfField, IsAccessorOf, columns_read}
use Rattle.agg_composite.specs.accessor.Lanes.{columns_of, in_requested}
use Rattle.agg_composite.specs.declared.accessor.accessor.CompositeAccessor.{CompositeAccessor}
use Rattle.agg_composite.proofs.lemmas.accessor.ReadColumns.{classes-read}

-- one column more
pub read_more : (source : CompositeAggregationSource) (xs : List CompositeAccessor)
    (columns : List StoredColumn) (i : ℕ) (d : StoredColumn) → i < length columns
    → get_or columns i d ≡ d → columns_of xs ≡ columns_read source (take i columns)
    → columns_of xs ++ columns_read source (d ∷ [])
    ≡ columns_read source (take (i + 1) columns)
read_more source xs columns i d l is before =
    (λ x. before x ++ columns_read source (d ∷ []))
    ∙ sym (filter-append (λ c. reads_type source (type_of c.keys)) (take i columns) (d ∷ []))
    ∙ ap (columns_read source) (sym (take_more columns i d l
    ∙ ap (λ c. take i columns ++ c ∷ []) is))

map-reverse : {X Y : Type 0} (f : X → Y) (xs : List X) → map f (reverse xs) ≡ reverse (map f xs)
map-reverse f [] = refl
map-reverse f (x ∷ xs) =
    ap (map f) (reverse-append (x ∷ []) xs) ∙ map-append f (reverse xs) (x ∷ [])
    ∙ ap (λ ys. ys ++ f x ∷ []) (map-reverse f xs)
    ∙ sym (reverse-append (f x ∷ []) (map f xs))

-- the columns of reversed accessors are reversed
pub columns-reversed : (xs : List CompositeAccessor)
    → reverse (columns_of (reverse xs)) ≡ columns_of xs
columns-reversed xs =
    ap reverse (map-reverse (λ a. a.column.now) xs) ∙ reverse-reverse (columns_of xs)

-- accessors of the columns of a source's field that the source reads
pub field_accessors : (segment : Stored) (source : CompositeAggregationSource)
    (field : List ℕ) (accessors : List CompositeAccessor) (columns : List StoredColumn)
    → HasInterval source → field ≡ field_of source
    → in_requested (order_of source) (columns_of accessors) ≡ columns_read source columns
    → columns ≡ columns_in segment field
    → ClassesAscend columns → All (IsAccessorOf source) accessors
    → AreOfField segment source accessors
field_accessors segment source field accessors columns interval field_is is here classes each =
    record {
      interval = interval;
      each = each;
      columns = is ∙ ap (columns_read source) (here ∙ ap (columns_in segment) field_is);
      classes = subst ClassesAscend (sym is) (classes-read source columns classes);
    }
