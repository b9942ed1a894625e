-- The columns of a source's field give its keys and its starts.
use Rattle.std.proofs.Common.{◌≡◌, ℕ, List, [], Option, None, Some, refl, ap, ◌∙◌}
use Rattle.std.specs.Option.{option_map_or}
use Rattle.std.specs.Prelude.{◌==◌, filter, flat_map}
use Rattle.agg_values.specs.TypedKey.{CompositeIntermediateKey}
use Rattle.agg_segment.specs.storage.Cells.{keys_at, number_of}
use Rattle.agg_segment.specs.storage.Columns.{all_keys, column_cells}
use Rattle.agg_segment.specs.Segment.{Stored, columns_in, document_at}
use Rattle.agg_segment.proofs.FieldColumns.{field_keys}
use Rattle.agg_request_tree.specs.Source.{field_of, is_from, keys_in, min_of}
use Rattle.agg_request_tree.specs.declared.source.CompositeAggregationSource as kind
use kind.{CompositeAggregationSource}
use Rattle.agg_composite.specs.accessor.Accessors.{AreOfField, keys_from, keys_in_columns}
use Rattle.agg_composite.specs.accessor.Accessors.{keys_read, starts_in}
use Rattle.agg_composite.specs.declared.accessor.accessor.CompositeAccessor.{CompositeAccessor}
use Rattle.agg_composite.proofs.lemmas.accessor.ReadColumns.{keys-read, starts-read}

module _ (segment : Stored) where
  -- the columns of a field have its keys
  pub columns-keys : (field : List ℕ) (doc : ℕ)
      → all_keys (columns_in segment field) doc ≡ document_at segment doc field
  columns-keys field doc = by_number (number_of segment.names field)
    where
      by_number : (o : Option ℕ)
          → all_keys (option_map_or (λ n. filter (λ c. c.field == n) segment.columns) o []) doc
          ≡ option_map_or (λ n. keys_at (flat_map column_cells segment.columns) n doc) o []
      by_number None = refl
      by_number (Some n) = field_keys segment.columns n doc

  module _ (source : CompositeAggregationSource) (accessors : List CompositeAccessor)
      (of_field : AreOfField segment source accessors) (doc : ℕ) where
    -- what isn't below the source's least value
    abbrev from : List CompositeIntermediateKey → List CompositeIntermediateKey
    from ks = filter (is_from (min_of source)) ks

    -- the keys that are read are those of the field
    pub keys-of_field : keys_read source accessors doc
        ≡ keys_in source (from (document_at segment doc (field_of source)))
    keys-of_field =
        ap (λ cs. keys_in source (keys_from source cs doc)) of_field.columns
        ∙ keys-read source (columns_in segment (field_of source)) doc
        ∙ ap (λ ks. keys_in source (from ks)) (columns-keys (field_of source) doc)

    -- the starts that are read are those of the field
    pub starts-of_field : starts_in source (keys_in_columns source accessors doc)
        ≡ starts_in source (from (document_at segment doc (field_of source)))
    starts-of_field =
        ap (λ cs. starts_in source (keys_from source cs doc)) of_field.columns
        ∙ starts-read source (columns_in segment (field_of source)) doc
        ∙ ap (λ ks. starts_in source (from ks)) (columns-keys (field_of source) doc)
