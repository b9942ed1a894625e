use Rattle.std.proofs.Common.{List, length, ap, ◌∙◌}
use Rattle.agg_segment.specs.storage.Cells.{Placed, keys_at}
use Rattle.agg_segment.specs.storage.Document.{by_class}
use Rattle.agg_segment.specs.storage.Names.{numbered_names}
use Rattle.agg_segment.specs.Segment.{builder_cells, gathered_documents, documents_of}
use Rattle.agg_segment.proofs.BuilderKeys.{read_kept}
use Rattle.agg_segment.proofs.ClosedDocuments.{built_documents}
use Rattle.agg_segment.proofs.NumbersOf64Bits.{built-64}
use Rattle.agg_segment.proofs.builder.SegmentBuilder.build.Goals as goal

pub into_columns-requires-clause-kept : goal.into_columns-requires-clause-kept
into_columns-requires-clause-kept c =
    rw (
      c.as_slice.ensures,
      c.into_kept-texts.ensures.texts,
      c.deref.ensures.value,
      c.into_kept-texts.ensures.addresses,
    ) c.self.invariant.1

pub into_columns-requires-clause-signs : goal.into_columns-requires-clause-signs
into_columns-requires-clause-signs c =
    let s = c.self.inside in
    rw (read_kept s.count s.signs.items c.deref-2.result.now s.columns s.log c.as_slice.result.now
    c.deref.result.now c.deref-2.ensures.value
    (c.as_slice.ensures ∙ c.into_kept-texts.ensures.texts)
    (c.deref.ensures.value ∙ c.into_kept-texts.ensures.addresses))
    (rw c.deref-2.ensures.value c.self.invariant.0.signs)

pub returns-clause-built : goal.returns-clause-built
returns-clause-built c =
    let s = c.self.inside in
    ap documents_of c.from_parts.ensures
    ∙ ap (λ names. documents_of (record {
      count = s.count;
      names = names;
      columns = c.in_ok-columns.columns.items;
    })) c.into_numbers.ensures
    ∙ built_documents s.count s.names
    (builder_cells s.count s.signs.items s.columns s.log) s.signs.items
    (length s.columns) c.self.invariant.0 c.in_ok-columns.columns.items
    (λ field doc. c.in_ok-columns.ensures.keys field doc
    ∙ ap (λ (cells : List Placed). by_class (keys_at cells field doc))
    (read_kept s.count s.signs.items c.deref-2.result.now s.columns s.log c.as_slice.result.now
    c.deref.result.now c.deref-2.ensures.value
    (c.as_slice.ensures ∙ c.into_kept-texts.ensures.texts)
    (c.deref.ensures.value ∙ c.into_kept-texts.ensures.addresses)))
    ∙ ap gathered_documents c.self.view_is

pub from_parts-requires-clause-numbers : goal.from_parts-requires-clause-numbers
from_parts-requires-clause-numbers c =
    built-64 c.deref-2.result.now c.as_slice.result.now c.deref.result.now c.self.inside.columns
    (rw (
      c.as_slice.ensures,
      c.into_kept-texts.ensures.texts,
      c.deref.ensures.value,
      c.into_kept-texts.ensures.addresses,
    ) c.self.invariant.1)
    (record {
      count = c.self.inside.count;
      names = numbered_names c.into_numbers.result;
      columns = c.in_ok-columns.columns.items;
    })
    c.in_ok-columns.ensures.keys
