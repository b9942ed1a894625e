use Rattle.std.proofs.Common.{◌≡◌, List, length, take, ap, sym, subst, ◌∙◌}
use Rattle.agg_segment.specs.storage.Cells.{Placed}
use Rattle.agg_segment.specs.Segment.{builder_cells, gathered_documents, open_document, IsGathered}
use Rattle.agg_segment.proofs.BuilderKeys.{read_again}
use Rattle.agg_segment.proofs.MovedKeys.{discard_inv}
use Rattle.agg_segment.proofs.BuilderDocuments.{discard_open, discard_documents}
use Rattle.agg_segment.proofs.builder.SegmentBuilder.discard.Goals as goal

-- the keys that are left
left : (c : goal.After-clear)
    → builder_cells c.self.inside.count c.self.inside.signs.items c.self.inside.columns
    c.clear.new.self ≡ take (length c.self.inside.columns)
    (builder_cells c.self.inside.count c.self.inside.signs.items c.self.inside.columns
    c.self.inside.log)
left c =
    let e = c.clear.ensures in
    read_again c.self.inside.count c.self.inside.signs.items c.self.inside.columns
    c.self.inside.log c.clear.new.self e.texts e.addresses e.keys

pub invariant_of-self : goal.invariant_of-self
invariant_of-self c =
    let s = c.self.inside in (
      subst (λ (cells : List Placed). IsGathered (record {
        count = s.count;
        names = s.names;
        cells = cells;
      }) s.signs.items (length s.columns)) (sym (left c)) (discard_inv s.count s.names
          (builder_cells s.count s.signs.items s.columns s.log) s.signs.items (length s.columns)
          c.self.invariant.0),
      rw (c.clear.ensures.texts, c.clear.ensures.addresses) c.self.invariant.1,
    )

pub returns-clause-opened : goal.returns-clause-opened
returns-clause-opened c =
    let s = c.self.inside in
    ap (λ (cells : List Placed). open_document (record {
      count = s.count;
      names = s.names;
      cells = cells;
    })) (left c)
    ∙ discard_open s.count s.names
    (builder_cells s.count s.signs.items s.columns s.log) s.signs.items
    (length s.columns) c.self.invariant.0

pub returns-clause-documents : goal.returns-clause-documents
returns-clause-documents c =
    let s = c.self.inside in
    ap (λ (cells : List Placed). gathered_documents (record {
      count = s.count;
      names = s.names;
      cells = cells;
    })) (left c)
    ∙ discard_documents s.count s.names (builder_cells s.count s.signs.items s.columns s.log)
    s.signs.items (length s.columns) c.self.invariant.0
    ∙ ap gathered_documents c.self.view_is
