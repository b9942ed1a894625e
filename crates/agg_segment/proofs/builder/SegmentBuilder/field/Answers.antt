use Rattle.std.proofs.Common.{◌≡◌, ◌++◌, ◌∷◌, [], ℕ, List, Some, None, length, cond, ap, sym, ◌∙◌}
use Rattle.std.proofs.Common.{arith}
use Rattle.std.specs.Str.{bytes_eq}
use Rattle.agg_segment.specs.storage.Cells.{Placed, number_of}
use Rattle.agg_segment.specs.storage.Runs.{open_cells}
use Rattle.agg_segment.specs.Segment.{builder_cells, gathered_documents, open_document}
use Rattle.agg_segment.specs.declared.storage.sign.Sign.TheVariants.{Small}
use Rattle.agg_segment.proofs.BuilderKeys.{padded_read}
use Rattle.agg_segment.proofs.NewFields.{field_fields, field_documents, field_inv}
use Rattle.agg_segment.proofs.builder.SegmentBuilder.field.Goals as goal

fresh : (c : goal.In_ok-push) → number_of c.self.inside.names c.args.name.now
    ≡ None
fresh c = sym c.find.ensures.number ∙ c.in_default.is

more : (c : goal.In_ok-push) (n : List ℕ) → number_of c.add.new.self n
    ≡ cond (bytes_eq c.args.name.now n) (Some (length c.self.inside.signs.items))
    (number_of c.self.inside.names n)
more c n =
    let as_long : c.len.result ≡ length c.self.inside.signs.items =
    omega (arith, c.len.ensures, c.self.inside.signs.ok) in
    c.in_ok-add.ensures.ok n
    ∙ ap (λ k. cond (bytes_eq c.args.name.now n) (Some k)
    (number_of c.find.new.self n)) (c.in_ok-field.ensures ∙ as_long)
    ∙ ap (λ names. cond (bytes_eq c.args.name.now n) (Some (length c.self.inside.signs.items))
    (number_of names n)) c.find.ensures.names

abbrev whole : (c : goal.In_ok-push) → List Placed
whole c = builder_cells c.self.inside.count c.self.inside.signs.items c.self.inside.columns
    c.self.inside.log

-- the keys with one sign more
same : (c : goal.In_ok-push)
    → builder_cells c.self.inside.count c.push.new.self.items c.self.inside.columns
    c.self.inside.log ≡ whole c
same c =
    let s = c.self.inside in
    ap (λ signs. builder_cells s.count signs s.columns s.log)
    (c.in_ok-push.ensures.items ∙ ap (λ signs. signs ++ Small ∷ []) c.in_ok-reserve.ensures.items)
    ∙ ap (λ ps. ps ++ open_cells s.count s.log)
    (padded_read s.signs.items s.log.texts s.log.addresses s.columns)

pub invariant_of-self-2 : goal.invariant_of-self-2
invariant_of-self-2 c =
    let s = c.self.inside in (
      rw (same c) (rw (c.in_ok-push.ensures.items, c.in_ok-reserve.ensures.items)
          (field_inv s.count s.names (whole c) s.signs.items (length s.columns) c.self.invariant.0
          c.args.name.now c.add.new.self (fresh c) (more c))),
      c.self.invariant.1,
    )

pub returns-clause-documents : goal.returns-clause-documents
returns-clause-documents c =
    let s = c.self.inside in
    ap (λ (cells : List Placed). gathered_documents (record {
      count = s.count;
      names = c.add.new.self;
      cells = cells;
    })) (same c)
    ∙ field_documents s.count s.names (whole c) s.signs.items (length s.columns)
    c.self.invariant.0 c.args.name.now c.add.new.self (fresh c) (more c)
    ∙ ap gathered_documents c.self.view_is

pub returns-clause-opened : goal.returns-clause-opened
returns-clause-opened c =
    let s = c.self.inside in
    ap (λ (cells : List Placed). open_document (record {
      count = s.count;
      names = c.add.new.self;
      cells = cells;
    })) (same c)
    ∙ field_fields s.count s.names (whole c) s.signs.items (length s.columns) c.self.invariant.0
    c.args.name.now c.add.new.self (fresh c) (more c) s.count
    ∙ ap open_document c.self.view_is
