use Rattle.std.proofs.Common.{◌≡◌, ◌<◌, ◌++◌, ◌∷◌, [], List, length, subst, sym, ap, ◌∙◌, arith}
use Rattle.std.proofs.Common.{length-append}
use Rattle.std.proofs.lemmas.Result.{on_ok_weaker, on_err_weaker}
use Rattle.agg_segment.specs.storage.Cells.{Placed, pushed_key}
use Rattle.agg_segment.specs.storage.Runs.{FieldKey, in_document}
use Rattle.agg_segment.specs.Segment.{Gathered, IsNameOf, IsGathered, with_key, builder_cells}
use Rattle.agg_segment.specs.Segment.{gathered_documents, open_document}
use Rattle.agg_segment.proofs.BuilderKeys.{read_beside, read_pushed, raws_longer}
use Rattle.agg_segment.proofs.lemmas.storage.Filters.{on_either}
use Rattle.agg_segment.proofs.BuilderDocuments.{push_open, push_documents, push_inv}
use Rattle.agg_segment.proofs.builder.SegmentBuilder.push_value.Goals as goal

-- the key of the value in its field
abbrev one : (c : goal.After-push) → FieldKey
one c = record { field = c.args.field; key = pushed_key c.args.value }

abbrev whole : (c : goal.After-push) → List Placed
whole c = builder_cells c.self.inside.count c.self.inside.signs.items c.self.inside.columns
    c.self.inside.log

abbrev whole_new : (c : goal.After-push) → List Placed
whole_new c = builder_cells c.self.inside.count c.self.inside.signs.items c.self.inside.columns
    c.push.new.self

pushed : (c : goal.After-push)
    → c.push.new.self.keys ≡ c.self.inside.log.keys ++ one c ∷ []
    → whole_new c ≡ whole c ++ in_document c.self.inside.count (one c) ∷ []
pushed c is =
    let s = c.self.inside in
    let t = c.push.ensures.texts in
    let a = c.push.ensures.addresses in
    read_pushed s.count s.signs.items s.columns s.log c.push.new.self t.0 a.0 (one c) t.1 a.1
    c.self.invariant.1 is

stayed : (c : goal.After-push) → c.push.new.self.keys ≡ c.self.inside.log.keys
    → whole_new c ≡ whole c
stayed c is =
    let s = c.self.inside in
    let t = c.push.ensures.texts in
    let a = c.push.ensures.addresses in
    read_beside s.count s.signs.items s.columns s.log c.push.new.self t.0 a.0 s.log.keys t.1 a.1
    c.self.invariant.1 is

pub invariant_of-self : goal.invariant_of-self
invariant_of-self c =
    let s = c.self.inside in
    let t = c.push.ensures.texts in
    let a = c.push.ensures.addresses in
    let within : c.args.field < length s.signs.items = c.self.invariant.0.numbered c.requires.0
    c.args.field (subst (λ (b : Gathered). IsNameOf b c.args.field c.requires.0)
    (sym c.self.view_is) c.requires.1) in
    let P : List Placed → _ = λ (cells : List Placed). IsGathered (record {
      count = s.count;
      names = s.names;
      cells = cells;
    }) s.signs.items (length s.columns) in (
      on_either c.push.result c.push.ensures.ok c.push.ensures.err
          (λ is. subst P (sym (pushed c is)) (push_inv s.count s.names (whole c) s.signs.items
          (length s.columns) c.self.invariant.0 c.args.field (pushed_key c.args.value) within))
          (λ is. subst P (sym (stayed c is)) c.self.invariant.0),
      raws_longer (length s.log.texts) (length s.log.addresses) (length c.push.new.self.texts)
          (length c.push.new.self.addresses) s.columns
          (omega (arith, ap length t.1, length-append s.log.texts t.0))
          (omega (arith, ap length a.1, length-append s.log.addresses a.0)) c.self.invariant.1,
    )

pub returns-clause-ok : goal.returns-clause-ok
returns-clause-ok c =
    let s = c.self.inside in
    on_ok_weaker c.push.result
    (λ is name at. ap (λ (cells : List Placed). open_document (record {
      count = s.count;
      names = s.names;
      cells = cells;
    })) (pushed c is)
    ∙ push_open s.count s.names (whole c) s.signs.items (length s.columns) c.self.invariant.0
    c.args.field (pushed_key c.args.value) name (subst (λ (b : Gathered).
    IsNameOf b c.args.field name) (sym c.self.view_is) at)
    ∙ ap (λ (b : Gathered). with_key name (pushed_key c.args.value) (open_document b))
    c.self.view_is)
    c.push.ensures.ok

pub returns-clause-err : goal.returns-clause-err
returns-clause-err c =
    let s = c.self.inside in
    on_err_weaker c.push.result (λ is. ap (λ (cells : List Placed). open_document (record {
      count = s.count;
      names = s.names;
      cells = cells;
    })) (stayed c is) ∙ ap open_document c.self.view_is) c.push.ensures.err

pub returns-clause-documents : goal.returns-clause-documents
returns-clause-documents c =
    let s = c.self.inside in
    let f = λ (cells : List Placed). gathered_documents (record {
      count = s.count;
      names = s.names;
      cells = cells;
    }) in
    on_either c.push.result c.push.ensures.ok c.push.ensures.err
    (λ is. ap f (pushed c is) ∙ push_documents s.count s.names (whole c) s.signs.items
    (length s.columns) c.self.invariant.0 c.args.field (pushed_key c.args.value)
    ∙ ap gathered_documents c.self.view_is)
    (λ is. ap f (stayed c is) ∙ ap gathered_documents c.self.view_is)
