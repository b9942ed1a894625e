use Rattle.std.proofs.Common.{◌≡◌, ◌<◌, ◌∷◌, ◌++◌, [], length, take, map}
use Rattle.std.proofs.Common.{Err, refl, sym, ap, subst, ◌∙◌, arith}
use Rattle.std.proofs.lemmas.List.{with_items_is}
use Rattle.std.proofs.lemmas.List.Elements.{All-drop}
use Rattle.std.specs.List.{All}
use Rattle.agg_segment.specs.Gatherings.{raw_placed}
use Rattle.agg_segment.specs.storage.Cells.{Placed}
use Rattle.agg_segment.specs.storage.Runs.{in_document, noted, open_cells}
use Rattle.agg_segment.specs.storage.Signs.{key_mark, AreSigns, HasBoth}
use Rattle.agg_segment.specs.Segment.{Gathered, builder_cells, gathered_documents, open_document}
use Rattle.agg_segment.specs.SegmentLimits.{IsMixed}
use Rattle.agg_segment.specs.declared.builder.BuildError.TheVariants.{MixedNumbers}
use Rattle.agg_segment.specs.declared.builder.BuildError.TheVariants.{TooManyDocuments}
use Rattle.agg_segment.proofs.BuilderKeys.{dropped}
use Rattle.agg_segment.proofs.RunMarks.{run_fields, run_signs, run_both}
use Rattle.agg_segment.proofs.ClosedDocuments.{documents_count, finish_documents, both_mixed}
use Rattle.agg_segment.proofs.MovedKeys.{closed_inv, closed_documents, closed_open, closed_fits}
use Rattle.agg_segment.proofs.MovedKeys.{all_marks, docs_closed}
use Rattle.agg_segment.proofs.builder.SegmentBuilder.finish.Goals as goal

pub returns-then-self-eq-MAX_DOCUMENTS-clause-full
    : goal.returns-then-self-eq-MAX_DOCUMENTS-clause-full
returns-then-self-eq-MAX_DOCUMENTS-clause-full c = (
  λ _. documents_count c.args.self.now ∙ ap (λ (b : Gathered). b.count) (sym c.self.view_is)
      ∙ c.if-self-eq-MAX_DOCUMENTS.true,
  λ _. refl,
)

pub give_signs-requires : goal.give_signs-requires
give_signs-requires c =
    let s = c.self.inside in
    let P : Placed → Type 0 = λ p. p.field < length s.signs.items in
    let whole = builder_cells s.count s.signs.items s.columns s.log in
    rw c.deref_mut.ensures.value
    (run_fields s.log.texts s.log.addresses s.count c.runs.result.0.now
    c.runs.result.1.now c.runs.ensures.are (length s.signs.items)
    (subst (All P) (dropped (raw_placed s.signs.items s.log.texts s.log.addresses) s.columns
    (open_cells s.count s.log) ∙ ap (map (in_document s.count)) (sym c.runs.ensures.keys))
    (All-drop P (length s.columns) whole c.self.invariant.0.fields)))

pub returns-in-Err-clause-full : goal.returns-in-Err-clause-full
returns-in-Err-clause-full c = (
  λ is.
      let error : c.in-Err.error ≡ TooManyDocuments = cc in
      absurd (c.in-Err.ensures.few (ap Err error)),
  λ full.
      let count : length (gathered_documents c.args.self.now) ≡ c.self.inside.count =
      documents_count c.args.self.now ∙ ap (λ (b : Gathered). b.count) (sym c.self.view_is) in
      absurd (c.if-self-eq-MAX_DOCUMENTS.false (sym count ∙ full)),
)

pub returns-in-Err-clause-mixed : goal.returns-in-Err-clause-mixed
returns-in-Err-clause-mixed c is =
    let s = c.self.inside in
    let whole = builder_cells s.count s.signs.items s.columns s.log in
    let before = map key_mark (take (length s.columns) whole) in
    let are : AreSigns c.deref_mut.result.now before = subst (λ signs. AreSigns signs before)
    (sym c.deref_mut.ensures.value) c.self.invariant.0.signs in
    let error : c.in-Err.error ≡ MixedNumbers = cc in
    let both : HasBoth (map key_mark whole) = subst HasBoth
    (ap (λ ks. before ++ map key_mark (map (in_document s.count) ks)) c.runs.ensures.keys
    ∙ all_marks s.count s.signs.items s.columns s.log)
    (run_both s.log.texts s.log.addresses s.count c.runs.result.0.now
    c.runs.result.1.now c.runs.ensures.are before
    (c.in-Err.ensures.mixed (ap Err error) before are)) in
    subst IsMixed (finish_documents s.count s.names whole s.signs.items (length s.columns)
    c.self.invariant.0
    ∙ ap (λ (b : Gathered). gathered_documents b ++ open_document b ∷ []) c.self.view_is)
    (both_mixed s.count s.names whole s.signs.items (length s.columns) c.self.invariant.0 both)

pub add_all-requires-clause-after : goal.add_all-requires-clause-after
add_all-requires-clause-after c =
    let s = c.self.inside in
    docs_closed s.count s.names s.signs.items s.columns s.log c.self.invariant

pub returns-in-Err-add_all-clause-full : goal.returns-in-Err-add_all-clause-full
returns-in-Err-add_all-clause-full c = (
  λ is. cc,
  λ full.
      let count : length (gathered_documents c.args.self.now) ≡ c.self.inside.count =
      documents_count c.args.self.now ∙ ap (λ (b : Gathered). b.count) (sym c.self.view_is) in
      absurd (c.if-self-eq-MAX_DOCUMENTS.false (sym count ∙ full)),
)

-- the signs afterwards
signs_after : (c : goal.After-drop-given) → AreSigns c.give_signs.new.signs (map key_mark
    (builder_cells c.self.inside.count c.self.inside.signs.items c.self.inside.columns
    c.self.inside.log))
signs_after c =
    let s = c.self.inside in
    let before = map key_mark (take (length s.columns)
    (builder_cells s.count s.signs.items s.columns s.log)) in
    let are : AreSigns c.deref_mut.result.now before = subst (λ signs. AreSigns signs before)
    (sym c.deref_mut.ensures.value) c.self.invariant.0.signs in
    subst (AreSigns c.give_signs.new.signs) (ap (λ ks. before ++ map key_mark (map
    (in_document s.count) ks)) c.runs.ensures.keys
    ∙ all_marks s.count s.signs.items s.columns s.log)
    (run_signs s.log.texts s.log.addresses s.count c.runs.result.0.now
    c.runs.result.1.now c.runs.ensures.are c.give_signs.new.signs before
    (c.in-Ok.ensures.ok before are))

as_long : (c : goal.After-drop-given) → length c.give_signs.new.signs ≡ c.self.inside.signs.len
as_long c = omega (arith, c.give_signs.auto.signs, c.deref_mut.ensures.len)

pub invariant_of-self-2 : goal.invariant_of-self-2
invariant_of-self-2 c =
    let s = c.self.inside in
    let e = c.clear.ensures in
    rw (with_items_is s.signs c.give_signs.new.signs (as_long c))
    (closed_inv s.count s.names s.signs.items s.columns s.log c.self.invariant
    (noted c.runs.result.0.now c.runs.result.1.now) c.runs.ensures.keys
    c.runs.ensures.are.kept c.give_signs.new.signs (signs_after c) c.add_all.new.self
    c.in_default.ensures.ok c.clear.new.self e.texts e.addresses e.keys
    (omega (arith, c.give_signs.auto.signs, ap length c.deref_mut.ensures.value))
    (omega (arith, c.self.invariant.0.few, c.if-self-eq-MAX_DOCUMENTS.false)))

pub returns-clause-ok : goal.returns-clause-ok
returns-clause-ok c =
    let s = c.self.inside in
    let e = c.clear.ensures in
    rw (with_items_is s.signs c.give_signs.new.signs (as_long c))
    (closed_documents s.count s.names s.signs.items s.columns s.log c.self.invariant
    (noted c.runs.result.0.now c.runs.result.1.now) c.runs.ensures.keys
    c.runs.ensures.are.kept c.give_signs.new.signs (signs_after c) c.add_all.new.self
    c.in_default.ensures.ok c.clear.new.self e.texts e.addresses e.keys
    ∙ ap (λ (b : Gathered). gathered_documents b ++ open_document b ∷ []) c.self.view_is)

pub returns-clause-opened : goal.returns-clause-opened
returns-clause-opened c =
    let s = c.self.inside in
    let e = c.clear.ensures in
    rw (with_items_is s.signs c.give_signs.new.signs (as_long c))
    (closed_open s.count s.names s.signs.items s.columns s.log c.self.invariant
    (noted c.runs.result.0.now c.runs.result.1.now) c.runs.ensures.keys
    c.runs.ensures.are.kept c.give_signs.new.signs (signs_after c) c.add_all.new.self
    c.in_default.ensures.ok c.clear.new.self e.texts e.addresses e.keys)

pub returns-clause-fits : goal.returns-clause-fits
returns-clause-fits c =
    let s = c.self.inside in
    let e = c.clear.ensures in
    rw (with_items_is s.signs c.give_signs.new.signs (as_long c))
    (closed_fits s.count s.names s.signs.items s.columns s.log c.self.invariant
    (noted c.runs.result.0.now c.runs.result.1.now) c.runs.ensures.keys
    c.runs.ensures.are.kept c.give_signs.new.signs (signs_after c) c.add_all.new.self
    c.in_default.ensures.ok c.clear.new.self e.texts e.addresses e.keys)

pub returns-clause-full : goal.returns-clause-full
returns-clause-full c = (
  λ is. cc,
  λ full.
      let count : length (gathered_documents c.args.self.now) ≡ c.self.inside.count =
      documents_count c.args.self.now ∙ ap (λ (b : Gathered). b.count) (sym c.self.view_is) in
      absurd (c.if-self-eq-MAX_DOCUMENTS.false (sym count ∙ full)),
)
