use Rattle.std.proofs.Common.{◌∷◌, ◌++◌, [], List, length, map, get_or, ap, sym, subst, ◌∙◌, arith}
use Rattle.std.specs.Prelude.{reverse, flat_map}
use Rattle.std.specs.List.{All}
use Rattle.std.proofs.lemmas.List.{with_items_is, reverse-append}
use Rattle.agg_segment.specs.storage.Columns.{column_cells}
use Rattle.agg_segment.specs.Gatherings.{Raw, raws, raw_placed, IsWide, column_classes}
use Rattle.agg_segment.specs.Gatherings.{gathering_classes}
use Rattle.agg_segment.specs.declared.gatherings.Gathering.{Gathering}
use Rattle.agg_segment.specs.declared.storage.sign.Sign.TheVariants.{Small}
use Rattle.agg_segment.specs.storage.GatheredNumbers.{IsRaw}
use Rattle.agg_segment.proofs.EncodedColumns.{column_is, next_cells, next_classes, rank_is}
use Rattle.agg_segment.proofs.EncodedColumns.{kept_last, kept_rest, all_last, all_rest}
use Rattle.agg_segment.proofs.gatherings.columns.encode_all.Goals as goal

pub column_of-requires-clause-kept : goal.column_of-requires-clause-kept
column_of-requires-clause-kept c =
    let l = c.loop-gathering in
    kept_last (length c.args.texts.now) (length c.args.addresses.now) c.pop.new.self.items
    c.in-Some.gathering (subst (λ (gs : List Gathering).
    All (λ r. IsRaw (length c.args.texts.now) (length c.args.addresses.now) r.class r.number)
    (raws gs)) c.in-Some.ensures.items l.invariant.kept)

pub column_of-requires-clause-wide : goal.column_of-requires-clause-wide
column_of-requires-clause-wide c =
    let signs = c.args.signs.now in
    rw c.sign_in-sign.ensures (all_last (λ (g : Gathering). IsWide (get_or signs g.field Small) g)
    c.pop.new.self.items c.in-Some.gathering (subst (All (λ (g : Gathering).
    IsWide (get_or signs g.field Small) g)) c.in-Some.ensures.items
    c.loop-gathering.invariant.wide))

pub loop-gathering-preserved : goal.loop-gathering-preserved
loop-gathering-preserved c =
    let l = c.loop-gathering in
    let signs = c.args.signs.now in
    let texts = c.args.texts.now in
    let addresses = c.args.addresses.now in
    let rest = c.pop.new.self.items in
    let g = c.in-Some.gathering in
    let column = c.in_ok-column.column in
    let e = c.in_ok-column.ensures in
    let items = c.in-Some.ensures.items in
    let read : Raw → _ = raw_placed signs texts addresses in
    rw (
      c.give_back.ensures,
      c.in_ok-push.ensures.items,
      reverse-append l.columns.items (column ∷ []),
    )
    (record {
      each = ap length (with_items_is l.ordinals c.column_of.new.ordinals
          (omega (arith, c.column_of.auto.ordinals, c.deref_mut.ensures.len)))
          ∙ c.column_of.auto.ordinals ∙ ap length c.deref_mut.ensures.value ∙ l.invariant.each;
      cells = next_cells signs texts addresses rest g column (reverse l.columns.items) _
          (column_is signs texts addresses c.sign_in-sign.result g column c.sign_in-sign.ensures
          e.field e.cells)
          (ap (λ gs. map (raw_placed signs texts addresses) (raws gs)
          ++ flat_map column_cells (reverse l.columns.items)) (sym items) ∙ l.invariant.cells);
      classes = next_classes rest g column (reverse l.columns.items) _ e.field
          (rank_is c.sign_in-sign.result g.class column.keys e.kind)
          (ap (λ gs. gathering_classes gs ++ column_classes (reverse l.columns.items)) (sym items)
          ∙ l.invariant.classes);
      kept = kept_rest (length texts) (length addresses) rest g (subst (λ (gs : List Gathering).
          All (λ r. IsRaw (length texts) (length addresses) r.class r.number) (raws gs)) items
          l.invariant.kept);
      wide = all_rest (λ (h : Gathering). IsWide (get_or signs h.field Small) h) rest g
          (subst (All (λ (h : Gathering). IsWide (get_or signs h.field Small) h)) items
          l.invariant.wide);
    })
