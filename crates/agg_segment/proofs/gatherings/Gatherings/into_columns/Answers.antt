use Rattle.std.proofs.Common.{List, length, map, get_or, ap, sym, subst, ◌∙◌}
use Rattle.std.proofs.lemmas.List.Sorted.{All-permutation}
use Rattle.std.proofs.lemmas.Result.{IfOk-weaker}
use Rattle.agg_segment.specs.storage.Cells.{keys_at}
use Rattle.agg_segment.specs.storage.Document.{by_class}
use Rattle.agg_segment.specs.Gatherings.{Raw, raws, raw_placed, IsWide}
use Rattle.agg_segment.specs.storage.Signs.{key_mark, AreSigns}
use Rattle.agg_segment.specs.declared.gatherings.Gathering.{Gathering}
use Rattle.agg_segment.specs.declared.storage.sign.Sign.TheVariants.{Small}
use Rattle.agg_segment.specs.storage.GatheredNumbers.{IsRaw}
use Rattle.agg_segment.proofs.AlikeNumbers.{alike_all}
use Rattle.agg_segment.proofs.WideColumns.{wide_columns}
use Rattle.agg_segment.proofs.ColumnOrder.{in_order}
use Rattle.agg_segment.proofs.SortedKeys.{sorted_keys}
use Rattle.agg_segment.proofs.gatherings.Gatherings.into_columns.Goals as goal

pub encode_all-requires-clause-kept : goal.encode_all-requires-clause-kept
encode_all-requires-clause-kept c =
    let P : Raw → Type 0 = λ r. IsRaw (length c.args.texts.now) (length c.args.addresses.now)
    r.class r.number in
    alike_all P (raws c.sort.new.columns.items) (raws c.self.inside.columns.items)
    c.in_ok-sort.ensures.alike (rw c.self.view_is c.requires.kept)

pub encode_all-requires-clause-wide : goal.encode_all-requires-clause-wide
encode_all-requires-clause-wide c =
    let signs = c.args.signs.now in
    let columns = c.self.inside.columns.items in
    All-permutation (λ (g : Gathering). IsWide (get_or signs g.field Small) g) columns
    c.sort.new.columns.items c.in_ok-sort.ensures.permutation
    (wide_columns signs c.args.texts.now c.args.addresses.now columns c.self.inside.last.items
    c.self.invariant (subst (λ (rs : List Raw). AreSigns signs (map key_mark
    (map (raw_placed signs c.args.texts.now c.args.addresses.now) rs))) (sym c.self.view_is)
    c.requires.signs))

pub returns-clause-keys : goal.returns-clause-keys
returns-clause-keys c =
    let signs = c.args.signs.now in
    let texts = c.args.texts.now in
    let addresses = c.args.addresses.now in
    IfOk-weaker c.encode_all.result _ _
    (λ columns is field doc.
    ap (λ cells. keys_at cells field doc) is
    ∙ sorted_keys signs texts addresses (raws c.self.inside.columns.items)
    c.sort.new.columns.items field doc c.in_ok-sort.ensures.sorted c.in_ok-sort.ensures.alike
    ∙ ap (λ (rs : List Raw). by_class (keys_at (map (raw_placed signs texts addresses) rs)
    field doc)) c.self.view_is)
    c.encode_all.ensures.cells

pub returns-clause-order : goal.returns-clause-order
returns-clause-order c =
    IfOk-weaker c.encode_all.result _ _
    (λ columns is. in_order c.self.inside.columns.items c.sort.new.columns.items
    c.self.inside.last.items c.self.invariant c.in_ok-sort.ensures.stable columns.items
    c.in_ok-sort.ensures.sorted is) c.encode_all.ensures.classes
