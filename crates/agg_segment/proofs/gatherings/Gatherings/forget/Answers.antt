use Rattle.std.proofs.Common.{◌≡◌, length, map, arith, ap, ◌∙◌}
use Rattle.std.specs.Prelude.{filter, nat_lt}
use Rattle.std.proofs.lemmas.List.{with_items_is}
use Rattle.agg_segment.specs.Gatherings.{Raw, raws, forgotten}
use Rattle.agg_segment.proofs.LinkedColumns.{links_forgotten}
use Rattle.agg_segment.proofs.Raws.{forgotten_raws}
use Rattle.agg_segment.proofs.gatherings.Gatherings.forget.Goals as goal

fills : (c : goal.After-self-1) → length c.forget_in.new.columns ≡ c.self.inside.columns.len
fills c = omega (arith, c.forget_in.auto.columns, c.deref_mut.ensures.len)

are : (c : goal.After-self-1)
    → c.forget_in.new.columns ≡ map (forgotten c.args.doc) c.self.inside.columns.items
are c = c.forget_in.ensures ∙ ap (map (forgotten c.args.doc)) c.deref_mut.ensures.value

pub invariant_of-self : goal.invariant_of-self
invariant_of-self c =
    let s = c.self.inside in
    rw (with_items_is s.columns c.forget_in.new.columns (fills c), are c)
    (links_forgotten s.columns.items s.last.items c.args.doc c.self.invariant)

pub returns : goal.returns
returns c =
    let s = c.self.inside in
    ap raws (with_items_is s.columns c.forget_in.new.columns (fills c) ∙ are c)
    ∙ forgotten_raws s.columns.items c.args.doc
    ∙ ap (filter (λ (r : Raw). nat_lt r.doc c.args.doc)) c.self.view_is
