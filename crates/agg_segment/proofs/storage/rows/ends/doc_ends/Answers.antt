use Rattle.std.proofs.Common.{ℕ, get_or}
use Rattle.agg_segment.specs.declared.storage.rows.DocEnd.{DocEnd}
use Rattle.std.proofs.lemmas.List.{get_or_default}
use Rattle.agg_segment.proofs.lemmas.storage.Layouts.{step_docs, step_rise, step_all, step_below}
use Rattle.agg_segment.proofs.storage.rows.ends.doc_ends.Goals as goal

pub loop-at-preserved : goal.loop-at-preserved
loop-at-preserved c =
    let l = c.loop-at in
    let docs = c.args.docs.now in
    let e = c.doc_end-at.ensures in
    let x : DocEnd = record { doc = get_or docs l.at 0; end = c.in_ok-end.end } in
    let here = λ (d : ℕ). get_or_default docs l.at 0 d c.loop-at-test.true in
    rw c.in_ok-push.ensures.items
    (record {
      within = e.within;
      listed = step_docs docs c.requires l.ends.items l.at c.doc_end-at.result x e.further e.within
          c.in_ok-end.ensures here e.same e.other l.invariant.all l.invariant.below
          l.invariant.listed;
      rise = step_rise docs c.requires l.ends.items l.at c.doc_end-at.result x e.further e.within
          c.in_ok-end.ensures here e.same e.other l.invariant.all l.invariant.below
          l.invariant.rise;
      all = step_all docs c.requires l.ends.items l.at c.doc_end-at.result x e.further e.within
          c.in_ok-end.ensures here e.same e.other l.invariant.all l.invariant.below;
      below = step_below docs c.requires l.ends.items l.at c.doc_end-at.result x e.further e.within
          c.in_ok-end.ensures here e.same e.other l.invariant.all l.invariant.below;
    })
