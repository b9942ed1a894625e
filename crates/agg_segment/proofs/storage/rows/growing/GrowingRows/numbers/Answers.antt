use Rattle.std.proofs.Common.{◌≡◌, sym, ap, subst, ◌∙◌}
use Rattle.agg_segment.specs.storage.Growing.{many_docs, many_rows, growing_rows, AreGrowing}
use Rattle.agg_segment.specs.storage.Growing.{AreMany}
use Rattle.agg_segment.proofs.lemmas.storage.GrowingNumbers.{docs_length, zip_seconds}
use Rattle.agg_segment.proofs.storage.rows.growing.GrowingRows.numbers.Goals as goal

pub returns-in-Many : goal.returns-in-Many
returns-in-Many c =
    let m = c.in-Many.many.value in
    let are : AreMany m = subst AreGrowing c.in-Many.is c.self.invariant in
    let rows : many_rows m ≡ c.args.self.now = ap growing_rows (sym c.in-Many.is)
    ∙ c.self.view_is in
    rw (c.deref-in-Many.ensures.value, c.deref.ensures, ← rows)
    (zip_seconds (many_docs m) m.numbers.items
    (docs_length 0 m.numbers.items m.docs.items are.0))
