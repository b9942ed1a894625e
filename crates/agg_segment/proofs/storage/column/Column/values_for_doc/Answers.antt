use Rattle.agg_segment.proofs.lemmas.storage.Filters.{numbers_stand}
use Rattle.agg_segment.proofs.storage.column.Column.values_for_doc.Goals as goal

pub returns-clause-stand : goal.returns-clause-stand
returns-clause-stand c = rw (c.row.ensures, ← c.self.view_is) (numbers_stand c.self.inside.keys
    c.self.inside.rows c.args.doc c.self.invariant.0)
