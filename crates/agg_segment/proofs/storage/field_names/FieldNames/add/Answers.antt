use Rattle.std.proofs.Common.{ap, ◌∙◌}
use Rattle.agg_segment.specs.storage.Cells.{number_of}
use Rattle.agg_segment.specs.storage.Names.{numbered_names}
use Rattle.agg_segment.proofs.lemmas.storage.FirstNames.{still_first}
use Rattle.agg_segment.proofs.storage.field_names.FieldNames.add.Goals as goal

pub invariant_of-self : goal.invariant_of-self
invariant_of-self c = rw c.in_err-set_number.ensures.err c.self.invariant

pub invariant_of-self-2 : goal.invariant_of-self-2
invariant_of-self-2 c =
    let s = c.self.inside in
    still_first s.first.items (numbered_names s.numbers) (numbered_names c.set_number.new.names)
    c.args.name.now c.args.number c.self.invariant
    (ap (λ names. number_of names c.args.name.now) c.self.view_is ∙ c.requires)
    c.in_ok-set_number.ensures.ok
