use Rattle.std.proofs.Common.{◌≡◌, Some, length, ap}
use Rattle.std.proofs.Common.{◌∙◌, arith, rules}
use Rattle.agg_segment.specs.storage.Cells.{number_of}
use Rattle.agg_segment.proofs.lemmas.storage.FirstNames.{first_after}
use Rattle.agg_segment.specs.storage.Names.{numbered_names}
use Rattle.agg_segment.proofs.storage.field_names.FieldNames.keep_first.Goals as goal

pub invariant_of-self : goal.invariant_of-self
invariant_of-self c =
    let s = c.self.inside in
    let number : c.args.number ≡ length s.first.items = grind (arith, rules) in
    let has : number_of (numbered_names s.numbers) c.args.name.now ≡ Some (length s.first.items) =
    ap (λ names. number_of names c.args.name.now) c.self.view_is ∙ c.requires
    ∙ ap (λ n. Some n) number in
    first_after s.first.items (numbered_names s.numbers) c.args.name.now c.in-Ok.text _
    c.push.new.self.items c.self.invariant has c.in-Ok.ensures c.push.ensures.items

pub invariant_of-self-in-Ok-2 : goal.invariant_of-self-in-Ok-2
invariant_of-self-in-Ok-2 c =
    let s = c.self.inside in
    let number : c.args.number ≡ length s.first.items = grind (arith, rules) in
    let has : number_of (numbered_names s.numbers) c.args.name.now ≡ Some (length s.first.items) =
    ap (λ names. number_of names c.args.name.now) c.self.view_is ∙ c.requires
    ∙ ap (λ n. Some n) number in
    first_after s.first.items (numbered_names s.numbers) c.args.name.now c.in-Ok.text _
    c.push.new.self.items c.self.invariant has c.in-Ok.ensures c.push.ensures.items
