use Rattle.std.proofs.Common.{◌∙◌, sym, length, ap, arith, []}
use Rattle.std.proofs.lemmas.Cmp.{nat_list_cmp_total}
use Rattle.std.proofs.lemmas.Map.Lookups.{exact_bytes}
use Rattle.agg_values.specs.Names.{name_cmp}
use Rattle.agg_segment.proofs.lemmas.storage.Places.{places_ascend}
use Rattle.agg_segment.proofs.storage.dictionary.Dictionary.compare.Goals as goal

pub returns-clause-texts : goal.returns-clause-texts
returns-clause-texts c =
    let len = ap length c.self.view_is in
    rw (← c.self.view_is)
    (c.cmp.ensures ∙ sym (places_ascend name_cmp nat_list_cmp_total exact_bytes
    c.self.inside.texts.value.items c.self.invariant c.args.left c.args.right []
    (omega (arith, len, c.requires.left)) (omega (arith, len, c.requires.right))))
