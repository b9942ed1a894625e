use Rattle.std.proofs.Common.{[]}
use Rattle.std.proofs.lemmas.Cmp.{nat_list_cmp_total}
use Rattle.std.proofs.lemmas.Map.Lookups.{exact_bytes}
use Rattle.agg_values.specs.Names.{name_cmp}
use Rattle.agg_segment.proofs.lemmas.storage.Places.{places_ascend}
use Rattle.agg_segment.proofs.storage.dictionary.Dictionary.class.Goals as goal

pub returns-clause-order : goal.returns-clause-order
returns-clause-order c = rw (← c.self.view_is)
    (λ left right in_left in_right.
    places_ascend name_cmp nat_list_cmp_total exact_bytes c.self.inside.texts.value.items
    c.self.invariant left right [] in_left in_right)
