use Rattle.agg_segment.proofs.lemmas.storage.Classes.{by_class_moves, by_class_twice}
use Rattle.agg_segment.proofs.storage.laws.by_class_keeps_the_keys.Goals as goal

pub returns-clause-permutation : goal.returns-clause-permutation
returns-clause-permutation c = by_class_moves

pub returns-clause-idempotent : goal.returns-clause-idempotent
returns-clause-idempotent c = by_class_twice
