use Rattle.std.proofs.Common.{ℕ}
use Rattle.std.specs.List.{Contains}
use Rattle.std.proofs.lemmas.Result.{IfOk-weaker}
use Rattle.agg_segment.specs.storage.Dictionary.{address_at}
use Rattle.agg_segment.proofs.ListedPlaces.{listed_all}
use Rattle.agg_segment.proofs.gatherings.dictionaries.address_list_of.Goals as goal

pub returns : goal.returns
returns c =
    IfOk-weaker c.of.result _ _
    (λ list all. listed_all (λ n. Contains list (record { 0 = n })) (λ (n : ℕ).
    (address_at c.args.addresses.now n).0) c.args.numbers.now
    c.in_ok-found.found.items c.in_ok-found.ensures all) c.of.ensures
