use Rattle.std.proofs.Common.{sym, ◌∙◌}
use Rattle.agg_segment.proofs.lemmas.storage.Numbers.{number_is}
use Rattle.agg_segment.proofs.storage.names.find_number.Goals as goal

pub returns : goal.returns
returns c = c.copied.ensures ∙ c.get.ensures.value
    ∙ sym (number_is c.args.names.now c.args.name.now)
