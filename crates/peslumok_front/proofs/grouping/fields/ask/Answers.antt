use Rattle.std.proofs.Common.{◌∙◌, ap}
use Rattle.agg_values.specs.Names.{put}
use Rattle.peslumok_front.proofs.lemmas.grouping.AddedFields.{added-put}
use Rattle.peslumok_front.proofs.grouping.fields.ask.Goals as goal

pub returns : goal.returns
returns c =
    added-put c.args.types.now c.args.fields.now c.insert.new.self c.args.field
    (c.in_ok-insert.ensures.ok ∙ ap (λ of. put c.args.field of c.args.fields.now) c.get-of.ensures)
