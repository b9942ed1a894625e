use Rattle.std.proofs.Common.{◌≡◌, ◌∙◌, ap, subst, IfOk, IfErr}
use Rattle.agg_segment.specs.storage.Document.{Fields}
use Rattle.agg_segment.specs.Query.{matches}
use Rattle.peslumok_texts.specs.fields.Types.{type_of}
use Rattle.peslumok_texts.specs.words.Condition.{demand}
use Rattle.peslumok_front.specs.grouping.Query.{RefusesTest, passes}
use Rattle.peslumok_front.proofs.grouping.condition.tree_of.Goals as goal

pub returns-clause-met : goal.returns-clause-met
returns-clause-met c =
    let condition = c.args.condition.now in
    subst (λ of. IfOk c.tree.result (λ tree. (document : Fields) → matches tree document
    ≡ passes of (demand condition.test) condition.field.now document))
    (c.get.ensures ∙ ap (type_of c.args.types.now) c.in_ok-field.ensures) c.tree.ensures.met

pub returns-clause-cause : goal.returns-clause-cause
returns-clause-cause c =
    let condition = c.args.condition.now in
    subst (λ of. IfErr c.tree.result (RefusesTest of (demand condition.test) condition.field.now))
    (c.get.ensures ∙ ap (type_of c.args.types.now) c.in_ok-field.ensures) c.tree.ensures.cause
