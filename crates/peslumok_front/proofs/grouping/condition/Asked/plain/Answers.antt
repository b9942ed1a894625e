use Rattle.std.proofs.Common.{◌∙◌, ◌∷◌, ap, sym}
use Rattle.agg_segment.specs.Query.{matches, some_matches}
use Rattle.peslumok_front.specs.grouping.Query.{plain_values}
use Rattle.peslumok_front.proofs.lemmas.grouping.MatchedTerms.{some-terms, three-terms, two-terms}
use Rattle.peslumok_front.proofs.grouping.condition.Asked.plain.Goals as goal

pub returns-in_default : goal.returns-in_default
returns-in_default c document =
    c.some_of.ensures document
    ∙ ap (λ trees. some_matches matches trees document)
    (two-terms c.args.self.now.field.now c.args.text.now c.in_ok-copy_of.field-0 c.args.value
    c.new-should.result c.push_term.new.trees c.push_term-2.new.trees c.new-should.ensures
    c.in_ok-push_term.ensures c.in_ok-push_term-2.ensures c.in_ok-copy_of.ensures
    (sym c.truth_of.ensures ∙ c.in_default.is))
    ∙ some-terms c.args.self.now.field.now (c.args.value ∷ plain_values c.args.text.now) document

pub returns : goal.returns
returns c document =
    c.some_of-2.ensures document
    ∙ ap (λ trees. some_matches matches trees document)
    (three-terms c.args.self.now.field.now c.args.text.now c.in_ok-copy_of.field-0 c.args.value
    c.in-Some.truth c.new-should.result c.push_term.new.trees c.push_term-2.new.trees
    c.push_term-3.new.trees c.new-should.ensures c.in_ok-push_term.ensures
    c.in_ok-push_term-2.ensures c.in_ok-push_term-3.ensures c.in_ok-copy_of.ensures
    (sym c.truth_of.ensures ∙ c.in-Some.is))
    ∙ some-terms c.args.self.now.field.now (c.args.value ∷ plain_values c.args.text.now) document
