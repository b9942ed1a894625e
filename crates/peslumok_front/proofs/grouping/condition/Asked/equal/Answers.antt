use Rattle.std.proofs.Common.{◌∙◌, ap}
use Rattle.agg_segment.specs.Query.{matches}
use Rattle.peslumok_front.proofs.lemmas.grouping.MatchedTerms.{holds-one, one-term}
use Rattle.peslumok_front.proofs.grouping.condition.Asked.equal.Goals as goal

pub returns-in_ok-term-in_default : goal.returns-in_ok-term-in_default
returns-in_ok-term-in_default c = record {
  met = λ document. ap (λ tree. matches tree document) c.in_ok-term-in_default.ensures
      ∙ one-term c.args.self.now.field.now c.in_ok-value.value document
      ∙ holds-one c.args.self.now.of c.args.text.now c.args.self.now.field.now
      c.in_ok-value.value document c.in_default.not-Plain c.in_ok-value.ensures.value;
  cause = tt;
}
