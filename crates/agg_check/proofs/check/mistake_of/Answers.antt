use Rattle.agg_pages.specs.input_text.Input.{AreNoInput, IsInput}
use Rattle.agg_pages.specs.input_text.StoredInput.{input_of}
use Rattle.agg_check.proofs.lemmas.refusals.SoundRequests.{told-none, told-some}
use Rattle.agg_check.specs.Check.{known_builders}
use Rattle.agg_check.proofs.Verdicts.{of_input, of_none}
use Rattle.agg_check.proofs.check.mistake_of.Goals as goal

pub returns-in-Some-clause-goes_on : goal.returns-in-Some-clause-goes_on
returns-in-Some-clause-goes_on c =
    of_input c.args.bytes.now (input_of c.in-Some.input) c.mistake_in.result
    (told-some (AreNoInput known_builders (λ b. b.name) c.args.bytes.now)
    (λ i. IsInput known_builders (λ b. b.name) c.args.bytes.now (input_of i))
    c.in_ok-input.field-0 c.in-Some.input c.in-Some.is c.in_ok-input.ensures)
    c.mistake_in.ensures.walked

pub returns-in_ok-mistake-in-None-clause-goes_on : goal.returns-in_ok-mistake-in-None-clause-goes_on
returns-in_ok-mistake-in-None-clause-goes_on c =
    of_none c.args.bytes.now
    (told-none (AreNoInput known_builders (λ b. b.name) c.args.bytes.now)
    (λ i. IsInput known_builders (λ b. b.name) c.args.bytes.now (input_of i))
    c.in_ok-input.field-0 c.in-None.is c.in_ok-input.ensures)
