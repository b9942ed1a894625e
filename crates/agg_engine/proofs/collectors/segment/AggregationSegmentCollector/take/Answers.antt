use Rattle.std.proofs.Common.{◌≡◌, ◌<◌, ◌++◌, ℕ, List, false, true, length, refl, sym}
use Rattle.std.proofs.Common.{ap, ◌∙◌, subst}
use Rattle.std.specs.List.{All}
use Rattle.std.proofs.lemmas.List.{map-append}
use Rattle.agg_values.proofs.KeyTexts.{passed_on}
use Rattle.agg_segment.specs.Query.{matches}
use Rattle.agg_segment.specs.Segment.{Stored, document_at, documents_at, documents_of}
use Rattle.agg_segment.specs.declared.query.QueryTree.{QueryTree}
use Rattle.agg_request_tree.specs.Ranges.{HasStartOutOfRange}
use Rattle.agg_request_tree.specs.Request.{Request}
use Rattle.agg_request_tree.specs.Uncut.{CountsTooMany}
use Rattle.agg_engine_tree.specs.uncut.Uncut.{uncut_lengths}
use Rattle.agg_engine.specs.snapshot_results.ChargeErrors.{collect_error}
use Rattle.agg_engine.specs.collectors.Segment.{IsRightFor, IsTreeCause}
use Rattle.agg_engine.proofs.lemmas.collectors.MemoryCauses.{Pass, cause-charged}
use Rattle.agg_engine.proofs.lemmas.collectors.RightCollectors.{Passes, few-none, few-taken}
use Rattle.agg_engine.proofs.lemmas.collectors.RightCollectors.{may-take, right-taken}
use Rattle.agg_engine.proofs.collectors.segment.AggregationSegmentCollector.take.Given as given
use Rattle.agg_engine.proofs.collectors.segment.AggregationSegmentCollector.take.Goals as goal
use Rattle.agg_engine.proofs.collectors.segment.AggregationSegmentCollector.take.Goals.{
  After-is_too_many,
}

module _ (g : given.Over) (c : After-is_too_many g) (request : Request QueryTree)
    (segment : Stored) (taken : List ℕ) (visits : ℕ)
    (r : IsRightFor request segment taken visits c.args.self.now) where
  -- no start is out of range in the documents
  in_range : ¬ (HasStartOutOfRange request (documents_at segment c.args.docs.now))
  in_range =
      subst (λ s. ¬ (HasStartOutOfRange request (documents_at s c.args.docs.now))) r.same
      (c.if-not-are_starts_in_range.ensures r.meaning request r.right.context)

  -- the counts are those of all
  sums : c.add.new.self
      ≡ uncut_lengths request (documents_at segment taken ++ documents_at segment c.args.docs.now)
  sums =
      c.add.ensures.documents request (documents_at segment taken)
      (documents_at segment c.args.docs.now) r.counts
      (c.deref.ensures.value
      ∙ c.in_ok-counts.ensures r.meaning request (r.same ∙ sym r.reader) r.right.context
      ∙ ap (λ s. uncut_lengths request (documents_at s c.args.docs.now)) r.reader)

  -- not too many are listed
  few : c.is_too_many.result ≡ false
      → ¬ (CountsTooMany matches request
      (documents_at segment taken ++ documents_at segment c.args.docs.now))
  few not = λ many.
      let yes : c.is_too_many.result ≡ true = (c.is_too_many.ensures.documents request
      (documents_at segment taken ++ documents_at segment c.args.docs.now) sums).1 many in
      cc

  -- the documents pass where none are too many
  passes : c.is_too_many.result ≡ false
      → Passes request segment taken visits c.args.self.now r c.args.docs.now c.add.new.self
  passes not = record {
    within = subst (λ s. All (λ doc. doc < length (documents_of s)) c.args.docs.now) r.reader
        c.requires.within;
    range = in_range;
    few = few not;
    sums = sums;
  }

pub returns-then-not-are_starts_in_range-clause-cause :
    goal.returns-then-not-are_starts_in_range-clause-cause
returns-then-not-are_starts_in_range-clause-cause g c = λ request segment taken visits r.
    subst (λ s. HasStartOutOfRange request (documents_at s c.args.docs.now)) r.same
    (c.if-not-are_starts_in_range.ensures r.meaning request r.right.context)

pub returns-then-not-are_starts_in_range-clause-most :
    goal.returns-then-not-are_starts_in_range-clause-most
returns-then-not-are_starts_in_range-clause-most g c =
    few-none c.args.self.now c.args.docs.now c.args.steps.now

pub uncut_lengths-requires-clause-context : goal.uncut_lengths-requires-clause-context
uncut_lengths-requires-clause-context g c =
    let r = c.requires.right.4 in
    (r.meaning, c.requires.right.0, r.same ∙ sym r.reader, r.right.context)

pub returns-in_err-counts-clause-most : goal.returns-in_err-counts-clause-most
returns-in_err-counts-clause-most g c =
    few-none c.args.self.now c.args.docs.now c.args.steps.now

pub returns-then-is_too_many-clause-cause : goal.returns-then-is_too_many-clause-cause
returns-then-is_too_many-clause-cause g c = λ request segment taken visits r.
    let at = (goal.at.returns-then-is_too_many-clause-cause g c).After-is_too_many in
    let documents = documents_at segment taken ++ documents_at segment c.args.docs.now in (
      in_range g at request segment taken visits r,
      subst (CountsTooMany matches request)
          (sym (map-append (document_at segment) taken c.args.docs.now))
          ((c.if-is_too_many.ensures.documents request documents
          (sums g at request segment taken visits r)).0 refl),
    )

pub returns-then-is_too_many-clause-most : goal.returns-then-is_too_many-clause-most
returns-then-is_too_many-clause-most g c =
    few-none c.args.self.now c.args.docs.now c.args.steps.now

pub take_blocks-requires-clause-may : goal.take_blocks-requires-clause-may
take_blocks-requires-clause-may g c =
    let at = (goal.at.take_blocks-requires-clause-may g c).After-is_too_many in
    let r = c.requires.right in
    may-take r.0 r.1 r.2 r.3 c.args.self.now r.4 c.args.docs.now c.add.new.self
    (passes g at r.0 r.1 r.2 r.3 r.4 c.if-is_too_many.false)

pub take_blocks-requires-clause-exact : goal.take_blocks-requires-clause-exact
take_blocks-requires-clause-exact g c = c.requires.right.4.charged

pub returns-in_err-take_blocks-clause-cause : goal.returns-in_err-take_blocks-clause-cause
returns-in_err-take_blocks-clause-cause g c =
    let at = (goal.at.returns-in_err-take_blocks-clause-cause g c).After-is_too_many in
    let pass : Pass c.args.self.now c.args.limits.now c.args.docs.now =
    λ request segment taken visits r. (
      in_range g at request segment taken visits r,
      subst (λ ds. ¬ (CountsTooMany matches request ds))
          (sym (map-append (document_at segment) taken c.args.docs.now))
          (few g at request segment taken visits r c.if-is_too_many.false),
    ) in
    passed_on c.from_residual-in_err-take_blocks.result
    (collect_error c.in_err-take_blocks.field-0.0)
    (IsTreeCause c.args.docs.now c.args.self.now c.args.limits.now)
    c.from_residual-in_err-take_blocks.ensures.1
    (cause-charged c.args.self.now c.args.limits.now c.args.docs.now pass
    c.in_err-take_blocks.field-0.0 c.in_err-take_blocks.ensures.cause)

pub returns-in_err-take_blocks-clause-most : goal.returns-in_err-take_blocks-clause-most
returns-in_err-take_blocks-clause-most g c =
    few-taken c.args.self.now c.args.docs.now c.args.steps.now c.take_blocks.new.steps
    c.in_err-take_blocks.ensures.most

pub returns-clause-ok : goal.returns-clause-ok
returns-clause-ok g c =
    let at = (goal.at.returns-clause-ok g c).After-is_too_many in
    record {
      takes = λ request segment taken visits r.
          right-taken request segment taken visits c.args.self.now r c.args.docs.now
          c.add.new.self
          (passes g at request segment taken visits r c.if-is_too_many.false)
          c.take_blocks.new.self c.args.steps.now c.take_blocks.new.steps
          c.in_ok-take_blocks.ensures.takes c.in_ok-take_blocks.ensures.exact
          c.in_ok-take_blocks.ensures.charges.fixed;
    }

pub returns-clause-most : goal.returns-clause-most
returns-clause-most g c =
    few-taken c.args.self.now c.args.docs.now c.args.steps.now c.take_blocks.new.steps
    c.in_ok-take_blocks.ensures.most
