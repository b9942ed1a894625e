-- Replies to inputs, and what bytes and an input say of one another.
use Rattle.std.proofs.Common.{◌≡◌, ◌≢◌, ℕ, List, Option, None, Some, false, true, refl, sym, ap}
use Rattle.std.proofs.Common.{◌∙◌, subst, inl, inr, is_some, Result, Ok, Err, OnOk, IfOk, IfErr}
use Rattle.agg_values.specs.declared.request_error.AggregationError.TheVariants as aggregation
use Rattle.agg_values.specs.declared.request_error.RequestError.TheVariants as error
use Rattle.agg_segment.specs.declared.query.QueryTree.{QueryTree}
use Rattle.agg_request_tree.specs.Faults.{HasFault}
use Rattle.agg_request_tree.specs.Request.{builders_of, composites_of}
use Rattle.agg_engine.specs.declared.walk.error.WalkError.{WalkError}
use Rattle.agg_engine.specs.declared.walk.error.WalkError.TheVariants.{Invalid, QueryBuild}
use Rattle.agg_engine.specs.declared.walk.error.WalkError.TheVariants.{UnknownComposite}
use Rattle.agg_engine.specs.declared.walk.error.WalkError.TheVariants.{TooMany, OutOfMemory}
use Rattle.agg_engine.specs.declared.walk.error.WalkError.TheVariants.{Aggregation}
use Rattle.agg_engine.specs.declared.walk.error.WalkError.TheVariants.{BucketOutOfRange}
use Rattle.agg_request_tree.proofs.Lists.{none_of_all}
use Rattle.agg_pages.specs.input_text.Input.{Input, IsInput}
use Rattle.agg_values.specs.Nothing.{NoneIs}
use Rattle.agg_cache.specs.Limits.{Limits}
use Rattle.agg_engine.specs.Refusals.{WalkFailsAtMost, WalkRefusedAtLeast}
use Rattle.agg_engine.specs.Walk.{MayBeAsked}
use Rattle.agg_engine.specs.declared.walk.Walk.{Walk}
use Rattle.agg_pages.specs.Answer.{IsNeverRefused, IsRefusal, IsValid, InputRefusedAtMost}
use Rattle.agg_pages.specs.Answer.{limits_of, matches_in, query_in}
use Rattle.agg_pages.specs.Reading.{GivesAll}
use Rattle.agg_pages.proofs.lemmas.input_text.Inputs.{IsInput-unique}

-- ---- what is never refused

pub may_not_refuse : {B : Type 0} (tree_for : B → List (List ℕ) → Option QueryTree) (i : Input B)
    (error : WalkError) → IsNeverRefused tree_for i → ¬ (InputRefusedAtMost tree_for i error)
may_not_refuse tree_for i (Invalid fault) never (other, inl asked) =
    none_of_all (λ c. HasFault c (error.Invalid fault)) (composites_of i.header.request)
    (λ k c within. never.asked.sound k c within (error.Invalid fault)) asked
may_not_refuse tree_for i (Invalid fault) never (other, inr (is, some)) =
    none_of_all (λ s. s.page_size ≡ 0) i.snapshots never.asked.room some
may_not_refuse tree_for i UnknownComposite never (other, unknown) = unknown never.asked.named
may_not_refuse tree_for i QueryBuild never (other, cause) =
    none_of_all (λ b. query_in tree_for i b ≡ None) (builders_of i.header.request)
    (λ k b within made.
    let some : false ≡ true = sym (ap is_some made) ∙ never.asked.each k b within in cc some)
    cause.3
may_not_refuse tree_for i TooMany never (other, many) = never.fits TooMany many.1
may_not_refuse tree_for i BucketOutOfRange never (other, out) = never.fits BucketOutOfRange out.1
may_not_refuse tree_for i (Aggregation (aggregation.DateHistogramParseError part)) never
    (other, text) =
    let refusal = error.Aggregation (aggregation.DateHistogramParseError part) in
    none_of_all (λ c. HasFault c refusal) (composites_of i.header.request)
    (λ k c within. never.asked.sound k c within refusal) text
may_not_refuse tree_for i (Aggregation (aggregation.BucketLimitExceeded limit n)) never
    (other, many) =
    never.fits (Aggregation (aggregation.BucketLimitExceeded limit n)) many.1
may_not_refuse tree_for i (Aggregation (aggregation.MemoryExceeded limit n)) never (other, many) =
    never.fits (Aggregation (aggregation.MemoryExceeded limit n)) many.1
may_not_refuse tree_for i OutOfMemory never (other, any) = other refl

-- what a source gave is the one input that it told
pub given_input : {B : Type 0} (builders : List B) (name_of : B → List ℕ)
    (left left_now : Option (List ℕ))
    (given told : List ℕ) (i j : Input B) → GivesAll left left_now given → left ≡ Some told
    → IsInput builders name_of given i → IsInput builders name_of told j → i ≡ j
given_input builders name_of left left_now given told i j gives is reads_i reads_j =
    IsInput-unique builders name_of told i j
    (subst (λ bytes. IsInput builders name_of bytes i) (gives told is).0 reads_i) reads_j

-- no refusal is the answer to it
pub never-refused : {B : Type 0} (tree_for : B → List (List ℕ) → Option QueryTree)
    (i j : Input B) (text : List ℕ) → i ≡ j → IsNeverRefused tree_for j
    → ¬ (IsRefusal tree_for i text)
never-refused tree_for i j text same never (error, may, text_is) =
    may_not_refuse tree_for j error never
    (subst (λ k. InputRefusedAtMost tree_for k error) same may)

-- ---- what a walk answers, under the limits of its input

module _ {B : Type 0} (tree_for : B → List (List ℕ) → Option QueryTree) (i : Input B)
    (limits : Limits) (are : limits ≡ limits_of i) where
  -- the input of a walk that isn't refused is valid
  pub walked-IsValid : (result : Result Walk WalkError)
      → OnOk result (MayBeAsked (query_in tree_for i) i.header.name i.header.request i.snapshots)
      → OnOk result (NoneIs (WalkRefusedAtLeast (matches_in tree_for i) limits i.header.name
      i.header.query i.header.request i.snapshots))
      → IfOk result (λ walk. IsValid tree_for i)
  walked-IsValid (Ok walk) asked fits = record {
    asked = asked;
    fits = subst (λ l.
        NoneIs (WalkRefusedAtLeast (matches_in tree_for i) l i.header.name i.header.query
        i.header.request i.snapshots)) are fits;
  }
  walked-IsValid (Err error) asked fits = tt

  -- an error that has its cause may be answered
  pub walked-refused : (result : Result Walk WalkError)
      → IfErr result (WalkFailsAtMost (query_in tree_for i) limits i.header.name i.header.query
      i.header.request i.snapshots)
      → IfErr result (λ error. error ≢ OutOfMemory → InputRefusedAtMost tree_for i error)
  walked-refused (Ok walk) cause = tt
  walked-refused (Err error) cause = λ other. (
    other,
    subst (λ l.
        WalkFailsAtMost (query_in tree_for i) l i.header.name i.header.query i.header.request
        i.snapshots error) are cause,
  )
