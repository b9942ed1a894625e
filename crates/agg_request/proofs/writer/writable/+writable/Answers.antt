use Rattle.std.proofs.Common.{◌≡◌, Bool, sym, ap, ◌∙◌}
use Rattle.std.specs.Prelude.{◌&&◌}
use Rattle.std.specs.Map.{keys_of}
use Rattle.agg_request_tree.specs.Request.{agg_of, below_of}
use Rattle.agg_request_tree.specs.declared.aggregation.Aggregation.{Aggregation}
use Rattle.agg_request.specs.reading.RequestJson.{kind_word}
use Rattle.agg_request.specs.reading.Kinds.{may_hold}
use Rattle.agg_request.specs.Written.{all_may_be_written, has_no_null_min, may_be_written}
use Rattle.agg_request.proofs.Writable.{writable-out}
use Rattle.agg_request.proofs.writer.writable.+writable.Goals as goal

-- whether an aggregation may be written, by what is known of its own sources
by_own : {B : Type 0} (a : Aggregation B) (own : Bool) → has_no_null_min (agg_of a) ≡ own
    → may_be_written a
    ≡ (own && (may_hold (kind_word (agg_of a)) (keys_of (below_of a))
    && all_may_be_written (below_of a)))
by_own a own is =
    writable-out a
    ∙ ap (λ b. b && (may_hold (kind_word (agg_of a)) (keys_of (below_of a))
    && all_may_be_written (below_of a))) is

pub is_writable-returns-then-not-has_no_null_min
    : goal.is_writable-returns-then-not-has_no_null_min
is_writable-returns-then-not-has_no_null_min g t c =
    sym (by_own c.args.aggregation.now _
    (sym c.has_no_null_min.ensures ∙ c.if-not-has_no_null_min.true))

pub is_writable-returns-then-may_hold : goal.is_writable-returns-then-may_hold
is_writable-returns-then-may_hold g t c =
    let a = c.args.aggregation.now in
    c.all_may_be_written.ensures
    ∙ sym (by_own a _ (sym c.has_no_null_min.ensures ∙ c.if-not-has_no_null_min.false)
    ∙ ap (λ b. b && all_may_be_written (below_of a))
    (sym c.may_hold.ensures ∙ c.if-may_hold.true))

pub is_writable-returns-else-may_hold : goal.is_writable-returns-else-may_hold
is_writable-returns-else-may_hold g t c =
    let a = c.args.aggregation.now in
    c.if-may_hold.false
    ∙ sym (by_own a _ (sym c.has_no_null_min.ensures ∙ c.if-not-has_no_null_min.false)
    ∙ ap (λ b. b && all_may_be_written (below_of a))
    (sym c.may_hold.ensures ∙ c.if-may_hold.false))
