use Rattle.std.proofs.Common.{◌≢◌, ◌<◌, length, arith, ◌∙◌, ap, below_more}
use Rattle.std.proofs.Common.{get_or-set_other, get_or-set_same}
use Rattle.agg_segment.specs.storage.Columns.{named_texts, type_of}
use Rattle.agg_segment.specs.storage.GatheredNumbers.{raw_key}
use Rattle.agg_segment.proofs.storage.rows.growing.encode_numbers.Goals as goal

pub loop-number-preserved : goal.loop-number-preserved
loop-number-preserved c =
    let l = c.loop-number in
    let keys = c.args.keys.now in
    let within : l.number-index < length l.numbers =
    omega (arith, c.loop-number-test.true, l.auto.numbers) in
    record {
      keys = below_more _ _
          (λ k h. let ne : k ≢ l.number-index = omega arith in
          rw get_or-set_other (l.invariant.keys k h))
          (rw get_or-set_same (c.encode.ensures.key
          ∙ ap (raw_key (named_texts keys c.args.ordinals.now) c.args.addresses.now (type_of keys))
          (l.invariant.rest l.number-index (omega arith))));
      stand = below_more _ _
          (λ k h. let ne : k ≢ l.number-index = omega arith in
          rw get_or-set_other (l.invariant.stand k h))
          (rw get_or-set_same c.encode.ensures.stands);
      rest = λ k h. let ne : k ≢ l.number-index = omega arith in
          rw get_or-set_other (l.invariant.rest k (omega (arith, h)));
    }
