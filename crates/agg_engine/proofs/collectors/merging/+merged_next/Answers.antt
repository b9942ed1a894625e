use Rattle.std.proofs.Common.{◌-◌, ◌/◌, ◌++◌, Err, drop, take, sym, ap, ◌∙◌, arith}
use Rattle.std.specs.Option.{option_to_list}
use Rattle.std.specs.Vec.Iter.{into_iter_items}
use Rattle.agg_engine.proofs.lemmas.collectors.Halves.{HasCause, both-cause, both-stand, err-kept}
use Rattle.agg_engine.proofs.lemmas.collectors.Halves.{first-cause, second-cause, stands-first}
use Rattle.agg_engine.proofs.lemmas.collectors.Halves.{stands-none-taken, take-front}
use Rattle.agg_engine.proofs.collectors.merging.+merged_next.Goals as goal

pub returns-in_err-whole-in_default-clause-cause :
    goal.returns-in_err-whole-in_default-clause-cause
returns-in_err-whole-in_default-clause-cause t c =
    let items = into_iter_items c.args.fruits.now in
    let count = c.args.count in
    let half = count / 2 in
    err-kept (HasCause (take count items)) c.from_residual.result
    c.in_err-whole-in_default.field-0.0 c.from_residual.ensures.1
    (first-cause (take half items) (take (count - half) (drop half items)) (take count items)
    (take-front half count items (omega arith)) c.in_err-whole-in_default.field-0.0
    c.in_err-whole-in_default.ensures.cause)

pub returns-in_err-later-in_default-clause-cause :
    goal.returns-in_err-later-in_default-clause-cause
returns-in_err-later-in_default-clause-cause t c =
    let items = into_iter_items c.args.fruits.now in
    let left = into_iter_items c.merged_next.new.fruits in
    let count = c.args.count in
    let half = count / 2 in
    err-kept (HasCause (take count items)) c.from_residual-in_err-later-in_default.result
    c.in_err-later-in_default.field-0.0 c.from_residual-in_err-later-in_default.ensures.1
    (second-cause (take half items) (take (count - half) left) (take count items)
    (take-front half count items (omega arith)
    ∙ ap (λ fs. take half items ++ take (count - half) fs)
    (sym c.in_ok-whole-in_default.ensures.rest))
    c.in_err-later-in_default.field-0.0 c.in_err-later-in_default.ensures.cause)

pub returns-in_err-merge_fruits-in_default-clause-cause :
    goal.returns-in_err-merge_fruits-in_default-clause-cause
returns-in_err-merge_fruits-in_default-clause-cause t c =
    let items = into_iter_items c.args.fruits.now in
    let left = into_iter_items c.merged_next.new.fruits in
    let count = c.args.count in
    let half = count / 2 in
    let error = c.in_err-merge_fruits-in_default.field-0.0 in
    err-kept (HasCause (take count items)) c.from_residual-in_err-merge_fruits-in_default.result
    error c.from_residual-in_err-merge_fruits-in_default.ensures.1
    (both-cause (take half items) (take (count - half) left) (take count items)
    (take-front half count items (omega arith)
    ∙ ap (λ fs. take half items ++ take (count - half) fs)
    (sym c.in_ok-whole-in_default.ensures.rest))
    c.in_ok-whole-in_default.whole c.in_ok-later-in_default.later
    c.in_ok-whole-in_default.ensures.ok c.in_ok-later-in_default.ensures.ok error
    (λ is. c.in_err-merge_fruits-in_default.ensures.mismatch (ap Err is))
    (λ is. (c.in_err-merge_fruits-in_default.ensures.too_many (ap Err is)).1))

pub returns-in-0-clause-ok : goal.returns-in-0-clause-ok
returns-in-0-clause-ok t c =
    stands-none-taken (into_iter_items c.args.fruits.now) c.args.count c.new.result c.in-0.is
    c.new.ensures

pub returns-in-1-clause-ok : goal.returns-in-1-clause-ok
returns-in-1-clause-ok t c =
    stands-first (into_iter_items c.args.fruits.now) (into_iter_items c.next.new.self)
    c.args.count c.unwrap.result c.in-1.is
    (c.next.ensures.items
    ∙ ap (λ r. option_to_list r ++ into_iter_items c.next.new.self) c.unwrap.ensures)

pub returns-in_ok-merge_fruits-in_default-clause-ok :
    goal.returns-in_ok-merge_fruits-in_default-clause-ok
returns-in_ok-merge_fruits-in_default-clause-ok t c =
    let items = into_iter_items c.args.fruits.now in
    let left = into_iter_items c.merged_next.new.fruits in
    let count = c.args.count in
    let half = count / 2 in
    both-stand (take half items) (take (count - half) left) (take count items)
    (take-front half count items (omega arith)
    ∙ ap (λ fs. take half items ++ take (count - half) fs)
    (sym c.in_ok-whole-in_default.ensures.rest))
    c.in_ok-whole-in_default.whole c.in_ok-later-in_default.later
    c.in_ok-whole-in_default.ensures.ok c.in_ok-later-in_default.ensures.ok
    c.merge_fruits.new.self c.in_ok-merge_fruits-in_default.ensures.ok
