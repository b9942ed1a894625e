use Rattle.std.proofs.Common.{length, ap, sym, ◌∙◌, min}
use Rattle.agg_values.specs.Shown.{shown_key}
use Rattle.agg_request_tree.proofs.BySource.{by_source-end}
use Rattle.agg_request_tree.proofs.by_source.shown_keys.Goals as goal

pub loop-i-init : goal.loop-i-init
loop-i-init c =
    c.in_ok-keys.ensures
    ∙ sym (by_source-end shown_key c.args.sources.now c.args.tuple.now c.min-i.result
    (c.min-i.ensures ∙ ap (λ keys. min (length c.args.sources.now) (length keys))
    c.as_slice-values.ensures))
