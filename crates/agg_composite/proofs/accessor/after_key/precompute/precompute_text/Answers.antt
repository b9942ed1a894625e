use Rattle.agg_composite.proofs.lemmas.accessor.Places.{text_place}
use Rattle.agg_composite.proofs.accessor.after_key.precompute.precompute_text.Goals as goal

pub returns : goal.returns
returns c =
    rw c.from.ensures (text_place c.args.column.now.keys c.args.text.now
    c.term_ord_or_next.result c.requires c.term_ord_or_next.ensures.ascending
    c.term_ord_or_next.ensures.hit)
