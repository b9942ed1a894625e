use Rattle.std.proofs.Common.{List, length, sym, ap, ◌∙◌, subst}
use Rattle.agg_request_tree.specs.Source.{Sources}
use Rattle.agg_composite.specs.accessor.Encoding.{StandFor}
use Rattle.agg_composite.specs.declared.accessor.accessor.CompositeSourceAccessors.{
  CompositeSourceAccessors,
}
use Rattle.agg_composite.proofs.lemmas.accessor.DecodedTuples.{as_many}
use Rattle.agg_composite.proofs.accessor.decoding.decode_tuple.Goals as goal

pub decode_keys-requires : goal.decode_keys-requires
decode_keys-requires c =
    let req = c.args.req.now in
    let encoded = c.args.encoded.now in
    let many = as_many req.req.now.sources req.composite_accessors encoded c.requires.0
    c.requires.1 in
    record {
      sources = ap length c.as_slice-sources.ensures ∙ many.0;
      accessors = ap length c.as_slice.ensures ∙ many.1;
      stand = (
        c.requires.0,
        subst (λ (p : Sources × List CompositeSourceAccessors).
            StandFor p.0 p.1 encoded c.requires.0)
            (λ x. (sym c.as_slice-sources.ensures x, sym c.as_slice.ensures x)) c.requires.1,
      );
    }
