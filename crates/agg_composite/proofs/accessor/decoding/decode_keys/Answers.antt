use Rattle.std.proofs.Common.{◌++◌, ◌∷◌, [], get_or, sym, ◌∙◌, subst}
use Rattle.agg_composite.specs.accessor.Decoded.{decoded_key}
use Rattle.agg_composite.specs.accessor.Encoding.{StandsFor}
use Rattle.agg_composite.proofs.lemmas.accessor.DecodedTuples.{decoded-more, decoded-none}
use Rattle.agg_composite.proofs.lemmas.accessor.DecodedTuples.{stands-at}
use Rattle.agg_composite.proofs.lemmas.accessor.EncodedOrder.{nothing}
use Rattle.agg_composite.proofs.accessor.decoding.decode_keys.Goals as goal

pub loop-i-init : goal.loop-i-init
loop-i-init c =
    c.in_ok-tuple.ensures ∙ sym (decoded-none c.args.sources.now c.args.accessors.now)

pub decode_key-requires : goal.decode_key-requires
decode_key-requires c =
    let sources = c.args.sources.now in
    let i = c.loop-i.i in
    let source = c.index-sources-i.result in
    let key = get_or c.args.encoded.now i nothing in
    let h = stands-at sources c.args.accessors.now c.args.encoded.now c.requires.stand.0
    c.requires.stand.1 i source c.index-accessors-i.result nothing c.loop-i-test.true in (
      h.0,
      subst (λ s. StandsFor s c.as_slice-of_source.result.now key h.0) (sym c.index-sources-i.is)
          (subst (λ xs. StandsFor (get_or sources i source) xs key h.0)
          (sym c.as_slice-of_source.ensures) h.1),
    )

pub loop-i-preserved : goal.loop-i-preserved
loop-i-preserved c =
    let i = c.loop-i.i in
    let key = get_or c.args.encoded.now i nothing in
    let decoded_is = c.in_ok-decode_key.ensures
    ∙ (λ x. decoded_key (c.index-sources-i.is x) (c.as_slice-of_source.ensures x) key) in
    c.in_ok-push.ensures.ok
    ∙ (λ x. c.loop-i.invariant x ++ decoded_is x ∷ [])
    ∙ sym (decoded-more c.args.sources.now c.args.accessors.now c.args.encoded.now i
    c.index-sources-i.result c.index-accessors-i.result nothing c.loop-i-test.true
    c.requires.sources c.requires.accessors)
