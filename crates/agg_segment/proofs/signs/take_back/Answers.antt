use Rattle.std.proofs.Common.{◌≡◌, ◌∷◌, [], length, get_or, sym, ap, ◌∙◌, arith}
use Rattle.std.proofs.Common.{length-append}
use Rattle.std.proofs.lemmas.List.{get_or_append_left, length-set}
use Rattle.agg_segment.specs.storage.Signs.{without_signs}
use Rattle.agg_segment.specs.declared.storage.sign.Sign.TheVariants.{Small}
use Rattle.agg_segment.proofs.FieldSigns.{taken_last}
use Rattle.agg_segment.proofs.signs.take_back.Goals as goal

pub loop-field-preserved : goal.loop-field-preserved
loop-field-preserved c =
    let l = c.loop-field in
    let fields = c.pop.new.self.items in
    let items = c.in-Some.ensures.items in
    record {
      rest = taken_last fields c.in-Some.field l.signs ∙ ap (λ fs. without_signs fs l.signs)
          (sym items) ∙ l.invariant.rest;
      within = λ k d low.
          let last : get_or l.given.items k d ≡ get_or fields k d = ap (λ fs. get_or fs k d) items
          ∙ get_or_append_left fields (c.in-Some.field ∷ []) d k low in
          omega (
            arith,
            l.invariant.within k d (omega (
              arith,
              low,
              ap length items,
              length-append
                  fields (c.in-Some.field ∷ []),
            )),
            last,
            length-set l.signs c.in-Some.field Small,
          );
    }
