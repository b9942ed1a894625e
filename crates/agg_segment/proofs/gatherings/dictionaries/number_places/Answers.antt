use Rattle.std.proofs.Common.{◌≡◌, ◌<◌, ◌-◌, ◌+◌, [], length, get_or, refl, subst, ◌∙◌, arith, set}
use Rattle.std.proofs.lemmas.List.{get_or_default, get_or_read}
use Rattle.agg_segment.specs.storage.Dictionary.{text_at, HasOrdinal}
use Rattle.agg_segment.proofs.Ordinals.{AreNumbered, none_numbered, next_numbered}
use Rattle.agg_segment.proofs.gatherings.dictionaries.number_places.Goals as goal

pub loop-place-init : goal.loop-place-init
loop-place-init c = rw c.in_ok-found.ensures.items
    (none_numbered c.args.texts.now c.args.places.now c.args.ordinals.now c.requires.each)

pub loop-place-preserved : goal.loop-place-preserved
loop-place-preserved c =
    let l = c.loop-place in
    let texts = c.args.texts.now in
    let places = c.args.places.now in
    let at = l.place-index in
    let place = get_or places at 0 in
    let then = c.add_text.new.found.items in
    let e = c.in_ok-add_text.ensures in
    let within : place < length texts = c.requires.within at 0 c.loop-place-test.true in
    let text : c.index-texts-place.result ≡ text_at texts place =
    get_or_read texts place c.index-texts-place.result within c.index-texts-place.is [] in
    let count : length then ≡ c.len.result = omega (arith, c.len.ensures) in
    subst (λ n. AreNumbered texts places (at + 1) (set l.ordinals place (n - 1)) then) count
    (next_numbered texts places at l.ordinals l.found.items l.invariant place e.more.0 then refl
    within e.more.1 e.ascending e.some (e.last ∙ text))

pub returns-clause-ordinals : goal.returns-clause-ordinals
returns-clause-ordinals c k d l =
    subst (HasOrdinal c.args.texts.now c.loop-place.found.items c.loop-place.ordinals)
    (get_or_default c.args.places.now k 0 d l)
    (c.loop-place.invariant.numbered k (omega (arith, l, c.loop-place-test.false)))
