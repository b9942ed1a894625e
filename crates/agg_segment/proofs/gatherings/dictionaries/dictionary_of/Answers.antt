use Rattle.std.proofs.Common.{List, ℕ, subst, sym}
use Rattle.std.specs.List.{All}
use Rattle.std.proofs.lemmas.Result.{IfOk-weaker}
use Rattle.agg_segment.specs.storage.Dictionary.{HasOrdinal}
use Rattle.agg_segment.proofs.ListedPlaces.{listed_all}
use Rattle.agg_segment.proofs.gatherings.dictionaries.dictionary_of.Goals as goal

pub returns : goal.returns
returns c =
    let texts = c.args.texts.now in
    let found = c.in_ok-found.found.items in
    IfOk-weaker c.of.result _ _
    (λ dictionary is. subst (λ (texts' : List (List ℕ)).
    All (HasOrdinal texts texts' c.number_places.new.ordinals) c.args.numbers.now)
    (sym is)
    (listed_all (HasOrdinal texts found c.number_places.new.ordinals) (λ (n : ℕ). n)
    c.args.numbers.now c.in_ok-places.places.items c.in_ok-places.ensures.all
    (subst (All (HasOrdinal texts found c.number_places.new.ordinals)) c.deref.ensures.value
    c.in_ok-found.ensures.ordinals)))
    c.of.ensures
