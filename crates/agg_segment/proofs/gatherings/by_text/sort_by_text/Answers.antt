use Rattle.std.proofs.Common.{ℕ, map, ap, sym, subst, ◌∙◌, rules}
use Rattle.std.specs.List.Sorted.{IsPermutation}
use Rattle.std.specs.Ordering.{is_lt}
use Rattle.std.proofs.lemmas.Result.{IfOk-weaker}
use Rattle.std.proofs.lemmas.List.Sorted.{All-permutation, IsPermutation-map, ranks_by}
use Rattle.std.proofs.lemmas.Fn.{always_returns_same}
use Rattle.agg_segment.specs.storage.Dictionary.{AreByText}
use Rattle.agg_segment.specs.Fronts.{keyed_cmp, IsKeyed}
use Rattle.agg_segment.specs.declared.gatherings.by_text.KeyedPlace.{KeyedPlace}
use Rattle.agg_segment.proofs.Fronts.{keyed_total, places_ascend}
use Rattle.agg_segment.proofs.gatherings.by_text.sort_by_text.Goals as goal

pub returns-clause-permutation : goal.returns-clause-permutation
returns-clause-permutation c =
    let place : KeyedPlace → ℕ = λ k. k.place in
    let sorted = c.sort_unstable_by.new.self.items in
    IfOk-weaker c.places_in.result _ _
    (λ places is. subst (IsPermutation c.args.places.items)
    (sym (is ∙ ap (map place) c.deref.ensures.value))
    (subst (λ ps. IsPermutation ps (map place sorted)) c.in_ok-keyed.ensures.places
    (IsPermutation-map place c.in_ok-keyed.keyed.items sorted
    c.sort_unstable_by.ensures.permutation)))
    c.places_in.ensures

pub returns-clause-sorted : goal.returns-clause-sorted
returns-clause-sorted c =
    let texts = c.args.texts.now in
    let place : KeyedPlace → ℕ = λ k. k.place in
    let sorted = c.sort_unstable_by.new.self.items in
    let keyed = All-permutation (IsKeyed texts) c.in_ok-keyed.keyed.items sorted
    c.sort_unstable_by.ensures.permutation c.in_ok-keyed.ensures.keyed in
    let ascend = c.sort_unstable_by.ensures.sorted (λ a b. is_lt (keyed_cmp texts a b))
    (ranks_by (keyed_total texts) (λ (k : KeyedPlace). k))
    (always_returns_same _ _ _ (λ a r f called. search rules)) in
    IfOk-weaker c.places_in.result _ _
    (λ places is. subst (AreByText texts) (sym (is ∙ ap (map place) c.deref.ensures.value))
    (places_ascend texts sorted keyed ascend))
    c.places_in.ensures
