use Rattle.std.proofs.Common.{◌≡◌, ℕ, List, length, Option, Some, None, refl, sym, ap, ◌∙◌}
use Rattle.std.specs.BTreeMap.{is_at}
use Rattle.std.specs.Cmp.Lexicographic.{slice_cmp}
use Rattle.std.specs.Map.{lookup, set_value}
use Rattle.std.specs.Option.{MatchOption}
use Rattle.agg_heap_map.proofs.dyn_array_heap_map.DynArrayHeapMap.get_mut.Goals as goal

-- the key that is asked for is there as before, and has the same dimension
asked_still : {K : Type 0} {P Q : Type 0} (old new : Option (List K)) (k : List K) (n : ℕ)
    → MatchOption old (new ≡ None) (λ _. new ≡ Some k) → length k ≡ n → (P → Q)
    → MatchOption old P (λ last. length last ≡ n) → MatchOption new Q (λ last. length last ≡ n)
asked_still None None k n is fits follows was = follows was
asked_still None (Some x) k n is fits follows was = cc
asked_still (Some y) None k n is fits follows was = cc
asked_still (Some y) (Some x) k n is fits follows was =
    let same : x ≡ k = cc in ap length same ∙ fits

pub invariant_of-self-lent : goal.invariant_of-self-lent
invariant_of-self-lent g c =
    let R = slice_cmp g.K.Ord.cmp in
    let k = c.args.key.now in
    let was = c.self.invariant in
    let n = c.self.inside.dimension in
    let fits : length k ≡ n = c.requires ∙ ap (λ m. m.0) (sym c.self.view_is) in
    let old = c.self.inside.asked in
    let new = c.look_up.new.asked in
    let asked = c.look_up.ensures.asked in
    λ r. (
      λ w. (
        was.0,
        was.1,
        asked_still old new k n asked fits
            (λ none. c.look_up.follows.holds w ∙ ap (λ es. set_value (is_at (R k)) es w) none)
            was.2,
      ),
      (
        was.0,
        was.1,
        asked_still old new k n asked fits (λ none. c.look_up.follows.holds-at-none ∙ none) was.2,
      ),
    )

pub returns : goal.returns
returns g c =
    let R = slice_cmp g.K.Ord.cmp in
    let k = c.args.key.now in (
      (
        refl,
        λ w. ap (λ es. (c.self.inside.dimension, es)) (c.look_up.follows.holds w)
            ∙ ap (λ m. (m.0, set_value (is_at (R k)) m.1 w)) c.self.view_is,
        ap (λ es. (c.self.inside.dimension, es)) c.look_up.follows.holds-at-none ∙ c.self.view_is,
      ),
      record {
        writes_back = tt;
        value = c.look_up.ensures.value ∙ ap (λ m. lookup (is_at (R k)) m.1) c.self.view_is;
        steps = c.look_up.ensures.steps;
      },
    )
