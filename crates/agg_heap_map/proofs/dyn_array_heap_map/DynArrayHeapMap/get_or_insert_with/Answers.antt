use Rattle.std.proofs.Common.{◌≡◌, Option, Some, None, refl, sym, ap, ◌∙◌, subst, List, ℕ, length}
use Rattle.std.specs.Prelude.{Result, Ok, Err}
use Rattle.std.specs.BTreeMap.{insert_entry, is_at}
use Rattle.std.specs.Cmp.Lexicographic.{slice_cmp, lists_total}
use Rattle.std.specs.Map.{lookup}
use Rattle.std.specs.Option.{MatchOption, UnwrapsOrElse}
use Rattle.std.specs.Result.{IfOk, OnErr}
use Rattle.agg_heap_map.specs.Insertion.{HasValueAt}
use Rattle.agg_heap_map.proofs.AscendingKeys.{Ascends, ascends_from_sorted, set-there}
use Rattle.agg_heap_map.proofs.EntryValues.{insert-twice, lookup-put}
use Rattle.agg_heap_map.proofs.dyn_array_heap_map.DynArrayHeapMap.get_or_insert_with.Goals as goal

err_so : {T E : Type 0} {P Q : Type 0} (r : Result T E) → OnErr r P → (P → Q) → OnErr r Q
err_so (Ok x) p follows = tt
err_so (Err e) p follows = follows p

ok_so : {T E : Type 0} {P Q : T → Type 0} (r : Result T E) → IfOk r P → ((x : T) → P x → Q x)
    → IfOk r Q
ok_so (Ok x) p follows = follows x p
ok_so (Err e) p follows = tt

-- the key that is asked for has the dimension
asked_now : {K : Type 0} (P Q : Type 0) (old new : Option (List K)) (k : List K) (n : ℕ)
    → old ≡ Some k → length k ≡ n → MatchOption old P (λ _. new ≡ Some k)
    → MatchOption new Q (λ last. length last ≡ n)
asked_now P Q None new k n was fits is = cc
asked_now P Q (Some y) None k n was fits is = cc
asked_now P Q (Some y) (Some x) k n was fits is = let same : x ≡ k = cc in ap length same ∙ fits

pub invariant_of-self-lent : goal.invariant_of-self-lent
invariant_of-self-lent g c =
    let k = c.args.key.now in
    let was = c.self.invariant in
    let n = c.self.inside.dimension in
    let fits : length k ≡ n = c.requires.dimension ∙ ap (λ m. m.0) (sym c.self.view_is) in
    λ r. (
      λ w. (
        was.0,
        was.1,
        asked_now _ _ c.insert_absent.new.asked c.value_at.new.asked k n
            c.in_default.ensures.asked fits c.value_at.ensures.asked,
      ),
      (
        was.0,
        was.1,
        asked_now _ _ c.insert_absent.new.asked c.value_at.new.asked k n
            c.in_default.ensures.asked fits c.value_at.ensures.asked,
      ),
    )

pub returns : goal.returns
returns g c =
    let R = slice_cmp g.K.Ord.cmp in
    let total = lists_total g.met.K.Ord.total in
    let k = c.args.key.now in
    let es = c.self.inside.map in
    let fs = c.insert_absent.new.map in
    let h : HasValueAt R (g.F.FnOnce.post c.args.make tt) es k fs = c.in_default.ensures.ok in
    let up : Ascends R total fs = ascends_from_sorted R total fs c.value_at.ensures.ordered in
    let found : lookup (is_at (R k)) fs ≡ Some h.0 = ap (lookup (is_at (R k))) h.2
    ∙ lookup-put R total es k h.0 in (
      (
        refl,
        λ w ok.
            ap (λ gs. (c.self.inside.dimension, gs))
            (c.value_at.follows.holds w ok ∙ set-there R total fs k h.0 w up found
            ∙ ap (λ gs. insert_entry R gs k w) h.2 ∙ insert-twice R total es k h.0 w)
            ∙ ap (λ m. (m.0, insert_entry R m.1 k w)) c.self.view_is,
        err_so c.value_at.result c.value_at.ensures.missing
            (λ none. absurd (let clash : None ≡ Some h.0 = sym none ∙ found in cc)),
      ),
      record {
        writes_back = tt;
        value = ok_so c.value_at.result c.value_at.ensures.value
            (λ x has. let same : h.0 ≡ x.now =
            (let both : Some h.0 ≡ Some x.now = sym found ∙ has in cc) in
            subst (λ m.
            UnwrapsOrElse (lookup (is_at (R k)) m.1) (g.F.FnOnce.post c.args.make tt) x.now)
            c.self.view_is
            (subst (UnwrapsOrElse (lookup (is_at (R k)) es) (g.F.FnOnce.post c.args.make tt)) same
            h.1));
        steps = c.value_at.ensures.steps;
      },
    )
