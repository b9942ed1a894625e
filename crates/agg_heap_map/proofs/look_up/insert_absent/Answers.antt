use Rattle.std.proofs.Common.{◌≡◌, Option, Some, None, true, refl, sym, ap, ◌∙◌, rules}
use Rattle.std.specs.BTreeMap.{is_at}
use Rattle.std.specs.Cmp.Lexicographic.{slice_cmp, lists_total}
use Rattle.std.specs.Map.{lookup}
use Rattle.std.specs.Option.{UnwrapsOrElse, is_some}
use Rattle.std.proofs.lemmas.Bool.{false≢true}
use Rattle.std.proofs.lemmas.Map.Steps.{set_value_same}
use Rattle.agg_heap_map.proofs.AscendingKeys.{Ascends, ascends_from_sorted, set-there}
use Rattle.agg_heap_map.proofs.look_up.insert_absent.Goals as goal

there : {X : Type 0} (o : Option X) → is_some o ≡ true → (v : X) × (o ≡ Some v)
there None h = absurd (false≢true h)
there (Some v) h = (v, refl)

unwraps : {X : Type 0} (P : X → Type 0) (o : Option X) (v : X) → o ≡ Some v → UnwrapsOrElse o P v
unwraps P None v is = cc
unwraps P (Some x) v is = let same : v ≡ x = cc in same

pub returns-then-holds-clause-ok : goal.returns-then-holds-clause-ok
returns-then-holds-clause-ok g c =
    let R = slice_cmp g.K.Ord.cmp in
    let total = lists_total g.met.K.Ord.total in
    let es = c.args.map.now in
    let k = c.args.key.now in
    let own : c.in-Some.own ≡ k = search rules in
    let found : is_some (lookup (is_at (R k)) es) ≡ true =
    ap (λ q. is_some (lookup (is_at (R q)) es)) (sym own) ∙ sym c.holds.ensures.found
    ∙ c.if-holds.true in
    let t = there (lookup (is_at (R k)) es) found in
    let up : Ascends R total es = ascends_from_sorted R total es c.holds.ensures.ordered in (
      t.0,
      unwraps _ (lookup (is_at (R k)) es) t.0 t.1,
      sym
          (sym (set-there R total es k t.0 t.0 up t.1) ∙ set_value_same (is_at (R k)) es t.0 t.1),
    )
