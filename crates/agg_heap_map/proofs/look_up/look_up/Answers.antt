use Rattle.std.proofs.Common.{◌≡◌, [], Some, None, refl, sym, ap, ◌∙◌, subst, rules}
use Rattle.std.specs.BTreeMap.{is_at}
use Rattle.std.specs.Cmp.Lexicographic.{slice_cmp, lists_total}
use Rattle.std.specs.List.Sorted.{IsStrictlySortedBy}
use Rattle.std.specs.Map.{keys_of, lookup, set_value}
use Rattle.std.specs.Option.{MatchOption}
use Rattle.agg_heap_map.proofs.AscendingKeys.{sorted_from_ascends}
use Rattle.agg_heap_map.proofs.look_up.look_up.Goals as goal

pub returns-in-Some : goal.returns-in-Some
returns-in-Some g c =
    let R = slice_cmp g.K.Ord.cmp in
    let es = c.args.map.now in (
      (
        refl,
        λ w. c.get_mut.follows.holds w
            ∙ ap (λ q. set_value (is_at (R q)) es w) c.replace.ensures,
        c.get_mut.follows.holds-at-none,
      ),
      record {
        writes_back = tt;
        value = c.get_mut.ensures.value ∙ ap (λ q. lookup (is_at (R q)) es) c.replace.ensures;
        ordered = c.get_mut.ensures.ordered;
        asked = search rules;
        steps = c.get_mut.ensures.steps;
      },
    )

pub returns-in-None : goal.returns-in-None
returns-in-None g c =
    let R = slice_cmp g.K.Ord.cmp in
    let k = c.args.key.now in
    let known = c.requires in
    let nothing : c.args.map.now ≡ [] = rw c.in-None.is at known in (
      (refl, λ w. nothing ∙ ap (λ es. set_value (is_at (R k)) es w) (sym nothing), refl),
      record {
        writes_back = tt;
        value = ap (lookup (is_at (R k))) (sym nothing);
        ordered =
            subst (λ es. IsStrictlySortedBy R (keys_of es)) (sym nothing)
            (sorted_from_ascends {X = g.row.V.Denot} R (lists_total g.met.K.Ord.total) [] tt);
        asked =
            subst (λ o. MatchOption o (o ≡ None) (λ _. o ≡ Some k)) (sym c.in-None.is) refl;
        steps = search rules;
      },
    )
