use Rattle.std.proofs.Common.{[], append_assoc, subst, sym, ◌++◌, ◌∙◌, ◌∷◌, ℕ}
use Rattle.peslumok_front.specs.top_groups.Top.{AreTop}
use Rattle.peslumok_front.proofs.top_groups.groups.TopGroups.add_all.Goals as goal

pub loop-group-preserved : goal.loop-group-preserved
loop-group-preserved c = record {
  count = c.in_ok-add.ensures.count ∙ c.loop-group.invariant.count;
  groups = λ before are.
      let old = c.loop-group.self.groups.items in
      let so_far = before ++ c.loop-group.yielded in
      let counted = c.loop-group.invariant.count in
      subst (λ gs. AreTop c.args.self.now.count gs c.add.new.self.groups.items)
      (append_assoc before c.loop-group.yielded (c.in-Some.group ∷ []))
      (subst (λ (n : ℕ). AreTop n (so_far ++ c.in-Some.group ∷ []) c.add.new.self.groups.items)
      counted
      (c.in_ok-add.ensures.groups so_far
      (subst (λ (n : ℕ). AreTop n so_far old) (sym counted)
      (c.loop-group.invariant.groups before are))));
}
