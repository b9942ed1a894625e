use Rattle.std.proofs.Common.{ap, arith, length, subst, sym, ◌∙◌, ◌≤◌}
use Rattle.std.specs.Prelude.{insert}
use Rattle.std.specs.List.Sorted.{IsSortedBy}
use Rattle.peslumok_front.specs.top_groups.Top.{has_more}
use Rattle.peslumok_front.proofs.lemmas.top_groups.TopPlaces.{left-out, pushed-out, put-in, rank}
use Rattle.peslumok_front.proofs.lemmas.top_groups.TopPlaces.{top-more, top-sorted}
use Rattle.peslumok_front.proofs.top_groups.groups.TopGroups.add.Goals as goal
use Rattle.peslumok_front.proofs.top_groups.groups.TopGroups.add.Goals.{then-len-self}
use Rattle.peslumok_front.proofs.top_groups.groups.TopGroups.add.Goals.{else-len-self}

pub returns-then-place-self-clause-groups : goal.returns-then-place-self-clause-groups
returns-then-place-self-clause-groups c = λ before are.
    let count = c.args.self.now.count in
    let groups = c.args.self.now.groups.items in
    let sorted = subst (IsSortedBy has_more) (sym c.deref.ensures.value)
    (top-sorted count before groups are) in
    top-more count before c.args.group groups groups are
    (left-out count c.args.group groups c.rank_of-place.result (omega arith)
    (c.rank_of-place.ensures.place sorted ∙ ap (rank c.args.group) c.deref.ensures.value)
    (subst (λ gs. c.rank_of-place.result ≤ length gs) c.deref.ensures.value
    c.rank_of-place.ensures.within) (omega arith))

pub returns-clause-groups : goal.returns-clause-groups
returns-clause-groups c = λ before are.
    let count = c.args.self.now.count in
    let groups = c.args.self.now.groups.items in
    let sorted = subst (IsSortedBy has_more) (sym c.deref.ensures.value)
    (top-sorted count before groups are) in
    let place = c.rank_of-place.ensures.place sorted
    ∙ ap (rank c.args.group) c.deref.ensures.value in
    top-more count before c.args.group groups c.insert.new.self.items are
    (elim c.if-len-self.branch [
      | then-len-self w ↦
          pushed-out count c.args.group groups c.insert.new.self.items c.rank_of-place.result
          (omega arith) place (omega arith)
          (c.in_ok-insert.ensures.items
          ∙ ap (λ gs. insert gs c.rank_of-place.result c.args.group)
          (ap (λ s. s.1.1.0.items) w.self-is ∙ w.truncate.ensures.items))
      | else-len-self w ↦
          put-in count c.args.group groups c.insert.new.self.items c.rank_of-place.result
          (omega arith) place
          (subst (λ gs. c.rank_of-place.result ≤ length gs) c.deref.ensures.value
          c.rank_of-place.ensures.within)
          (c.in_ok-insert.ensures.items
          ∙ ap (λ gs. insert gs c.rank_of-place.result c.args.group)
          (ap (λ s. s.1.1.0.items) w.self-is))
    ])
