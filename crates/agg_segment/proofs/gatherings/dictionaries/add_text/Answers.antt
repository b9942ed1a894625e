use Rattle.std.proofs.Common.{◌≡◌, ◌<◌, length, sym, ◌∙◌, subst, List, ℕ}
use mathlib.Core.Bool.{true≢false}
use Rattle.agg_segment.specs.storage.Dictionary.{last_text}
use Rattle.agg_segment.proofs.Ordinals.{pushed_ascends}
use Rattle.agg_segment.proofs.gatherings.dictionaries.add_text.Goals as goal

pub returns-clause-ascending : goal.returns-clause-ascending
returns-clause-ascending c =
    let found = c.args.found.now.items in
    let text = c.args.text.now in
    let other : 0 < length found → last_text found ≡ text → ⊥ =
    λ some is. true≢false (sym ((c.is_last.ensures.last
    (subst (λ (ts : List (List ℕ)). 0 < length ts) (sym c.deref.ensures.value) some)).1
    (subst (λ (ts : List (List ℕ)). last_text ts ≡ text) (sym c.deref.ensures.value) is))
    ∙ c.if-is_last.false) in
    rw (c.in_ok-push.ensures.items, c.in_ok-try_clone.ensures)
    (pushed_ascends found text c.requires.ascending c.requires.after other)
