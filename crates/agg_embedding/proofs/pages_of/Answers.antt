use Rattle.std.proofs.Common.{◌≡◌, ◌++◌, ◌∷◌, [], Some, ap, sym, ◌∙◌, subst}
use Rattle.agg_pages.specs.Answer.{IsPrintedWalk}
use Rattle.agg_pages.specs.Input.{IsInput}
use Rattle.agg_embedding.specs.NoPages.{HaveNoPages}
use Rattle.agg_embedding.proofs.NoPages.{no_pages}
use Rattle.agg_embedding.proofs.pages_of.Goals as goal

pub returns-in-Ok-clause-pages : goal.returns-in-Ok-clause-pages
returns-in-Ok-clause-pages g c =
    let answered =
    c.run_uncounted.ensures.walked (ap (λ word. word ∷ []) c.in_ok-copy_of.ensures) in
    let (i, (given, gives, reads), (text, walk, appended)) = answered.ok c.in-Ok.is in
    let told : given ≡ c.args.bytes.items =
    (gives c.args.bytes.items (ap Some c.new-source.ensures)).0 in
    let written : c.run_uncounted.new.sink.bytes ≡ text = appended
    ∙ ap (λ sink. sink.bytes ++ text) c.in_ok-sink.ensures in (
      i,
      subst (λ bytes. IsInput c.args.builders.items (λ b. b.name) bytes i) told reads,
      subst (IsPrintedWalk _ i) (sym written) walk,
    )

pub returns : goal.returns
returns g c =
    record {
      pages = tt;
      cause = subst (λ bytes. HaveNoPages c.args.builders.items (λ b. b.name)
          (λ b. (goal.QueryBuilder-dyn g (b.builder.vtable, b.builder.value)).tree_for
          b.builder.value)
          bytes c.run_uncounted.result)
          c.new-source.ensures
          (no_pages c.args.builders.items (λ b. b.name) _ _ c.new-source.result _ _
          c.run_uncounted.result
          (ap (λ word. word ∷ []) c.in_ok-copy_of.ensures) c.in_default.not-Ok
          c.run_uncounted.ensures);
    }
