use Rattle.std.proofs.Common.{◌-◌, ◌∙◌, sym, arith}
use Rattle.agg_composite.proofs.SourceChoices.{gathered-more}
use Rattle.agg_composite.proofs.walk.gather.Gathered.gather.Goals as goal

pub loop-index-preserved : goal.loop-index-preserved
loop-index-preserved c =
    let sources = c.args.sources.now in
    let accessors = c.args.accessors.now in
    let i = c.loop-index.index in
    let source = c.index-sources-index.result in
    let a = c.index-accessors-index.result in
    let before = c.loop-index.self.choices in
    let now = c.add_choices.new.choices in
    let first = c.len-before.ensures ∙ before.ok.0 in
    let second = c.len.ensures ∙ now.ok.0 in
    let l = c.loop-index-test.true in
    gathered-more sources accessors c.args.doc i c.loop-index.self.sizes.items before.items
    now.items source a (c.len.result - c.len-before.result) c.push.new.self.items l
    (omega (arith, l, c.requires))
    (sym c.index-sources-index.is)
    (sym c.index-accessors-index.is)
    c.loop-index.invariant c.in_ok-add_choices.ensures (λ j. second j - first j)
    c.in_ok-push.ensures.items
