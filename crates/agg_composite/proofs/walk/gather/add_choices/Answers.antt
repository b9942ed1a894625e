use Rattle.std.proofs.Common.{◌≡◌, ◌∙◌, length, sym}
use Rattle.agg_request_tree.specs.Source.{missing_bucket_of}
use Rattle.agg_composite.specs.accessor.Accessors.{keys_read}
use Rattle.agg_composite.proofs.NullChoices.{nothing-chosen, null-chosen, values-chosen}
use Rattle.agg_composite.proofs.walk.gather.add_choices.Goals as goal

pub returns-then-len-before : goal.returns-then-len-before
returns-then-len-before c =
    let source = c.args.source.now in
    let a = c.args.accessors.now in
    values-chosen source a c.args.doc (missing_bucket_of source) c.args.choices.now.items
    c.add_values.new.choices.items (keys_read source a.accessors c.args.doc)
    c.in_ok-add_values.ensures
    (λ same. c.if-len-before.true (c.len.ensures ∙ c.add_values.new.choices.ok.0 ∙ same
    ∙ sym c.args.choices.now.ok.0 ∙ sym c.len-before.ensures))

pub returns-then-not-missing_bucket : goal.returns-then-not-missing_bucket
returns-then-not-missing_bucket c =
    let source = c.args.source.now in
    let a = c.args.accessors.now in
    let same : length c.add_values.new.choices.items ≡ length c.args.choices.now.items =
    sym (c.len.ensures ∙ c.add_values.new.choices.ok.0) ∙ c.if-len-before.false
    ∙ c.len-before.ensures ∙ c.args.choices.now.ok.0 in
    nothing-chosen source a c.args.doc (missing_bucket_of source) c.args.choices.now.items
    c.add_values.new.choices.items (keys_read source a.accessors c.args.doc)
    c.in_ok-add_values.ensures same
    (sym c.missing_bucket.ensures ∙ c.if-not-missing_bucket.true)

pub returns : goal.returns
returns c =
    let source = c.args.source.now in
    let a = c.args.accessors.now in
    let same : length c.add_values.new.choices.items ≡ length c.args.choices.now.items =
    sym (c.len.ensures ∙ c.add_values.new.choices.ok.0) ∙ c.if-len-before.false
    ∙ c.len-before.ensures ∙ c.args.choices.now.ok.0 in
    null-chosen source a c.args.doc (missing_bucket_of source) c.args.choices.now.items
    c.add_values.new.choices.items (keys_read source a.accessors c.args.doc) c.missing_choice.result
    c.push.new.self.items c.in_ok-add_values.ensures same
    (sym c.missing_bucket.ensures ∙ c.if-not-missing_bucket.false) c.missing_choice.ensures
    c.in_ok-push.ensures.items
