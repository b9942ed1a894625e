use Rattle.std.proofs.Common.{◌≡◌, ◌∙◌, ap, length, Some, rules}
use Rattle.std.specs.BTreeMap.{is_at}
use Rattle.std.specs.Map.{lookup}
use Rattle.std.proofs.lemmas.Map.{length-set_value}
use Rattle.std.proofs.lemmas.Map.Steps.{set_value_same}
use Rattle.agg_composite.specs.declared.buckets.bucket.Bucket.{Bucket}
use Rattle.agg_composite.proofs.lemmas.buckets.HeldPages.{after-error}
use Rattle.agg_composite.proofs.buckets.page.count_more.Goals as goal

pub returns-in_err-bucket-clause-as_many : goal.returns-in_err-bucket-clause-as_many
returns-in_err-bucket-clause-as_many g c =
    let bucket = c.in-Some.bucket.now in
    ap length (c.get_mut.follows.holds bucket)
    ∙ length-set_value (is_at (g.S.Ord.cmp c.args.tuple.now)) c.args.page.now bucket

pub returns-clause-as_many : goal.returns-clause-as_many
returns-clause-as_many g c =
    let bucket : Bucket = record { count = c.in_ok-bucket.field-0; id = c.in-Some.bucket.now.id } in
    ap length (c.get_mut.follows.holds bucket)
    ∙ length-set_value (is_at (g.S.Ord.cmp c.args.tuple.now)) c.args.page.now bucket

pub returns-in_err-bucket-clause-err : goal.returns-in_err-bucket-clause-err
returns-in_err-bucket-clause-err g c =
    let bucket = c.in-Some.bucket.now in
    let page = c.args.page.now in
    let here = is_at (g.S.Ord.cmp c.args.tuple.now) in
    let was : lookup here page ≡ Some bucket = search rules in
    after-error c.from_residual.result _
    (c.get_mut.follows.holds bucket ∙ set_value_same here page bucket was)
