use Rattle.std.proofs.Common.{◌≡◌, ◌∷◌, [], List, codes, length, true≢false, refl, sym}
use Rattle.std.proofs.Common.{ap, ◌∙◌}
use Rattle.serde_json.specs.Data.{Members, object, put}
use Rattle.serde_json.specs.View.{members_view}
use Rattle.serde_json.proofs.Views.{Entry}
use Rattle.agg_request.specs.WrittenJson.{with_below}
use Rattle.agg_request.proofs.writer.put_below.Goals as goal

-- what isn't empty is added
added : (es : List Entry) (ms : Members) → (length es ≡ 0 → ⊥)
    → with_below (members_view es) ms ≡ put (codes "aggs") (object (members_view es)) ms
added [] ms some = absurd (some refl)
added (e ∷ es) ms some = refl

pub returns-in_ok-put : goal.returns-in_ok-put
returns-in_ok-put c =
    let ms = members_view c.args.members.now.entries in
    let some = λ (none : length c.args.below.entries ≡ 0).
    true≢false (sym (c.is_empty.ensures.1 none) ∙ c.if-not-is_empty.true) in
    c.in_ok-put.ensures.ok ∙ ap (λ d. put (codes "aggs") d ms) c.from.ensures
    ∙ sym (added c.args.below.entries ms some)
