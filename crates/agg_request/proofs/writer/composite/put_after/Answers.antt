use Rattle.std.proofs.Common.{◌≡◌, [], ◌∷◌, codes, false, length, true≢false, ap, refl, subst}
use Rattle.std.proofs.Common.{sym, ◌∙◌, ◌==◌}
use Rattle.serde_json.specs.Data.{Members, object, put}
use Rattle.serde_json.specs.View.{members_view}
use Rattle.agg_values.specs.Names.{Named}
use Rattle.agg_values.specs.declared.after_key.AfterKey.{AfterKey}
use Rattle.agg_request.specs.reading.CompositeJson.{IsKeyJson}
use Rattle.agg_request.specs.json_values.Json.{EachNamedIs}
use Rattle.agg_request.specs.WrittenJson.{data_of_key, members_of, with_after}
use Rattle.agg_request.proofs.WrittenMembers.{members-say, members-written}
use Rattle.agg_request.proofs.writer.composite.put_after.Goals as goal

-- keys that there are are added
added : (after : Named AfterKey) (ms : Members) → (length after ≡ 0 → ⊥)
    → with_after after ms ≡ put (codes "after") (object (members_of data_of_key after)) ms
added [] ms some = absurd (some refl)
added (key ∷ keys) ms some = refl

pub returns-in_ok-put : goal.returns-in_ok-put
returns-in_ok-put c =
    let after = c.args.after.now in
    let old = members_view c.args.body.now.entries in
    let members = members_view c.in_ok-write_after.field-0.entries in
    let each = c.in_ok-write_after.ensures in
    let written : members ≡ members_of data_of_key after =
    members-written data_of_key (IsKeyJson false) members after each in
    let some = λ (none : length after ≡ 0).
    true≢false (sym (c.is_empty.ensures ∙ ap (λ n. n == 0) none) ∙ c.if-not-is_empty.true) in
    record {
      written = c.in_ok-put.ensures.ok
          ∙ ap (λ d. put (codes "after") d old) (c.from.ensures ∙ ap object written)
          ∙ sym (added after old some);
      says = subst (λ ms. EachNamedIs (IsKeyJson false) ms after) written
          (members-say data_of_key (IsKeyJson false) members after each);
    }
