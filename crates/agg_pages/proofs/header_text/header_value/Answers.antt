use Rattle.std.proofs.Common.{◌∙◌, ap}
use Rattle.serde_json.specs.Data.{string}
use Rattle.serde_json.specs.Find.{as_str}
use Rattle.serde_json.specs.View.{members_view, view}
use Rattle.agg_request_tree.specs.Request.{builders_of}
use Rattle.agg_pages.proofs.lemmas.header_text.HeaderMembers.{plain-header, query-header}
use Rattle.agg_pages.proofs.lemmas.header_text.HeaderMembers.{reads-itself}
use Rattle.agg_pages.proofs.header_text.header_value.Goals as goal

pub returns-in-All : goal.returns-in-All
returns-in-All g c =
    let request = c.args.request.now in
    let asked = view c.in_ok-asked.asked in
    plain-header (λ b. b.name) (builders_of request) request c.args.name.now c.args.schema.now
    asked (view c.in_ok-named.named) (view c.in_ok-fields.fields)
    (reads-itself (λ b. b.name) asked request c.in_ok-asked.ensures.back)
    (ap as_str c.in_ok-named.ensures ∙ ap (λ s. as_str (string s)) c.as_str.ensures)
    c.in_ok-fields.ensures (view c.from.result) (members_view c.in_ok-members.members.entries)
    c.args.query c.from.ensures c.in_ok-members.ensures c.in-All.is

pub returns-in_ok-whole-in_default : goal.returns-in_ok-whole-in_default
returns-in_ok-whole-in_default g c =
    let request = c.args.request.now in
    let asked = view c.in_ok-asked.asked in
    query-header (λ b. b.name) (builders_of request) request c.args.name.now c.args.schema.now
    asked (view c.in_ok-named.named) (view c.in_ok-fields.fields)
    (reads-itself (λ b. b.name) asked request c.in_ok-asked.ensures.back)
    (ap as_str c.in_ok-named.ensures ∙ ap (λ s. as_str (string s)) c.as_str.ensures)
    c.in_ok-fields.ensures (view c.from-in_default.result)
    (members_view c.in_ok-members.members.entries)
    (members_view c.in_ok-whole-in_default.whole.entries) c.args.query c.from-in_default.ensures
    c.in_ok-whole-in_default.ensures c.in_ok-members.ensures
