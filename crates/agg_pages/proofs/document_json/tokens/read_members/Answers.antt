use Rattle.std.proofs.Common.{◌≡◌, ◌++◌, ◌∷◌, [], Some, refl, ◌∙◌, rules}
use Rattle.json.specs.Json.{read_key}
use Rattle.agg_pages.proofs.lemmas.document_json.TokenMembers.{all_members, no_members_yet}
use Rattle.agg_pages.proofs.lemmas.document_json.TokenMembers.{one_member}
use Rattle.agg_pages.proofs.document_json.tokens.read_members.Goals as goal

pub members-init : goal.members-init
members-init g c = (
  no_members_yet (g.R.TokenReader.tokens c.args.reader.now) c.clear.new.self.items
      c.args.builder.now c.requires,
  refl,
)

pub returns-in_default-found-clause-taken : goal.returns-in_default-found-clause-taken
returns-in_default-found-clause-taken g c = λ taken.
    let l = c.members in
    let tokens = g.R.TokenReader.tokens in
    all_members (tokens c.args.reader.now) (tokens l.reader) (tokens c.next_name.new.self)
    l.fields.items l.builder l.invariant.0 (rw c.in_default-found.is at c.in-Ok.ensures)

pub members-preserved : goal.members-preserved
members-preserved g c =
    let l = c.members in
    let tokens = g.R.TokenReader.tokens in
    let key : read_key (tokens l.reader)
    ≡ Some (Some c.in-Some.name.now, tokens c.next_name.new.self) =
    rw c.in-Some.is at c.in-Ok.ensures in
    let more : c.push.new.self.items ≡ l.fields.items ++ c.in_ok-field.field ∷ [] =
    search rules in (
      rw more (one_member (tokens c.args.reader.now) (tokens l.reader)
          (tokens c.next_name.new.self) (tokens c.read_values.new.reader)
          l.fields.items c.in-Some.name.now c.in_ok-field.field l.builder c.field.new.self
          c.read_values.new.builder l.invariant.0 key c.in_ok-field.ensures.number
          c.in_ok-field.ensures.others c.in_ok-field.ensures.opened
          (c.in_ok-read_values.ensures.taken (search rules))),
      c.in_ok-read_values.ensures.documents ∙ c.in_ok-field.ensures.documents ∙ l.invariant.1,
    )
