use Rattle.std.proofs.Common.{◌≡◌, ◌-◌, ◌∙◌, Some, true, refl, subst, sym, rules}
use Rattle.std.specs.Prelude.{slice_set}
use Rattle.std.specs.List.{All}
use Rattle.json.specs.Json.{max_depth, read_key, skip_value}
use Rattle.peslumok_records.specs.objects.Tokens.{IsOnlyOf, IsOther, IsPlaceOf}
use Rattle.peslumok_records.proofs.lemmas.objects.TakenMembers.{HasTaken, all_members}
use Rattle.peslumok_records.proofs.lemmas.objects.TakenMembers.{no_members_yet, one_field}
use Rattle.peslumok_records.proofs.lemmas.objects.TakenMembers.{one_other}
use Rattle.peslumok_records.proofs.objects.tokens.push_members.Goals as goal

pub members-init : goal.members-init
members-init c = record {
  taken = no_members_yet c.args.asked.now c.args.reader.now _ c.args.builder.now;
  documents = refl;
}

pub returns-in_default-key-clause-taken : goal.returns-in_default-key-clause-taken
returns-in_default-key-clause-taken c = λ _.
    let l = c.members in
    all_members c.args.asked.now c.args.reader.now l.reader c.next_key.new.self l.seen
    c.args.builder.now l.builder l.invariant.taken (rw c.in_default-key.is at c.in-Ok.ensures.value)

pub members-preserved-else-not-push_value : goal.members-preserved-else-not-push_value
members-preserved-else-not-push_value c =
    let l = c.members in
    let asked = c.args.asked.now in
    let name = c.in-Some.name.now in
    let index = c.in-Field.index in
    let key : read_key l.reader ≡ Some (Some name, c.next_key.new.self) =
    rw c.in-Some.is at c.in-Ok.ensures.value in
    let only : IsOnlyOf asked name index =
    subst (IsPlaceOf asked name) c.in-Field.is c.place_of.ensures in
    let marked : c.mark.new.seen ≡ slice_set l.seen index true =
    c.mark.ensures.marked (search rules) in
    let pushed = c.push_value.ensures in
    record {
      taken = subst (λ seen. HasTaken asked c.args.reader.now c.push_value.new.reader seen
          c.args.builder.now c.push_value.new.builder) (sym marked)
          (one_field asked c.args.reader.now l.reader c.next_key.new.self c.push_value.new.reader
          l.seen name index c.index-asked-index.result c.args.builder.now l.builder
          c.push_value.new.builder l.invariant.taken key only (c.mark.ensures.new (search rules))
          c.index-asked-index.is (pushed.taken (search rules)));
      documents = pushed.documents ∙ l.invariant.documents;
    }

pub members-preserved : goal.members-preserved
members-preserved c =
    let l = c.members in
    let asked = c.args.asked.now in
    let name = c.in-Some.name.now in
    let key : read_key l.reader ≡ Some (Some name, c.next_key.new.self) =
    rw c.in-Some.is at c.in-Ok.ensures.value in
    let others : All (IsOther name) asked =
    subst (IsPlaceOf asked name) c.in-Other.is c.place_of.ensures in
    let skips : skip_value (max_depth - 1) c.next_key.new.self ≡ Some c.skip_value.new.self =
    search rules in
    record {
      taken = one_other asked c.args.reader.now l.reader c.next_key.new.self
          c.skip_value.new.self l.seen name c.args.builder.now l.builder l.invariant.taken key skips
          (search rules) others;
      documents = l.invariant.documents;
    }
