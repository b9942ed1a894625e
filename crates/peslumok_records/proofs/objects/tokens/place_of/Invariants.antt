use Rattle.peslumok_records.proofs.lemmas.objects.MemberPlaces.{IsPlaceBefore}
use Rattle.peslumok_records.proofs.objects.tokens.place_of.Given as goal

abbrev pub invariant-loop-index : goal.invariant-loop-index
invariant-loop-index l = IsPlaceBefore l.asked l.name l.index l.found
