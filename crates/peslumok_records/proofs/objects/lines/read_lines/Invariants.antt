use Rattle.std.proofs.Common.{◌≡◌, ◌-◌, ◌^◌, length, map, min}
use Rattle.peslumok_records.specs.held.Held.{Adds}
use Rattle.peslumok_records.specs.objects.Lines.{AreLineDocuments, without_blank}
use Rattle.peslumok_records.proofs.objects.lines.read_lines.Given as goal

abbrev pub invariant-loop-line : goal.invariant-loop-line
invariant-loop-line l = record {
  counted : l.number ≡ min (length l.yielded) (2 ^ 64 - 1);
  added : Adds (AreLineDocuments l.asked (without_blank (map (λ line. line.now) l.yielded)))
      l.initial.into l.into;
}
