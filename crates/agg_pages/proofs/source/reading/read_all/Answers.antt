use Rattle.std.proofs.Common.{◌≡◌, ◌≤◌, ◌+◌, arith, refl, length, take, drop, ℕ, List, ◌++◌}
use Rattle.std.proofs.Common.{Option, None, Some, sym, ap, ◌∙◌, length-append}
use Rattle.std.proofs.lemmas.List.{length-take}
use Rattle.std.proofs.Math.Seq.{drop-append_seam}
use Rattle.std.specs.Io.KnownBytes.{Consumes}
use Rattle.std.proofs.KnownBytes.{Consumes-trans}
use Rattle.agg_pages.specs.Reading.{TakesAtMost}
use Rattle.agg_pages.proofs.source.reading.read_all.Given as given
use Rattle.agg_pages.proofs.source.reading.read_all.Goals as goal
use Rattle.agg_pages.proofs.source.reading.read_all.Goals.{In_ok-count}

-- of known bytes, those that are gone stood there, and the others are left
left-Consumes : (old new : Option (List ℕ)) (gone all : List ℕ) → Consumes old new gone
    → old ≡ Some all
    → (length gone ≤ length all) × (new ≡ Some (drop (length gone) all))
left-Consumes None new gone all consumed known = absurd (cc)
left-Consumes (Some xs) None gone all consumed known = absurd consumed
left-Consumes (Some xs) (Some ys) gone all consumed known =
    let split : all ≡ gone ++ ys = cc in (
      omega (arith, ap length split, length-append gone ys),
      ap Some (sym (drop-append_seam gone ys) ∙ ap (drop (length gone)) (sym split)),
    )

-- of known bytes, those that are gone in two parts, n in all, stood there, and the others are left
left-both : (old mid new : Option (List ℕ)) (kept given all : List ℕ) (n : ℕ)
    → Consumes old mid kept → Consumes mid new given → length kept + length given ≡ n
    → old ≡ Some all
    → (n ≤ length all) × (new ≡ Some (drop n all))
left-both old mid new kept given all n first second size known =
    let left = left-Consumes old new (kept ++ given) all
    (Consumes-trans old mid new kept given first second) known in
    let whole : length (kept ++ given) ≡ n = length-append kept given ∙ size in
    (omega (arith, left.0, whole), left.1 ∙ ap (λ k. Some (drop k all)) whole)

-- a read gives as many bytes as it counts, and with those kept they pass the limit by one at most
bounded : (g : given.Over) (c : In_ok-count g)
    → (length (take c.in_ok-count.count c.read.new.buf) ≡ c.in_ok-count.count)
    × (length c.loop-bytes.bytes.items + c.in_ok-count.count ≤ 67108865)
bounded g c =
    let read = c.in_ok-count.ensures in
    let asked = length-take c.min-asked.result c.loop-bytes.chunk in (
      omega (arith, read.bound.0, read.bound.1, c.read.auto.buf, asked),
      omega (arith, c.loop-bytes.bytes.ok.0, read.bound.0, read.bound.1, c.read.auto.buf, asked),
    )

-- so many bytes are gone
taken : (g : given.Over) (c : In_ok-count g)
    → TakesAtMost 67108865 (g.R.Source.left c.args.source.now) (g.R.Source.left c.read.new.self)
taken g c = λ all known.
    let kept = c.loop-bytes.bytes.items in
    let given = take c.in_ok-count.count c.read.new.buf in
    let size = bounded g c in (
      length kept + length given,
      omega (arith, size.0, size.1),
      (left-both _ _ _ kept given all _ c.loop-bytes.invariant.gone c.in_ok-count.ensures.bytes.0
          refl known).1,
    )

pub returns-then-count-room-clause-too_long : goal.returns-then-count-room-clause-too_long
returns-then-count-room-clause-too_long g c = λ _ all known.
    let size = bounded g (goal.at.returns-then-count-room-clause-too_long g c).In_ok-count in
    let left = left-both _ _ _ c.loop-bytes.bytes.items
    (take c.in_ok-count.count c.read.new.buf) all 67108865 c.loop-bytes.invariant.gone
    c.in_ok-count.ensures.bytes.0 (omega (arith, size.0, size.1)) known in
    (omega (arith, left.0), left.1)

pub returns-then-count-room-clause-taken : goal.returns-then-count-room-clause-taken
returns-then-count-room-clause-taken g c =
    taken g (goal.at.returns-then-count-room-clause-taken g c).In_ok-count

pub returns-in_err-extend_from_slice-clause-taken
    : goal.returns-in_err-extend_from_slice-clause-taken
returns-in_err-extend_from_slice-clause-taken g c =
    taken g (goal.at.returns-in_err-extend_from_slice-clause-taken g c).In_ok-count
