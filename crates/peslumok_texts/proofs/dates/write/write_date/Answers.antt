use Rattle.std.proofs.Common.{◌≡◌, refl, string_bytes, FitsSigned, w64, Ok}
use Rattle.std.proofs.lemmas.Int.{to_z-of_z}
use Rattle.jiff_core.specs.DateTime.{civil_nanos}
use Rattle.peslumok_texts.specs.dates.Dates.{clock_text, date_of, IsDateText}
use Rattle.peslumok_texts.proofs.lemmas.dates.Printed.{appended, reads-date}
use Rattle.peslumok_texts.proofs.dates.write.write_date.Goals as goal

pub returns-clause-text : goal.returns-clause-text
returns-clause-text c =
    let fits : FitsSigned w64 c.args.nanos = c.ranges.nanos in
    let shows : civil_nanos c.in_utc.result ≡ c.args.nanos = simp to_z-of_z at c.in_utc.ensures in
    appended (IsDateText c.args.nanos) _ (string_bytes c.args.out.now) _
    (clock_text c.in_utc.result)
    c.write_clock.ensures (c.in_utc.result, shows, refl)

pub returns-clause-reads_back : goal.returns-clause-reads_back
returns-clause-reads_back c =
    let fits : FitsSigned w64 c.args.nanos = c.ranges.nanos in
    let shows : civil_nanos c.in_utc.result ≡ c.args.nanos = simp to_z-of_z at c.in_utc.ensures in
    let text = clock_text c.in_utc.result in
    appended (λ read. date_of read ≡ Ok c.args.nanos) _ (string_bytes c.args.out.now) _ text
    c.write_clock.ensures (reads-date c.args.nanos text fits (c.in_utc.result, shows, refl))
