use Rattle.std.proofs.Common.{◌≡◌, ◌∙◌, List, false, subst, sym, true}
use Rattle.std.specs.List.{list_any}
use Rattle.std.proofs.lemmas.List.{take_all}
use Rattle.std.proofs.lemmas.List.Folds.{list_any_at}
use Rattle.agg_segment.specs.Query.{holds, is_any}
use Rattle.agg_segment.specs.Segment.{Stored, documents_of}
use Rattle.peslumok_records.specs.record_index.Index.{is_seen}
use Rattle.peslumok_records.proofs.lemmas.record_index.Seen.{any-flat_map}
use Rattle.peslumok_records.proofs.record_index.index.is_seen.Goals as goal

pub returns-then-has_values : goal.returns-then-has_values
returns-then-has_values c =
    let field = c.args.field.now in
    let test = λ (segment : Stored). is_seen (documents_of segment) field in
    sym (any-flat_map (holds is_any field) documents_of c.args.segments.now
    ∙ list_any_at test c.args.segments.now c.loop-segment.segment-index c.segment-item.result
    c.loop-segment-test.true
    (subst (λ (segment : Stored). test segment ≡ true) c.segment-item.is
    (sym c.has_values.ensures ∙ c.if-has_values.true)))

pub returns : goal.returns
returns c =
    let field = c.args.field.now in
    let test = λ (segment : Stored). is_seen (documents_of segment) field in
    sym (any-flat_map (holds is_any field) documents_of c.args.segments.now
    ∙ subst (λ (all : List Stored). list_any test all ≡ false)
    (take_all c.loop-segment.segment-index c.args.segments.now c.loop-segment-test.false)
    c.loop-segment.invariant)
