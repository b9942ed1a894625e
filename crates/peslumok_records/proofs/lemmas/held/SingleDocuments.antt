-- A document by itself, and after others.
use Rattle.std.proofs.Common.{List, [], ◌∷◌, ◌++◌, map, sym, ap, subst, ◌∙◌}
use Rattle.std.specs.Prelude.{flat_map}
use Rattle.std.specs.List.{Contains}
use Rattle.std.proofs.lemmas.Grind.{flat_map-append}
use Rattle.std.proofs.lemmas.List.{map-append}
use Rattle.std.proofs.lemmas.List.Elements.{Contains-append_right}
use Rattle.agg_segment.specs.storage.Document.{Fields}
use Rattle.agg_segment.specs.declared.storage.sign.Sign.{Sign}
use Rattle.agg_segment.specs.SegmentLimits.{HasSign, IsMixed, sign_of}
use Rattle.peslumok_records.specs.held.Documents.{FitsSegment}

sign_after : (before after : List Fields) (field : _) (sign : Sign) → HasSign after field sign
    → HasSign (before ++ after) field sign
sign_after before after field sign has =
    let of = λ (d : Fields). d field in
    subst (λ signs. Contains signs sign)
    (sym (ap (map sign_of) (flat_map-append of before after)
    ∙ map-append sign_of (flat_map of before) (flat_map of after)))
    (Contains-append_right (map sign_of (flat_map of before)) (map sign_of (flat_map of after)) sign
    has)

-- a document after others that fits with them fits by itself
pub fits_alone : (before : List Fields) (document : Fields)
    → ¬ (IsMixed (before ++ document ∷ [])) → FitsSegment document
fits_alone before document fits (field, small, large) =
    fits (
      field,
      sign_after before (document ∷ []) field _ small,
      sign_after before (document ∷ []) field _ large,
    )
