-- Documents that were closed after those that the records held.
use Rattle.std.proofs.Common.{◌≡◌, ℕ, List, [], ◌∷◌, ◌++◌, ap, subst, sym, ◌∙◌}
use Rattle.std.specs.Prelude.{Option, flat_map, option_map}
use Rattle.agg_segment.specs.storage.Document.{Fields, meaning}
use Rattle.agg_segment.specs.declared.storage.document.FieldValue.{FieldValue}
use Rattle.agg_segment.specs.Segment.{Gathered, documents_of, gathered_documents}
use Rattle.agg_segment.specs.SegmentLimits.{IsMixed}
use Rattle.agg_segment.specs.Segment.{no_fields, open_document}
use Rattle.peslumok_records.specs.held.Documents.{FitsSegment, IsRead}
use Rattle.peslumok_records.specs.held.Held.{Holds, held_documents}
use Rattle.peslumok_records.specs.held.Values.{Gains, with_values}
use Rattle.peslumok_records.specs.declared.held.records.Records.{Records}
use Rattle.peslumok_records.proofs.lemmas.held.Gains.{with_values-meaning}
use Rattle.peslumok_records.proofs.lemmas.held.SoleDocuments.{some_is}

-- the documents of the records, with this open segment
abbrev pub held_with : Records → Gathered → List Fields
held_with records builder =
    flat_map documents_of records.built.items ++ gathered_documents builder

-- an empty document that gained values and was closed
pub holds_closed : (values : Option (List (List ℕ × FieldValue))) (old new start : Records)
    (after : Gathered)
    → held_documents start ≡ held_documents old
    → open_document start.builder ≡ no_fields → Gains values start.builder after
    → gathered_documents after ≡ gathered_documents start.builder
    → held_documents new ≡ held_with start after ++ open_document after ∷ []
    → FitsSegment (open_document after) → Holds (option_map meaning values) old new
holds_closed values old new start after held opened gains same closed fits =
    let made : open_document after ≡ meaning gains.given =
    gains.added ∙ ap (with_values gains.given) opened ∙ with_values-meaning gains.given in
    record {
      read = meaning gains.given;
      is = record {
        is = ap (option_map meaning) gains.read;
        fits = subst FitsSegment made fits;
      };
      added = closed
          ∙ ap (λ ds. (flat_map documents_of start.built.items ++ ds)
          ++ open_document after ∷ []) same
          ∙ ap (λ ds. ds ++ open_document after ∷ []) held
          ∙ ap (λ (d : Fields). held_documents old ++ d ∷ []) made;
    }

-- what a closed document is not, where it is mixed
pub mixed_closed : (values : Option (List (List ℕ × FieldValue))) (before after : Gathered)
    → open_document before ≡ no_fields → Gains values before after
    → IsMixed (open_document after ∷ []) → (document : Fields)
    → IsRead (option_map meaning values) document → ⊥
mixed_closed values before after opened gains mixed document read =
    let made : open_document after ≡ meaning gains.given =
    gains.added ∙ ap (with_values gains.given) opened ∙ with_values-meaning gains.given in
    let same : meaning gains.given ≡ document =
    some_is (meaning gains.given) document (sym (ap (option_map meaning) gains.read) ∙ read.is) in
    read.fits (subst (λ (d : Fields). IsMixed (d ∷ [])) (made ∙ same) mixed)

-- the same after documents that stayed as they were
pub holds_later : (document : Option Fields) (old now new : Records)
    → held_documents now ≡ held_documents old → Holds document now new → Holds document old new
holds_later document old now new same holds = record {
  read = holds.read;
  is = holds.is;
  added = holds.added ∙ ap (λ ds. ds ++ holds.read ∷ []) same;
}
