-- Documents that were appended one after the other.
use Rattle.std.proofs.Common.{◌≡◌, List, [], ◌∷◌, ◌++◌, map, sym, ap, ◌∙◌, append-nil}
use Rattle.std.proofs.Common.{append_assoc, subst}
use Rattle.std.specs.List.{AllZip}
use Rattle.std.specs.Prelude.{Option}
use Rattle.std.proofs.lemmas.List.{map-append}
use Rattle.agg_segment.specs.storage.Document.{Fields}
use Rattle.peslumok_records.specs.held.Documents.{AreRead, IsRead}
use Rattle.peslumok_records.specs.held.Held.{Adds, Holds, held_documents}
use Rattle.peslumok_records.specs.declared.held.records.Records.{Records}

pub zip_more : {X Y : Type 0} (P : X → Y → Type 0) (xs : List X) (ys : List Y) (x : X) (y : Y)
    → AllZip P xs ys → P x y → AllZip P (xs ++ x ∷ []) (ys ++ y ∷ [])
zip_more P [] [] x y all here = (here, tt)
zip_more P [] (b ∷ ys) x y all here = absurd all
zip_more P (a ∷ xs) [] x y all here = absurd all
zip_more P (a ∷ xs) (b ∷ ys) x y all here = (all.0, zip_more P xs ys x y all.1 here)

pub adds_none : (records : Records) → Adds (AreRead []) records records
adds_none records = ([], tt, sym (append-nil (held_documents records)))

-- one document more
pub adds_one : {A : Type 0} (of : A → Option Fields) (xs : List A) (x : A)
    (old now new : Records) → Adds (AreRead (map of xs)) old now → Holds (of x) now new
    → Adds (AreRead (map of (xs ++ x ∷ []))) old new
adds_one of xs x old now new (documents, read, added) next = (
  documents ++ next.read ∷ [],
  subst (λ os. AreRead os (documents ++ next.read ∷ [])) (sym (map-append of xs (x ∷ [])))
      (zip_more IsRead (map of xs) documents (of x) next.read read next.is),
  next.added ∙ ap (λ ds. ds ++ next.read ∷ []) added
      ∙ append_assoc (held_documents old) documents (next.read ∷ []),
)

-- the same after documents that stayed as they were
pub adds_later : {Are : List Fields → Type 0} (old now new : Records)
    → held_documents now ≡ held_documents old → Adds Are now new → Adds Are old new
adds_later old now new same (documents, are, added) =
    (documents, are, added ∙ ap (λ ds. ds ++ documents) same)
