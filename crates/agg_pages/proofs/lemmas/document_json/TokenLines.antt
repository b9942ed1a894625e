-- A line that is read from its tokens, or in another way after these gave no document.
use Rattle.std.proofs.Common.{◌≡◌, ◌++◌, ◌∷◌, [], List, ℕ, Bool, Result, Ok, Err, IfOk, IsTrue}
use Rattle.std.proofs.Common.{subst, ap, ◌∙◌}
use Rattle.json.specs.Lex.{tokens}
use Rattle.json.specs.Token.{Token}
use Rattle.agg_segment.specs.Segment.{Gathered, gathered_documents, open_document}
use Rattle.agg_pages.specs.document_json.AddedDocument.{HasNoDocument, HoldsLine, IsRefused}
use Rattle.agg_pages.specs.document_json.DocumentLine.{IsDocumentLine}

module _ (line : List ℕ) (old now : Gathered)
    (kept : gathered_documents now ≡ gathered_documents old) where
  pub held_from : (new : Gathered) → HoldsLine line now new → HoldsLine line old new
  held_from new held = record {
    document = held.document;
    stands = held.stands;
    taken = subst (λ documents. ¬ IsRefused documents held.document) kept held.taken;
    added = held.added ∙ ap (λ documents. documents ++ held.document ∷ []) kept;
  }

  pub none_from : HasNoDocument line now → HasNoDocument line old
  none_from none = λ document stands.
      subst (λ documents. IsRefused documents document) kept (none document stands)

-- where a reader's tokens are those of a line, what it took is the document of that line
pub line_taken : {E : Type 0} (answer : Result Bool E) (now : List Token) (line : List ℕ)
    (builder : Gathered) → now ≡ tokens line
    → IfOk answer (λ taken. IsTrue taken → (read : List ℕ) → now ≡ tokens read
    → IsDocumentLine read (open_document builder))
    → IfOk answer (λ taken. IsTrue taken → IsDocumentLine line (open_document builder))
line_taken (Ok b) now line builder is all = λ taken. all taken line is
line_taken (Err e) now line builder is all = tt
