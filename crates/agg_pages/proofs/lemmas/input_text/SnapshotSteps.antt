-- Snapshots in the making, line by line.
use Rattle.std.proofs.Common.{◌≡◌, ◌≢◌, ℕ, List, [], ◌∷◌, ◌++◌, Bool, true, false, Some, None}
use Rattle.std.proofs.Common.{Option, cond, refl, sym, ap, ◌∙◌, subst, append_assoc, arith}
use Rattle.std.proofs.Common.{inl, inr, length}
use Rattle.std.proofs.lemmas.List.{length-append}
use Rattle.std.specs.List.{AllZip}
use Rattle.json.specs.Json.{value}
use Rattle.json.specs.Lex.{lex, punctuate}
use Rattle.json.specs.Word.{after_number, word}
use Rattle.serde_json.specs.Read.{read}
use Rattle.agg_segment.specs.storage.Document.{Fields}
use Rattle.agg_segment.specs.Segment.{Gathered, gathered_documents}
use Rattle.agg_segment.specs.Snapshot.{snapshots_documents}
use Rattle.agg_segment.specs.SnapshotDocuments.{SnapshotDocuments}
use Rattle.agg_pages.specs.declared.input_text.snapshots.OpenSnapshot.{OpenSnapshot}
use Rattle.agg_pages.specs.declared.input_text.snapshots.SnapshotsBuilder.{SnapshotsBuilder}
use Rattle.agg_pages.specs.declared.document_json.tokens.LineRoom.{LineRoom}
use Rattle.agg_pages.specs.document_json.DocumentLine.{IsDocumentLine}
use Rattle.agg_values.specs.Nothing.{NoneIs}
use Rattle.agg_pages.specs.input_text.SnapshotLines.{AreSnapshots, FitSegment, Line, Says}
use Rattle.agg_pages.specs.input_text.SnapshotLines.{StandForSnapshots, begins, begun_size, holds}
use Rattle.agg_pages.specs.input_text.SnapshotLines.{is_snapshot_line, opens, segment_line}
use Rattle.agg_pages.specs.input_text.Snapshots.{AreFit, CannotFollow}
use Rattle.agg_pages.specs.document_json.AddedDocument.{HasNoDocument, HoldsLine, IsRefused}
use Rattle.agg_pages.specs.input_text.Snapshots.{Open, TakesLine, begun, made_by, open_of}
use Rattle.agg_pages.specs.input_text.Snapshots.{snapshots_made, with_line, with_segment}
use Rattle.agg_pages.proofs.lemmas.document_json.Beside.{AllZip-append, AllZip-parts, AllZip-unique}
use Rattle.agg_pages.proofs.lemmas.document_json.Documents.{IsDocumentLine-unique, none_is_some}
use Rattle.agg_pages.proofs.lemmas.document_json.Documents.{same_value}
use Rattle.agg_pages.proofs.lemmas.input_text.SnapshotLists.{AreFit-before, AreFit-begins}
use Rattle.agg_pages.proofs.lemmas.input_text.SnapshotLists.{AreFit-first, AreFit-made}
use Rattle.agg_pages.proofs.lemmas.input_text.SnapshotLists.{AreFit-opens, StandForSnapshots-made}
use Rattle.agg_pages.proofs.lemmas.input_text.SnapshotLists.{StandForSnapshots-none, begun-made}
use Rattle.agg_pages.proofs.lemmas.input_text.SnapshotLists.{first, with_lines, with_lines-append}

-- ---- what a line says

segment_is_no_value : read segment_line ≡ None
unfolding value lex punctuate word after_number
segment_is_no_value = refl

segment_begins_none : begun_size segment_line ≡ None
segment_begins_none = refl

opens_no_document : (line : List ℕ) (d : Fields) → line ≡ segment_line → ¬ IsDocumentLine line d
opens_no_document line d is (found, reads, stands) =
    none_is_some found (sym segment_is_no_value ∙ ap read (sym is) ∙ reads)

opens_no_snapshot : (line : List ℕ) (n : ℕ) → line ≡ segment_line
    → ¬ (begun_size line ≡ Some n)
opens_no_snapshot line n is begins_there =
    none_is_some n (sym segment_begins_none ∙ ap begun_size (sym is) ∙ begins_there)

not_both : (b : Bool) (o : Option ℕ) (n : ℕ) → cond b o None ≡ Some n → b ≡ false → ⊥
not_both true o n h k = cc
not_both false o n h k = none_is_some n h

pub Says-unique : (line : List ℕ) (a b : Line) → Says line a → Says line b → a ≡ b
Says-unique line (begins n) (begins m) h k = ap begins (same_value n m (sym h ∙ k))
Says-unique line (begins n) opens h k = absurd (opens_no_snapshot line n k h)
Says-unique line (begins n) (holds d) h k =
    absurd (not_both (is_snapshot_line line) _ n h k.0)
Says-unique line opens (begins m) h k = absurd (opens_no_snapshot line m h k)
Says-unique line opens opens h k = refl
Says-unique line opens (holds d) h k = absurd (opens_no_document line d h k.1)
Says-unique line (holds d) (begins m) h k =
    absurd (not_both (is_snapshot_line line) _ m k h.0)
Says-unique line (holds d) opens h k = absurd (opens_no_document line d k h.1)
Says-unique line (holds d) (holds e) h k = ap holds (IsDocumentLine-unique line d e h.1 k.1)

-- ---- one line more

fits_more : (documents : List Fields) (document : Fields) → FitSegment documents
    → ¬ IsRefused documents document → FitSegment (documents ++ document ∷ [])
fits_more documents document fits taken =
    let apart : length documents ≢ 16777216 = λ full. taken (inl full) in
    record {
      few = omega (arith, fits.few, apart, length-append documents (document ∷ []));
      unmixed = λ mixed. taken (inr mixed);
    }

fits_refused : (documents : List Fields) (document : Fields) → IsRefused documents document
    → ¬ FitSegment (documents ++ document ∷ [])
fits_refused documents document (inl full) fits =
    absurd (omega (arith, fits.few, full, length-append documents (document ∷ [])))
fits_refused documents document (inr mixed) fits = fits.unmixed mixed

module _ (line : List ℕ) (old : SnapshotsBuilder) (fit : AreFit (made_by old)) where
  abbrev documents : List Fields
  documents = gathered_documents old.current.documents

  pub took_begins : (size : ℕ) (new : SnapshotsBuilder) → begun_size line ≡ Some size
      → made_by new ≡ with_line (begins size) (made_by old) → TakesLine line old new
  took_begins size new says is = record {
    said = begins size;
    says = says;
    made = is;
    fit = subst AreFit (sym is) (AreFit-begins size (made_by old) fit);
  }

  pub took_opens : (one : OpenSnapshot) → line ≡ segment_line
      → open_of one ≡ with_segment (open_of old.current)
      → TakesLine line old (record old { current = one })
  took_opens one says is =
      let made : made_by (record old { current = one }) ≡ with_line opens (made_by old) =
      ap (λ (now : Open). record (made_by old) { current = now }) is in
      record {
        said = opens;
        says = says;
        made = made;
        fit = subst AreFit (sym made) (AreFit-opens (made_by old) fit);
      }

  pub took_holds : (segment : Gathered) (room : LineRoom) → is_snapshot_line line ≡ false
      → HoldsLine line old.current.documents segment
      → TakesLine line old (record old {
        current = record old.current { documents = segment };
        room = room;
      })
  took_holds segment room not_begins holds_line =
      let document = holds_line.document in
      record {
        said = holds document;
        says = (not_begins, holds_line.stands);
        made = ap (λ (ds : List Fields). record (made_by old) {
          current = record (open_of old.current) { documents = ds };
        }) holds_line.added;
        fit = record {
          closed = fit.closed;
          segments = fit.segments;
          documents = subst FitSegment (sym holds_line.added)
              (fits_more documents document fit.documents holds_line.taken);
        };
      }

  -- a line on which nothing begins
  pub cannot_hold : is_snapshot_line line ≡ false → line ≢ segment_line
      → HasNoDocument line old.current.documents → CannotFollow line old
  cannot_hold not_begins not_opens none (begins n) says fits =
      not_both (is_snapshot_line line) _ n says not_begins
  cannot_hold not_begins not_opens none opens says fits = not_opens says
  cannot_hold not_begins not_opens none (holds d) says fits =
      fits_refused documents d (none d says.1) fits.documents

-- ---- all lines

-- the builder has taken the lines before those that are left
pub record HasTaken (all : List (List ℕ)) (builder : SnapshotsBuilder) (left : List (List ℕ))
    : Type 0 where
  pub done : List (List ℕ)
  pub size : ℕ
  pub said : List Line
  pub cut : all ≡ done ++ left
  pub say : AllZip Says done (begins size ∷ said)
  pub made : made_by builder ≡ with_lines said (first size)
  pub fit : AreFit (made_by builder)

pub HasTaken-first : (line : List ℕ) (left : List (List ℕ)) (size : ℕ) (builder : SnapshotsBuilder)
    → begun_size line ≡ Some size → builder.closed ≡ [] → open_of builder.current ≡ begun size
    → HasTaken (line ∷ left) builder left
HasTaken-first line left size builder says none is =
    let made : made_by builder ≡ first size = λ i. record {
      closed = ap snapshots_documents none i;
      current = is i;
    } in
    record {
      done = line ∷ [];
      size = size;
      said = [];
      cut = refl;
      say = (says, tt);
      made = made;
      fit = subst AreFit (sym made) (AreFit-first size);
    }

pub HasTaken-more : (all : List (List ℕ)) (old new : SnapshotsBuilder) (left : List (List ℕ))
    (line : List ℕ) (later : List (List ℕ)) → HasTaken all old left → left ≡ line ∷ later
    → TakesLine line old new → HasTaken all new later
HasTaken-more all old new left line later h is takes = record {
  done = h.done ++ line ∷ [];
  size = h.size;
  said = h.said ++ takes.said ∷ [];
  cut = h.cut ∙ ap (λ l. h.done ++ l) is ∙ sym (append_assoc h.done (line ∷ []) later);
  say = AllZip-append Says h.done (line ∷ []) (begins h.size ∷ h.said) (takes.said ∷ []) h.say
      (takes.says, tt);
  made = takes.made ∙ ap (with_line takes.said) h.made
      ∙ sym (with_lines-append h.said (takes.said ∷ []) (first h.size));
  fit = takes.fit;
}

-- where the next line cannot follow, the lines stand for no snapshots
pub HasTaken-refused : (all : List (List ℕ)) (builder : SnapshotsBuilder) (left : List (List ℕ))
    (line : List ℕ) (later : List (List ℕ)) → HasTaken all builder left → left ≡ line ∷ later
    → CannotFollow line builder → (snapshots : List SnapshotDocuments)
    → ¬ AreSnapshots all snapshots
HasTaken-refused all builder left line later h is cannot snapshots (said, say, stand, begun) =
    let whole_cut = h.cut ∙ ap (λ l. h.done ++ l) is in
    let parts = AllZip-parts Says h.done (line ∷ later) said
    (subst (λ l. AllZip Says l said) whole_cut say) in
    by_next parts.0 parts.1 parts.2 parts.3 parts.4
  where
    by_next : (before rest : List Line) → said ≡ before ++ rest → AllZip Says h.done before
        → AllZip Says (line ∷ later) rest → ⊥
    by_next before [] cut say_before say_rest = say_rest
    by_next before (next ∷ rest) cut say_before say_rest =
        let same : before ≡ begins h.size ∷ h.said =
        AllZip-unique Says Says-unique h.done before (begins h.size ∷ h.said) say_before h.say in
        let stands = subst StandForSnapshots (cut ∙ ap (λ l. l ++ next ∷ rest) same) stand in
        let fits = subst AreFit (with_lines-append h.said (next ∷ rest) (first h.size))
        (AreFit-made h.size (h.said ++ next ∷ rest) stands) in
        let follows = AreFit-before rest (with_line next (with_lines h.said (first h.size))) fits in
        cannot next say_rest.0
        (subst (λ made. AreFit (with_line next made)) (sym h.made) follows)

-- after the last line the snapshots are those of all lines
pub HasTaken-all : (all : List (List ℕ)) (builder : SnapshotsBuilder) (left : List (List ℕ))
    (snapshots : List SnapshotDocuments) → HasTaken all builder left → left ≡ []
    → snapshots ≡ snapshots_made (made_by builder) → AreSnapshots all snapshots
HasTaken-all all builder left snapshots h is same =
    let whole_cut : h.done ≡ all =
    sym (h.cut ∙ ap (λ l. h.done ++ l) is ∙ append_none h.done) in (
      begins h.size ∷ h.said,
      subst (λ l. AllZip Says l (begins h.size ∷ h.said)) whole_cut h.say,
      StandForSnapshots-made h.size h.said (subst AreFit h.made h.fit),
      same ∙ ap snapshots_made h.made ∙ sym (begun-made h.size h.said),
    )
  where
    append_none : (l : List (List ℕ)) → l ++ [] ≡ l
    append_none [] = refl
    append_none (x ∷ xs) = ap (λ r. x ∷ r) (append_none xs)

-- ---- the first line

pub AreSnapshots-none : AreSnapshots [] []
AreSnapshots-none = ([], tt, StandForSnapshots-none, refl)

-- no snapshots begin where the first line is none of a snapshot
pub first_refused : (line : List ℕ) (left : List (List ℕ)) → begun_size line ≡ None
    → NoneIs (AreSnapshots (line ∷ left))
first_refused line left none snapshots ([], say, stand, begun) = say
first_refused line left none snapshots (begins n ∷ said, say, stand, begun) =
    none_is_some n (sym none ∙ say.0)
first_refused line left none snapshots (opens ∷ said, say, stand, begun) =
    let leads = stand.none in cc
first_refused line left none snapshots (holds d ∷ said, say, stand, begun) =
    let leads = stand.none in cc
