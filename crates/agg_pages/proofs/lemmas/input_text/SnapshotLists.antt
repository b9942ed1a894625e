-- Lines and the snapshots that they stand for.
use Rattle.std.proofs.Common.{◌≡◌, ℕ, List, [], ◌∷◌, ◌++◌, Bool, true, false, map, refl, sym, ap}
use Rattle.std.proofs.Common.{◌∙◌, subst, append-nil, append_assoc, arith, All}
use Rattle.std.proofs.lemmas.Grind.{flat_map-append}
use Rattle.std.proofs.lemmas.List.{length-append}
use Rattle.std.proofs.lemmas.List.Elements.{All-append, All-cons, All-head, All-nil, All-tail}
use Rattle.std.proofs.lemmas.List.Elements.{All-push, Contains-append_left}
use Rattle.std.specs.List.{Contains, flat_map}
use Rattle.agg_segment.specs.storage.Document.{Fields}
use Rattle.agg_segment.specs.SegmentLimits.{HasSign, IsMixed, sign_of}
use Rattle.agg_segment.specs.declared.storage.sign.Sign.{Sign}
use Rattle.agg_segment.specs.SnapshotDocuments.{SnapshotDocuments}
use Rattle.agg_pages.specs.input_text.SnapshotLines.{FitSegment, Line, SegmentsFit}
use Rattle.agg_pages.specs.input_text.SnapshotLines.{StandForSnapshots, begins, begun_snapshots}
use Rattle.agg_pages.specs.input_text.SnapshotLines.{holds, leading_documents, opens}
use Rattle.agg_pages.specs.input_text.SnapshotLines.{opened_segments}
use Rattle.agg_pages.specs.input_text.Snapshots.{AreFit, Made, Open, all_segments, begun}
use Rattle.agg_pages.specs.input_text.Snapshots.{last_segment, snapshots_made, whole_snapshot}
use Rattle.agg_pages.specs.input_text.Snapshots.{with_line}
use Rattle.agg_pages.proofs.lemmas.document_json.Beside.{map-append}

-- ---- segments of fewer documents

sign_more : (documents more : List Fields) (field : List ℕ) (sign : Sign)
    → HasSign documents field sign → HasSign (documents ++ more) field sign
sign_more documents more field sign has =
    let keys = λ (document : Fields). document field in
    let cut : map sign_of (flat_map keys (documents ++ more))
    ≡ map sign_of (flat_map keys documents) ++ map sign_of (flat_map keys more) =
    ap (map sign_of) (flat_map-append keys documents more)
    ∙ map-append sign_of (flat_map keys documents) (flat_map keys more) in
    subst (λ signs. Contains signs sign) (sym cut)
    (Contains-append_left (map sign_of (flat_map keys documents))
    (map sign_of (flat_map keys more)) sign has)

mixed_more : (documents more : List Fields) → IsMixed documents → IsMixed (documents ++ more)
mixed_more documents more (field, negative, large) =
    (field, sign_more documents more field _ negative, sign_more documents more field _ large)

pub FitSegment-first : (documents more : List Fields) → FitSegment (documents ++ more)
    → FitSegment documents
FitSegment-first documents more h = record {
  few = omega (arith, h.few, length-append documents more);
  unmixed = λ mixed. h.unmixed (mixed_more documents more mixed);
}

pub FitSegment-none : FitSegment []
FitSegment-none = record {
  few = omega arith;
  unmixed = λ (field, (k, within, is), large). absurd (omega (arith, within));
}

-- ---- what lines make of snapshots

-- the snapshots before a line, with those that it begins and all lines after it
abbrev pub with_lines : List Line → Made → Made
with_lines [] made = made
with_lines (line ∷ lines) made = with_lines lines (with_line line made)

pub with_lines-append : (xs ys : List Line) (made : Made)
    → with_lines (xs ++ ys) made ≡ with_lines ys (with_lines xs made)
with_lines-append [] ys made = refl
with_lines-append (line ∷ xs) ys made = with_lines-append xs ys (with_line line made)

-- where the first snapshot of this page size begins
abbrev pub first : ℕ → Made
first size = record { closed = []; current = begun size }

-- the segments of a snapshot in the making, where these lines follow
abbrev segments_before : List Line → Open → List (List Fields)
segments_before lines one =
    one.segments
    ++ (last_segment one.opened (one.documents ++ leading_documents lines) ++ opened_segments lines)

-- the snapshot of a page size and segments
abbrev snapshot : ℕ → List (List Fields) → SnapshotDocuments
snapshot size segments = record { segments = segments; page_size = size }

-- the snapshots, where these lines follow
abbrev snapshots_before : List Line → Made → List SnapshotDocuments
snapshots_before lines made =
    made.closed
    ++ snapshot made.current.page_size (segments_before lines made.current) ∷ begun_snapshots lines

-- no lines add nothing
nothing_follows : (one : Open) → all_segments one ≡ segments_before [] one
nothing_follows one =
    ap (λ documents. one.segments ++ last_segment one.opened documents)
    (sym (append-nil one.documents))
    ∙ ap (λ segments. one.segments ++ segments)
    (sym (append-nil (last_segment one.opened (one.documents ++ []))))

line_follows : (line : Line) (lines : List Line) (made : Made)
    → snapshots_before lines (with_line line made) ≡ snapshots_before (line ∷ lines) made
line_follows (holds document) lines made =
    let one = made.current in
    ap (λ documents. made.closed
    ++ snapshot one.page_size
    (one.segments ++ (last_segment one.opened documents ++ opened_segments lines))
    ∷ begun_snapshots lines)
    (append_assoc one.documents (document ∷ []) (leading_documents lines))
line_follows opens lines made =
    let one = made.current in
    let rest = leading_documents lines ∷ opened_segments lines in
    ap (λ segments. made.closed ++ snapshot one.page_size segments ∷ begun_snapshots lines)
    (append_assoc one.segments (last_segment one.opened one.documents) rest
    ∙ ap (λ documents. one.segments ++ (last_segment one.opened documents ++ rest))
    (sym (append-nil one.documents)))
line_follows (begins size) lines made =
    let rest = begun_snapshots (begins size ∷ lines) in
    append_assoc made.closed (whole_snapshot made.current ∷ []) rest
    ∙ ap (λ segments. made.closed ++ snapshot made.current.page_size segments ∷ rest)
    (nothing_follows made.current)

lines_follow : (lines : List Line) (made : Made)
    → snapshots_made (with_lines lines made) ≡ snapshots_before lines made
lines_follow [] made =
    ap (λ segments. made.closed ++ snapshot made.current.page_size segments ∷ [])
    (nothing_follows made.current)
lines_follow (line ∷ lines) made =
    lines_follow lines (with_line line made) ∙ line_follows line lines made

-- the snapshots that begin in lines are made line by line
pub begun-made : (size : ℕ) (lines : List Line)
    → begun_snapshots (begins size ∷ lines) ≡ snapshots_made (with_lines lines (first size))
begun-made size lines = sym (lines_follow lines (first size))

-- ---- snapshots whose segments may hold their documents

last_fits : (opened : Bool) (documents : List Fields) → FitSegment documents
    → All FitSegment (last_segment opened documents)
last_fits true documents h = All-cons FitSegment documents [] h (All-nil FitSegment)
last_fits false [] h = All-nil FitSegment
last_fits false (d ∷ ds) h = All-cons FitSegment (d ∷ ds) [] h (All-nil FitSegment)

fit_from_last : (opened : Bool) (documents : List Fields)
    → All FitSegment (last_segment opened documents) → FitSegment documents
fit_from_last true documents h = All-head FitSegment documents [] h
fit_from_last false [] h = FitSegment-none
fit_from_last false (d ∷ ds) h = All-head FitSegment (d ∷ ds) [] h

all_before : {A : Type 0} (P : A → Type 0) (xs ys : List A) → All P (xs ++ ys) → All P xs
all_before P [] ys h = All-nil P
all_before P (x ∷ xs) ys h =
    All-cons P x xs (All-head P x (xs ++ ys) h) (all_before P xs ys (All-tail P x (xs ++ ys) h))

all_after : {A : Type 0} (P : A → Type 0) (xs ys : List A) → All P (xs ++ ys) → All P ys
all_after P [] ys h = h
all_after P (x ∷ xs) ys h = all_after P xs ys (All-tail P x (xs ++ ys) h)

all_segments_fit : (made : Made) → AreFit made → All FitSegment (all_segments made.current)
all_segments_fit made fit =
    All-append FitSegment made.current.segments
    (last_segment made.current.opened made.current.documents) fit.segments
    (last_fits made.current.opened made.current.documents fit.documents)

snapshots_fit : (made : Made) → AreFit made → All SegmentsFit (snapshots_made made)
snapshots_fit made fit =
    All-push SegmentsFit made.closed (whole_snapshot made.current) fit.closed
    (all_segments_fit made fit)

fit_from_snapshots : (made : Made) → All SegmentsFit (snapshots_made made) → AreFit made
fit_from_snapshots made h =
    let one = made.current in
    let last = All-head SegmentsFit (whole_snapshot one) []
    (all_after SegmentsFit made.closed (whole_snapshot one ∷ []) h) in
    record {
      closed = all_before SegmentsFit made.closed (whole_snapshot one ∷ []) h;
      segments = all_before FitSegment one.segments (last_segment one.opened one.documents) last;
      documents = fit_from_last one.opened one.documents
          (all_after FitSegment one.segments (last_segment one.opened one.documents) last);
    }

pub AreFit-first : (size : ℕ) → AreFit (first size)
AreFit-first size = record {
  closed = All-nil SegmentsFit;
  segments = All-nil FitSegment;
  documents = FitSegment-none;
}

-- a snapshot that begins fits, and so does a segment
pub AreFit-begins : (size : ℕ) (made : Made) → AreFit made → AreFit (with_line (begins size) made)
AreFit-begins size made fit = record {
  closed = snapshots_fit made fit;
  segments = All-nil FitSegment;
  documents = FitSegment-none;
}

pub AreFit-opens : (made : Made) → AreFit made → AreFit (with_line opens made)
AreFit-opens made fit = record {
  closed = fit.closed;
  segments = all_segments_fit made fit;
  documents = FitSegment-none;
}

-- what fits with one more line fits without it
fit_before : (line : Line) (made : Made) → AreFit (with_line line made) → AreFit made
fit_before (begins size) made fit = fit_from_snapshots made fit.closed
fit_before opens made fit =
    let one = made.current in
    record {
      closed = fit.closed;
      segments = all_before FitSegment one.segments (last_segment one.opened one.documents)
          fit.segments;
      documents = fit_from_last one.opened one.documents
          (all_after FitSegment one.segments (last_segment one.opened one.documents)
          fit.segments);
    }
fit_before (holds document) made fit = record {
  closed = fit.closed;
  segments = fit.segments;
  documents = FitSegment-first made.current.documents (document ∷ []) fit.documents;
}

pub AreFit-before : (lines : List Line) (made : Made) → AreFit (with_lines lines made)
    → AreFit made
AreFit-before [] made fit = fit
AreFit-before (line ∷ lines) made fit =
    fit_before line made (AreFit-before lines (with_line line made) fit)

-- ---- lines that stand for snapshots

pub StandForSnapshots-made : (size : ℕ) (lines : List Line)
    → AreFit (with_lines lines (first size)) → StandForSnapshots (begins size ∷ lines)
StandForSnapshots-made size lines fit = record {
  none = refl;
  fit = subst (All SegmentsFit) (sym (begun-made size lines))
      (snapshots_fit (with_lines lines (first size)) fit);
}

pub AreFit-made : (size : ℕ) (lines : List Line) → StandForSnapshots (begins size ∷ lines)
    → AreFit (with_lines lines (first size))
AreFit-made size lines stand =
    fit_from_snapshots (with_lines lines (first size))
    (subst (All SegmentsFit) (begun-made size lines) stand.fit)

-- no lines stand for no snapshots
pub StandForSnapshots-none : StandForSnapshots []
StandForSnapshots-none = record { none = refl; fit = All-nil SegmentsFit }
