-- The keys of numbers with their kinds are those of the columns' numbers that they become.
use Rattle.std.proofs.Common.{◌≡◌, ◌≤◌, ℕ, zero, suc, List, [], ◌∷◌, ◌++◌, length, get_or, take}
use Rattle.std.proofs.Common.{drop, map, refl, sym, ap, ◌∙◌, arith}
use Rattle.std.specs.List.{All}
use Rattle.std.proofs.lemmas.List.{map-append}
use Rattle.std.proofs.lemmas.List.Elements.{All-head, All-tail}
use Rattle.agg_values.specs.declared.address.Address.{Address}
use Rattle.agg_segment.specs.storage.Cells.{Placed}
use Rattle.agg_segment.specs.storage.GatheredNumbers.{IsRaw}
use Rattle.agg_segment.specs.storage.Runs.{in_document, kept_key, noted, noted_key, IsNoted}
use Rattle.agg_segment.specs.storage.Signs.{key_mark, kind_mark, IsFieldSign}
use Rattle.agg_segment.specs.SegmentLimits.{sign_of}
use Rattle.agg_segment.specs.Gatherings.{Raw, raw_of, raw_placed}
use Rattle.agg_segment.specs.declared.storage.run.Run.{Run}
use Rattle.agg_segment.specs.declared.storage.run.RunKind.{RunKind}
use Rattle.agg_segment.specs.declared.storage.sign.Sign.{Sign}
use Rattle.agg_segment.specs.declared.storage.sign.Sign.TheVariants.{Small}
use Rattle.agg_segment.proofs.BuilderKeys.{signed_key}
use Rattle.agg_segment.proofs.Raws.{doc_raws}
use Rattle.agg_segment.proofs.lemmas.storage.KeptNumbers.{same_sign}
use Rattle.agg_segment.proofs.lemmas.storage.NotedRuns.{noted_first}

-- the key of a number with its kind, in a document
abbrev pub note_placed : List (List ℕ) → List Address → ℕ → RunKind × ℕ → Placed
note_placed texts addresses doc note = in_document doc (noted_key texts addresses note)

-- what a number with its kind becomes
abbrev pub note_raw : ℕ → RunKind × ℕ → Raw
note_raw doc note = raw_of doc note.0 note.1

pub notes_read : (signs : List Sign) (texts : List (List ℕ)) (addresses : List Address) (doc : ℕ)
    (notes : List (RunKind × ℕ))
    → All (IsFieldSign signs) (map key_mark (map (in_document doc)
    (map (noted_key texts addresses) notes)))
    → map (raw_placed signs texts addresses) (map (note_raw doc) notes)
    ≡ map (in_document doc) (map (noted_key texts addresses) notes)
notes_read signs texts addresses doc [] all = refl
notes_read signs texts addresses doc (note ∷ notes) all =
    let kind = note.0 in
    let one : Placed = note_placed texts addresses doc note in
    let others : List Placed = map (in_document doc) (map (noted_key texts addresses) notes) in
    let says = All-head (IsFieldSign signs) (key_mark one) (map key_mark others) all in
    ap (λ k. let p : Placed = record { field = kind.field; doc = doc; key = k } in
    p ∷ map (raw_placed signs texts addresses) (map (note_raw doc) notes))
    (signed_key texts addresses kind.sign (get_or signs kind.field Small) kind.class note.1 says)
    ∙ ap (λ ps. one ∷ ps) (notes_read signs texts addresses doc notes
    (All-tail (IsFieldSign signs) (key_mark one) (map key_mark others) all))

pub notes_raw : (n m doc : ℕ) (notes : List (RunKind × ℕ)) → All (IsNoted n m) notes
    → All (λ r. IsRaw n m r.class r.number) (map (note_raw doc) notes)
notes_raw n m doc [] all k d l = absurd (omega (arith, l))
notes_raw n m doc (note ∷ notes) all zero d l = (all 0 note (omega arith)).0
notes_raw n m doc (note ∷ notes) all (suc k) d l =
    notes_raw n m doc notes (All-tail (IsNoted n m) note notes all) k d (omega (arith, l))

-- the signs of numbers are those of their keys
pub notes_marks : (n m : ℕ) (texts : List (List ℕ)) (addresses : List Address) (doc : ℕ)
    (notes : List (RunKind × ℕ)) → All (IsNoted n m) notes
    → map kind_mark (map (λ (note : RunKind × ℕ). note.0) notes)
    ≡ map key_mark (map (in_document doc) (map (noted_key texts addresses) notes))
notes_marks n m texts addresses doc [] all = refl
notes_marks n m texts addresses doc (note ∷ notes) all =
    let kind = note.0 in
    let sign : kind.sign ≡ sign_of (kept_key texts addresses kind.sign kind.class note.1) =
    sym ((All-head (IsNoted n m) note notes all).1)
    ∙ sym (same_sign texts addresses kind.sign kind.class note.1) in
    ap (λ s. (kind.field, s) ∷ map kind_mark (map (λ (note : RunKind × ℕ). note.0) notes)) sign
    ∙ ap (λ ms. key_mark (note_placed texts addresses doc note) ∷ ms)
    (notes_marks n m texts addresses doc notes (All-tail (IsNoted n m) note notes all))

-- ---- the numbers of the first run, and then those of the others

run_raws : (kind : RunKind) (doc : ℕ) (numbers : List ℕ)
    → map (note_raw doc) (map {B = RunKind × ℕ} (λ n. (kind, n)) numbers)
    ≡ doc_raws kind.field kind.class doc numbers
run_raws kind doc [] = refl
run_raws kind doc (n ∷ numbers) = ap (λ rs. raw_of doc kind n ∷ rs) (run_raws kind doc numbers)

pub raws_first : (doc : ℕ) (run : Run) (runs : List Run) (numbers : List ℕ)
    → run.count ≤ length numbers
    → map (note_raw doc) (noted (run ∷ runs) numbers)
    ≡ doc_raws run.kind.field run.kind.class doc (take run.count numbers)
    ++ map (note_raw doc) (noted runs (drop run.count numbers))
raws_first doc run runs numbers l =
    let own : List (RunKind × ℕ) = map (λ n. (run.kind, n)) (take run.count numbers) in
    let others = noted runs (drop run.count numbers) in
    ap (map (note_raw doc)) (noted_first run runs numbers l)
    ∙ map-append (note_raw doc) own others
    ∙ ap (λ rs. rs ++ map (note_raw doc) others) (run_raws run.kind doc (take run.count numbers))
