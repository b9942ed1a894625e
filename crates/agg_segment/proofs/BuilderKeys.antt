-- A builder's keys: those of the closed documents' columns, and those of the open document.
use Rattle.std.proofs.Common.{◌≡◌, ◌≢◌, ◌<◌, ◌≤◌, ◌^◌, ℕ, List, [], ◌∷◌, ◌++◌}
use Rattle.std.proofs.Common.{length, get_or, take, drop, map, true, false, refl, sym, ap}
use Rattle.std.proofs.Common.{◌∙◌, inl, inr, arith}
use Rattle.std.specs.Prelude.{nat_lt, int_lt, pos, ◌-ℤ◌}
use Rattle.std.specs.List.{All}
use Rattle.std.proofs.lemmas.Int.{ints}
use Rattle.std.proofs.lemmas.Bool.{cases_Bool}
use Rattle.std.proofs.lemmas.Bool.Decides.{nat_tests}
use Rattle.std.proofs.lemmas.List.{append-nil, append_assoc, length-map, map-append}
use Rattle.std.proofs.Math.Seq.{take-append_seam, drop-append_seam}
use Rattle.std.proofs.lemmas.List.Elements.{All-head, All-tail, All-weaker}
use Rattle.agg_values.specs.declared.address.Address.{Address}
use Rattle.agg_values.specs.declared.column.ColumnPaginationOrder.{ColumnPaginationOrder}
use Rattle.agg_values.specs.declared.column.ColumnPaginationOrder.TheVariants as class
use Rattle.agg_values.specs.declared.typed_key.CompositeIntermediateKey.TheVariants as key
use Rattle.agg_segment.specs.storage.Cells.{Placed}
use Rattle.agg_segment.specs.storage.Runs.{Logged, FieldKey, in_document, open_cells}
use Rattle.agg_segment.specs.Segment.{builder_cells}
use Rattle.agg_segment.specs.Gatherings.{Raw, raw_placed}
use Rattle.agg_segment.specs.storage.GatheredNumbers.{raw_key, kind_of, IsRaw}
use Rattle.agg_segment.specs.storage.Signs.{key_mark, IsFieldSign}
use Rattle.agg_segment.specs.SegmentLimits.{sign_of}
use Rattle.agg_segment.specs.declared.storage.hit.ColumnType.TheVariants as kind
use Rattle.agg_segment.specs.declared.storage.sign.Sign.{Sign}
use Rattle.agg_segment.specs.declared.storage.sign.Sign.TheVariants.{Small, Negative, Large}
use Rattle.agg_segment.proofs.NewFields.{padded}
use Rattle.agg_segment.proofs.lemmas.storage.KeptNumbers.{longer_key, raw_more}

-- ---- more texts and addresses with the same numbers

longer_rows : (signs : List Sign) (texts more : List (List ℕ)) (addresses others : List Address)
    (rs : List Raw) → All (λ r. IsRaw (length texts) (length addresses) r.class r.number) rs
    → map (raw_placed signs (texts ++ more) (addresses ++ others)) rs
    ≡ map (raw_placed signs texts addresses) rs
longer_rows signs texts more addresses others [] all = refl
longer_rows signs texts more addresses others (r ∷ rs) all =
    let P : Raw → Type 0 = λ s. IsRaw (length texts) (length addresses) s.class s.number in
    ap (λ k. let p : Placed = record { field = r.field; doc = r.doc; key = k } in
    p ∷ map (raw_placed signs (texts ++ more) (addresses ++ others)) rs)
    (longer_key texts more addresses others (get_or signs r.field Small) r.class r.number
    (All-head P r rs all))
    ∙ ap (λ ps. raw_placed signs texts addresses r ∷ ps)
    (longer_rows signs texts more addresses others rs (All-tail P r rs all))

still_read : (signs : List Sign) (texts more : List (List ℕ)) (addresses others : List Address)
    (rs : List Raw) (ts : List (List ℕ)) (as' : List Address) → ts ≡ texts ++ more
    → as' ≡ addresses ++ others
    → All (λ r. IsRaw (length texts) (length addresses) r.class r.number) rs
    → map (raw_placed signs ts as') rs ≡ map (raw_placed signs texts addresses) rs
still_read signs texts more addresses others rs ts as' is are all =
    ap (λ t. map (raw_placed signs t as') rs) is
    ∙ ap (λ a. map (raw_placed signs (texts ++ more) a) rs) are
    ∙ longer_rows signs texts more addresses others rs all

pub raws_longer : (n m i j : ℕ) (rs : List Raw) → n ≤ i → m ≤ j
    → All (λ r. IsRaw n m r.class r.number) rs → All (λ r. IsRaw i j r.class r.number) rs
raws_longer n m i j rs up on all = All-weaker (λ (r : Raw). IsRaw n m r.class r.number) (λ r.
    IsRaw i j r.class r.number) (λ r. raw_more n m i j r.class r.number up on) rs all

-- ---- a field that is new has no sign

pub padded_read : (signs : List Sign) (texts : List (List ℕ)) (addresses : List Address)
    (rs : List Raw) → map (raw_placed (signs ++ Small ∷ []) texts addresses) rs
    ≡ map (raw_placed signs texts addresses) rs
padded_read signs texts addresses [] = refl
padded_read signs texts addresses (r ∷ rs) =
    ap (λ s. let p : Placed = record {
      field = r.field;
      doc = r.doc;
      key = raw_key texts addresses (kind_of s r.class) r.number;
    } in p ∷ map (raw_placed (signs ++ Small ∷ []) texts addresses) rs) (padded signs r.field)
    ∙ ap (λ ps. raw_placed signs texts addresses r ∷ ps) (padded_read signs texts addresses rs)

-- ---- numbers keep their keys when their fields get signs

high_key : (texts : List (List ℕ)) (addresses : List Address) (sign : Sign) (n : ℕ)
    → nat_lt n (2 ^ 63) ≡ false
    → raw_key texts addresses (kind_of sign class.Numeric) n ≡ key.I64 (pos n -ℤ pos (2 ^ 63))
high_key texts addresses Large n high = rw high refl
high_key texts addresses Small n high = refl
high_key texts addresses Negative n high = refl

below_zero : (n : ℕ) → nat_lt n (2 ^ 63) ≡ true → int_lt (pos n -ℤ pos (2 ^ 63)) (pos 0) ≡ true
below_zero n low = let l : n < 2 ^ 63 = grind (arith, nat_tests) in grind (arith, ints, nat_tests)

pub signed_key : (texts : List (List ℕ)) (addresses : List Address) (old new : Sign)
    (c : ColumnPaginationOrder) (n : ℕ)
    → (sign_of (raw_key texts addresses (kind_of old c) n) ≢ Small
    → new ≡ sign_of (raw_key texts addresses (kind_of old c) n))
    → raw_key texts addresses (kind_of new c) n ≡ raw_key texts addresses (kind_of old c) n
signed_key texts addresses old new class.Bool n says = refl
signed_key texts addresses old new class.Str n says = refl
signed_key texts addresses old new class.Numeric n says = elim (cases_Bool (nat_lt n (2 ^ 63))) [
  | inl low ↦ by_sign old low says
  | inr high ↦ high_key texts addresses new n high ∙ sym (high_key texts addresses old n high)
]
  where
    signed : nat_lt n (2 ^ 63) ≡ true
        → sign_of (key.I64 (pos n -ℤ pos (2 ^ 63))) ≡ Negative
    signed low = rw (below_zero n low) refl

    by_sign : (s : Sign) → nat_lt n (2 ^ 63) ≡ true
        → (sign_of (raw_key texts addresses (kind_of s class.Numeric) n) ≢ Small
        → new ≡ sign_of (raw_key texts addresses (kind_of s class.Numeric) n))
        → raw_key texts addresses (kind_of new class.Numeric) n
        ≡ raw_key texts addresses (kind_of s class.Numeric) n
    by_sign Large low told =
        let large : sign_of (raw_key texts addresses kind.U64 n) ≡ Large = rw low refl in
        let is : new ≡ Large = told (λ small. let both : Large ≡ Small = sym large ∙ small in cc)
        ∙ large in
        ap (λ t. raw_key texts addresses (kind_of t class.Numeric) n) is
    by_sign Small low told =
        let is : new ≡ Negative = told (λ small. let both : Negative ≡ Small = sym (signed low)
        ∙ small in cc) ∙ signed low in
        ap (λ t. raw_key texts addresses (kind_of t class.Numeric) n) is
    by_sign Negative low told =
        let is : new ≡ Negative = told (λ small. let both : Negative ≡ Small = sym (signed low)
        ∙ small in cc) ∙ signed low in
        ap (λ t. raw_key texts addresses (kind_of t class.Numeric) n) is
signed_key texts addresses old new class.IpAddr n says = refl
signed_key texts addresses old new class.DateTime n says = refl

pub signed_read : (old new : List Sign) (texts : List (List ℕ)) (addresses : List Address)
    (rs : List Raw)
    → All (IsFieldSign new) (map key_mark (map (raw_placed old texts addresses) rs))
    → map (raw_placed new texts addresses) rs ≡ map (raw_placed old texts addresses) rs
signed_read old new texts addresses [] all = refl
signed_read old new texts addresses (r ∷ rs) all =
    let read = raw_placed old texts addresses in
    ap (λ k. let p : Placed = record { field = r.field; doc = r.doc; key = k } in
    p ∷ map (raw_placed new texts addresses) rs)
    (signed_key texts addresses (get_or old r.field Small) (get_or new r.field Small) r.class
    r.number (All-head (IsFieldSign new) (key_mark (read r)) (map key_mark (map read rs)) all))
    ∙ ap (λ ps. read r ∷ ps) (signed_read old new texts addresses rs
    (All-tail (IsFieldSign new) (key_mark (read r)) (map key_mark (map read rs)) all))

-- ---- the keys of the closed documents, and of the open one

pub taken : (read : Raw → Placed) (rs : List Raw) (ps : List Placed)
    → take (length rs) (map read rs ++ ps) ≡ map read rs
taken read rs ps = ap (λ n. take n (map read rs ++ ps)) (sym (length-map rs read))
    ∙ take-append_seam (map read rs) ps

pub dropped : (read : Raw → Placed) (rs : List Raw) (ps : List Placed)
    → drop (length rs) (map read rs ++ ps) ≡ ps
dropped read rs ps = ap (λ n. drop n (map read rs ++ ps)) (sym (length-map rs read))
    ∙ drop-append_seam (map read rs) ps

-- the keys of the closed documents alone
pub read_again : (count : ℕ) (signs : List Sign) (rs : List Raw) (log new : Logged)
    → new.texts ≡ log.texts → new.addresses ≡ log.addresses → new.keys ≡ []
    → builder_cells count signs rs new ≡ take (length rs) (builder_cells count signs rs log)
read_again count signs rs log new texts addresses keys =
    ap (λ ks. map (raw_placed signs new.texts new.addresses) rs ++ map (in_document count) ks) keys
    ∙ append-nil (map (raw_placed signs new.texts new.addresses) rs)
    ∙ ap (λ ts. map (raw_placed signs ts new.addresses) rs) texts
    ∙ ap (λ as'. map (raw_placed signs log.texts as') rs) addresses
    ∙ sym (taken (raw_placed signs log.texts log.addresses) rs (open_cells count log))

-- the keys with other ones of the open document
pub read_beside : (count : ℕ) (signs : List Sign) (rs : List Raw) (log new : Logged) (more : List
    (List ℕ))
    (others : List Address) (ks : List FieldKey) → new.texts ≡ log.texts ++ more
    → new.addresses ≡ log.addresses ++ others
    → All (λ r. IsRaw (length log.texts) (length log.addresses) r.class r.number) rs
    → new.keys ≡ ks
    → builder_cells count signs rs new
    ≡ map (raw_placed signs log.texts log.addresses) rs ++ map (in_document count) ks
read_beside count signs rs log new more others ks texts addresses all keys =
    ap (λ js. map (raw_placed signs new.texts new.addresses) rs ++ map (in_document count) js) keys
    ∙ ap (λ qs. qs ++ map (in_document count) ks)
    (still_read signs log.texts more log.addresses others rs new.texts
    new.addresses texts addresses all)

pub read_pushed : (count : ℕ) (signs : List Sign) (rs : List Raw) (log new : Logged) (more : List
    (List ℕ))
    (others : List Address) (k : FieldKey) → new.texts ≡ log.texts ++ more
    → new.addresses ≡ log.addresses ++ others
    → All (λ r. IsRaw (length log.texts) (length log.addresses) r.class r.number) rs
    → new.keys ≡ log.keys ++ k ∷ []
    → builder_cells count signs rs new
    ≡ builder_cells count signs rs log ++ in_document count k ∷ []
read_pushed count signs rs log new more others k texts addresses all keys =
    let read = map (raw_placed signs log.texts log.addresses) rs in
    read_beside count signs rs log new more others (log.keys ++ k ∷ []) texts addresses all keys
    ∙ ap (λ ps. read ++ ps) (map-append (in_document count) log.keys (k ∷ []))
    ∙ sym (append_assoc read (open_cells count log) (in_document count k ∷ []))

-- the keys of the closed documents, by what was kept
pub read_kept : (count : ℕ) (signs ss : List Sign) (rs : List Raw) (log : Logged) (ts : List
    (List ℕ))
    (as' : List Address) → ss ≡ signs → ts ≡ log.texts → as' ≡ log.addresses
    → map (raw_placed ss ts as') rs ≡ take (length rs) (builder_cells count signs rs log)
read_kept count signs ss rs log ts as' same texts addresses =
    ap (λ s. map (raw_placed s ts as') rs) same
    ∙ ap (λ t. map (raw_placed signs t as') rs) texts
    ∙ ap (λ a. map (raw_placed signs log.texts a) rs) addresses
    ∙ sym (taken (raw_placed signs log.texts log.addresses) rs (open_cells count log))
