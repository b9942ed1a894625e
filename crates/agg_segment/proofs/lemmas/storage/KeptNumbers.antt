-- Numbers that are kept keep their keys when more texts and addresses come.
use Rattle.std.proofs.Common.{◌≡◌, ◌≤◌, ℕ, List, [], ◌∷◌, ◌++◌, length, map, refl, ap, ◌∙◌, arith}
use Rattle.std.specs.List.{All}
use Rattle.std.proofs.lemmas.List.{get_or_append_left}
use Rattle.std.proofs.lemmas.List.Elements.{All-tail, All-head, All-weaker}
use Rattle.agg_values.specs.declared.address.Address.{Address}
use Rattle.agg_values.specs.declared.column.ColumnPaginationOrder.{ColumnPaginationOrder}
use Rattle.agg_values.specs.declared.column.ColumnPaginationOrder.TheVariants as class
use Rattle.agg_values.specs.declared.typed_key.CompositeIntermediateKey.TheVariants as key
use Rattle.agg_segment.specs.storage.GatheredNumbers.{raw_key, kind_of, IsRaw}
use Rattle.agg_segment.specs.storage.Runs.{FieldKey, kept_key, noted_key, IsNoted}
use Rattle.agg_segment.specs.SegmentLimits.{sign_of}
use Rattle.agg_segment.specs.declared.storage.run.RunKind.{RunKind}
use Rattle.agg_segment.specs.declared.storage.sign.Sign.{Sign}
use Rattle.agg_segment.specs.declared.storage.sign.Sign.TheVariants.{Small, Negative, Large}

pub longer_key : (texts more : List (List ℕ)) (addresses others : List Address) (sign : Sign)
    (c : ColumnPaginationOrder) (n : ℕ) → IsRaw (length texts) (length addresses) c n
    → raw_key (texts ++ more) (addresses ++ others) (kind_of sign c) n
    ≡ raw_key texts addresses (kind_of sign c) n
longer_key texts more addresses others sign class.Bool n raw = refl
longer_key texts more addresses others sign class.Str n raw =
    ap (λ t. key.Str t) (get_or_append_left texts more [] n raw)
longer_key texts more addresses others Large class.Numeric n raw = refl
longer_key texts more addresses others Small class.Numeric n raw = refl
longer_key texts more addresses others Negative class.Numeric n raw = refl
longer_key texts more addresses others sign class.IpAddr n raw = ap (λ a. key.IpAddr a)
    (get_or_append_left addresses others (record { 0 = 0 }) n raw)
longer_key texts more addresses others sign class.DateTime n raw = refl

pub raw_more : (n m i j : ℕ) (c : ColumnPaginationOrder) (number : ℕ) → n ≤ i → m ≤ j
    → IsRaw n m c number → IsRaw i j c number
raw_more n m i j class.Bool number up on raw = raw
raw_more n m i j class.Str number up on raw = omega (arith, up, raw)
raw_more n m i j class.Numeric number up on raw = raw
raw_more n m i j class.IpAddr number up on raw = omega (arith, on, raw)
raw_more n m i j class.DateTime number up on raw = raw

-- the sign of a key has nothing to do with texts and addresses
pub same_sign : (texts : List (List ℕ)) (addresses : List Address) (sign : Sign)
    (c : ColumnPaginationOrder) (n : ℕ)
    → sign_of (kept_key texts addresses sign c n) ≡ sign_of (kept_key [] [] sign c n)
same_sign texts addresses sign class.Bool n = refl
same_sign texts addresses sign class.Str n = refl
same_sign texts addresses Large class.Numeric n = refl
same_sign texts addresses Small class.Numeric n = refl
same_sign texts addresses Negative class.Numeric n = refl
same_sign texts addresses sign class.IpAddr n = refl
same_sign texts addresses sign class.DateTime n = refl

-- ---- the numbers of the open document

longer_notes : (texts more : List (List ℕ)) (addresses others : List Address)
    (notes : List (RunKind × ℕ)) → All (IsNoted (length texts) (length addresses)) notes
    → map (noted_key (texts ++ more) (addresses ++ others)) notes
    ≡ map (noted_key texts addresses) notes
longer_notes texts more addresses others [] kept = refl
longer_notes texts more addresses others (note ∷ notes) kept =
    let P : RunKind × ℕ → Type 0 = IsNoted (length texts) (length addresses) in
    ap (λ k. let f : FieldKey = record { field = note.0.field; key = k } in
    f ∷ map (noted_key (texts ++ more) (addresses ++ others)) notes)
    (longer_key texts more addresses
    others note.0.sign note.0.class note.1 (All-head P note notes kept).0)
    ∙ ap (λ fs. noted_key texts addresses note ∷ fs) (longer_notes texts more addresses others notes
    (All-tail P note notes kept))

pub still : (texts more : List (List ℕ)) (addresses others : List Address)
    (notes : List (RunKind × ℕ)) (ts : List (List ℕ)) (as' : List Address) → ts ≡ texts ++ more
    → as' ≡ addresses ++ others → All (IsNoted (length texts) (length addresses)) notes
    → map (noted_key ts as') notes ≡ map (noted_key texts addresses) notes
still texts more addresses others notes ts as' is are kept = ap (λ t. map
    (noted_key t as') notes) is
    ∙ ap (λ a. map (noted_key (texts ++ more) a) notes) are
    ∙ longer_notes texts more addresses others notes kept

pub notes_longer : (n m i j : ℕ) (notes : List (RunKind × ℕ)) → n ≤ i → m ≤ j
    → All (IsNoted n m) notes → All (IsNoted i j) notes
notes_longer n m i j notes up on kept = All-weaker (IsNoted n m) (IsNoted i j)
    (λ note is. (raw_more n m i j note.0.class note.1 up on is.0, is.1)) notes kept
