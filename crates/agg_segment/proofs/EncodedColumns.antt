-- Numbers that replace those that were gathered, and the keys that they stand for.
use Rattle.std.proofs.Common.{◌≡◌, ◌<◌, ◌^◌, ℕ, zero, suc, List, [], ◌∷◌, ◌++◌, get_or, map}
use Rattle.std.proofs.Common.{true}
use Rattle.std.proofs.Common.{refl, sym, ap, subst, ◌∙◌, arith}
use Rattle.std.specs.Prelude.{nat_lt, flat_map}
use Rattle.std.specs.List.{All, Contains}
use Rattle.std.proofs.lemmas.Bool.Decides.{nat_tests}
use Rattle.std.proofs.lemmas.List.{append-nil, append_assoc, map-append}
use Rattle.std.proofs.lemmas.List.Elements.{All-tail}
use Rattle.std.proofs.lemmas.Grind.{flat_map-append}
use Rattle.agg_values.specs.declared.address.Address.{Address}
use Rattle.agg_values.specs.declared.column.ColumnPaginationOrder.{ColumnPaginationOrder}
use Rattle.agg_values.specs.declared.column.ColumnPaginationOrder.TheVariants as class
use Rattle.agg_values.specs.TypedKey.{CompositeIntermediateKey}
use Rattle.agg_segment.specs.storage.Cells.{Placed}
use Rattle.agg_values.specs.Column.{order_rank}
use Rattle.agg_segment.specs.storage.Columns.{StoredColumn, column_cells, encoded_key, type_of}
use Rattle.agg_segment.specs.storage.Columns.{keys_rank, type_class}
use Rattle.agg_segment.specs.Gatherings.{Raw, raws, column_raws}
use Rattle.agg_segment.specs.storage.GatheredNumbers.{raw_key, keyed_rows, kind_of, IsRaw}
use Rattle.agg_segment.specs.Gatherings.{raw_placed, IsWide, gathering_classes}
use Rattle.agg_segment.specs.Gatherings.{column_classes}
use Rattle.agg_segment.specs.SegmentLimits.{sign_of}
use Rattle.agg_segment.specs.declared.gatherings.Gathering.{Gathering}
use Rattle.agg_segment.specs.declared.storage.hit.ColumnType.TheVariants as kind
use Rattle.agg_segment.specs.declared.storage.keys.ColumnKeys.{ColumnKeys}
use Rattle.agg_segment.specs.declared.storage.keys.ColumnKeys.TheVariants.{Unsigned}
use Rattle.agg_segment.specs.declared.storage.sign.Sign.{Sign}
use Rattle.agg_segment.specs.declared.storage.sign.Sign.TheVariants.{Small, Negative, Large}
use Rattle.agg_segment.proofs.lemmas.storage.Members.{from_map, contains_map}

-- ---- types and signs

pub kind_large : (sign : Sign) (c : ColumnPaginationOrder) → kind_of sign c ≡ kind.U64
    → (sign ≡ Large) × (c ≡ class.Numeric)
kind_large sign class.Bool is = absurd (let f : kind.Bool ≡ kind.U64 = is in cc)
kind_large sign class.Str is = absurd (let f : kind.Str ≡ kind.U64 = is in cc)
kind_large Large class.Numeric is = (refl, refl)
kind_large Small class.Numeric is = absurd (let f : kind.I64 ≡ kind.U64 = is in cc)
kind_large Negative class.Numeric is = absurd (let f : kind.I64 ≡ kind.U64 = is in cc)
kind_large sign class.IpAddr is = absurd (let f : kind.IpAddr ≡ kind.U64 = is in cc)
kind_large sign class.DateTime is = absurd (let f : kind.DateTime ≡ kind.U64 = is in cc)

pub kind_rank : (sign : Sign) (c : ColumnPaginationOrder)
    → order_rank (type_class (kind_of sign c)) ≡ order_rank c
kind_rank sign class.Bool = refl
kind_rank sign class.Str = refl
kind_rank Large class.Numeric = refl
kind_rank Small class.Numeric = refl
kind_rank Negative class.Numeric = refl
kind_rank sign class.IpAddr = refl
kind_rank sign class.DateTime = refl

pub rank_is : (sign : Sign) (c : ColumnPaginationOrder) (keys : ColumnKeys)
    → type_of keys ≡ kind_of sign c → keys_rank keys ≡ order_rank c
rank_is sign c keys is = ap (λ type. order_rank (type_class type)) is ∙ kind_rank sign c

signs_of_rows : (field : ℕ) (keys : ColumnKeys) (rows : List (ℕ × ℕ))
    → map (λ p. sign_of p.key) (column_cells (record { field = field; keys = keys; cells = rows }))
    ≡ map (λ r. sign_of r.1) (keyed_rows (encoded_key keys) rows)
signs_of_rows field keys [] = refl
signs_of_rows field keys (r ∷ rows) = ap (λ s. sign_of (encoded_key keys r.1) ∷ s)
    (signs_of_rows field keys rows)

large_row : (texts : List (List ℕ)) (addresses : List Address) (rows : List (ℕ × ℕ)) (n : ℕ)
    → Contains (map (λ r. r.1) rows) n → n < 2 ^ 63
    → Contains (map (λ r. sign_of r.1) (keyed_rows (raw_key texts addresses kind.U64) rows)) Large
large_row texts addresses rows n has low =
    let (r, in', is) = from_map (λ (s : ℕ × ℕ). s.1) rows n has in
    let f : ℕ × ℕ → ℕ × CompositeIntermediateKey =
    λ s. (s.0, raw_key texts addresses kind.U64 s.1) in
    let below : nat_lt r.1 (2 ^ 63) ≡ true =
    let there : r.1 < 2 ^ 63 = omega (arith, is, low) in grind (arith, nat_tests) in
    let large : sign_of (raw_key texts addresses kind.U64 r.1) ≡ Large = rw below refl in
    subst (Contains (map (λ (s : ℕ × CompositeIntermediateKey). sign_of s.1)
    (keyed_rows (raw_key texts addresses kind.U64) rows))) large
    (contains_map (λ (s : ℕ × CompositeIntermediateKey). sign_of s.1)
    (keyed_rows (raw_key texts addresses kind.U64) rows) (f r) (contains_map f rows r in'))

-- an unsigned column has a number above those of an i64
pub wide_rows : (texts : List (List ℕ)) (addresses : List Address) (sign : Sign) (g : Gathering)
    (field : ℕ) (keys : ColumnKeys) (rows : List (ℕ × ℕ)) → IsWide sign g → keys ≡ Unsigned
    → type_of keys ≡ kind_of sign g.class
    → keyed_rows (encoded_key keys) rows
    ≡ keyed_rows (raw_key texts addresses (kind_of sign g.class)) g.rows
    → Contains (map (λ p. sign_of p.key) (column_cells (record {
      field = field;
      keys = keys;
      cells = rows;
    }))) Large
wide_rows texts addresses sign g field keys rows wide is type same =
    let u64 : kind_of sign g.class ≡ kind.U64 = sym type ∙ ap type_of is in
    let (large, numeric) = kind_large sign g.class u64 in
    let (n, has, low) = wide large numeric in
    subst (λ signs. Contains signs Large) (sym (signs_of_rows field keys rows
    ∙ ap (map (λ (r : ℕ × CompositeIntermediateKey). sign_of r.1)) (same
    ∙ ap (λ k. keyed_rows (raw_key texts addresses k) g.rows) u64)))
    (large_row texts addresses g.rows n has low)

-- ---- a column made of what was gathered

cells_of_rows : (field : ℕ) (keys : ColumnKeys) (rows : List (ℕ × ℕ))
    → column_cells (record { field = field; keys = keys; cells = rows })
    ≡ map (λ r. let p : Placed = record { field = field; doc = r.0; key = r.1 } in p)
    (keyed_rows (encoded_key keys) rows)
cells_of_rows field keys [] = refl
cells_of_rows field keys (r ∷ rows) =
    ap (λ ps. let p : Placed = record {
      field = field;
      doc = r.0;
      key = encoded_key keys r.1;
    } in p ∷ ps) (cells_of_rows field keys rows)

placed_of_rows : (signs : List Sign) (texts : List (List ℕ)) (addresses : List Address)
    (g : Gathering) (rows : List (ℕ × ℕ))
    → map (λ r. let p : Placed = record { field = g.field; doc = r.0; key = r.1 } in p)
    (keyed_rows (raw_key texts addresses (kind_of (get_or signs g.field Small) g.class)) rows)
    ≡ map (raw_placed signs texts addresses) (map (λ r. let t : Raw = record {
      field = g.field;
      class = g.class;
      doc = r.0;
      number = r.1;
    } in t) rows)
placed_of_rows signs texts addresses g [] = refl
placed_of_rows signs texts addresses g (r ∷ rows) =
    ap (λ ps. let p : Placed = record {
      field = g.field;
      doc = r.0;
      key = raw_key texts addresses (kind_of (get_or signs g.field Small) g.class) r.1;
    } in p ∷ ps) (placed_of_rows signs texts addresses g rows)

pub column_is : (signs : List Sign) (texts : List (List ℕ)) (addresses : List Address)
    (sign : Sign) (g : Gathering) (column : StoredColumn)
    → sign ≡ get_or signs g.field Small → column.field ≡ g.field
    → keyed_rows (encoded_key column.keys) column.cells
    ≡ keyed_rows (raw_key texts addresses (kind_of sign g.class)) g.rows
    → column_cells column ≡ map (raw_placed signs texts addresses) (column_raws g)
column_is signs texts addresses sign g column at field same =
    cells_of_rows column.field column.keys column.cells
    ∙ ap (map (λ (r : ℕ × CompositeIntermediateKey). let p : Placed = record {
      field = column.field;
      doc = r.0;
      key = r.1;
    } in p)) (same
    ∙ ap (λ s. keyed_rows (raw_key texts addresses (kind_of s g.class)) g.rows) at)
    ∙ ap (λ f. map (λ (r : ℕ × CompositeIntermediateKey). let p : Placed = record {
      field = f;
      doc = r.0;
      key = r.1;
    } in p) (keyed_rows (raw_key texts addresses (kind_of (get_or signs g.field Small) g.class))
    g.rows)) field
    ∙ placed_of_rows signs texts addresses g g.rows

-- the last of what was gathered becomes the first of the columns
pub next_cells : (signs : List Sign) (texts : List (List ℕ)) (addresses : List Address)
    (rest : List Gathering) (g : Gathering) (column : StoredColumn) (done : List StoredColumn)
    (all : List Placed)
    → column_cells column ≡ map (raw_placed signs texts addresses) (column_raws g)
    → map (raw_placed signs texts addresses) (raws (rest ++ g ∷ []))
    ++ flat_map column_cells done ≡ all
    → map (raw_placed signs texts addresses) (raws rest)
    ++ flat_map column_cells (column ∷ done) ≡ all
next_cells signs texts addresses rest g column done all one so_far =
    let read : Raw → Placed = raw_placed signs texts addresses in
    ap (λ ps. map read (raws rest) ++ (ps ++ flat_map column_cells done)) one
    ∙ sym (append_assoc (map read (raws rest)) (map read (column_raws g))
    (flat_map column_cells done))
    ∙ ap (λ ps. ps ++ flat_map column_cells done) (sym (map-append read (raws rest)
    (column_raws g)))
    ∙ ap (λ rs. map read (raws rest ++ rs) ++ flat_map column_cells done)
    (sym (append-nil (column_raws g)))
    ∙ ap (λ rs. map read rs ++ flat_map column_cells done)
    (sym (flat_map-append column_raws rest (g ∷ [])))
    ∙ so_far

pub next_classes : (rest : List Gathering) (g : Gathering) (column : StoredColumn)
    (done : List StoredColumn) (all : List (ℕ × ℕ)) → column.field ≡ g.field
    → keys_rank column.keys ≡ order_rank g.class
    → gathering_classes (rest ++ g ∷ []) ++ column_classes done ≡ all
    → gathering_classes rest ++ column_classes (column ∷ done) ≡ all
next_classes rest g column done all field rank so_far =
    let class_of : Gathering → ℕ × ℕ = λ h. (h.field, order_rank h.class) in
    ap (λ f. let p : ℕ × ℕ = (f, keys_rank column.keys) in
    gathering_classes rest ++ (p ∷ column_classes done)) field
    ∙ ap (λ r. let p : ℕ × ℕ = (g.field, r) in
    gathering_classes rest ++ (p ∷ column_classes done)) rank
    ∙ sym (append_assoc (gathering_classes rest) (class_of g ∷ []) (column_classes done))
    ∙ ap (λ ps. ps ++ column_classes done) (sym (map-append class_of rest (g ∷ [])))
    ∙ so_far

-- ---- all but the last

pub all_rest : {X : Type 0} (P : X → Type 0) (xs : List X) (x : X) → All P (xs ++ x ∷ [])
    → All P xs
all_rest P [] x all k d l = absurd (omega (arith, l))
all_rest P (y ∷ xs) x all zero d l = all 0 d (omega arith)
all_rest P (y ∷ xs) x all (suc k) d l =
    all_rest P xs x (All-tail P y (xs ++ x ∷ []) all) k d (omega (arith, l))

pub all_last : {X : Type 0} (P : X → Type 0) (xs : List X) (x : X) → All P (xs ++ x ∷ []) → P x
all_last P [] x all = all 0 x (omega arith)
all_last P (y ∷ xs) x all = all_last P xs x (All-tail P y (xs ++ x ∷ []) all)

pub front_all : {X : Type 0} (P : X → Type 0) (xs ys : List X) → All P (xs ++ ys) → All P xs
front_all P [] ys all k d l = absurd (omega (arith, l))
front_all P (x ∷ xs) ys all zero d l = all 0 d (omega arith)
front_all P (x ∷ xs) ys all (suc k) d l =
    front_all P xs ys (All-tail P x (xs ++ ys) all) k d (omega (arith, l))

pub back_all : {X : Type 0} (P : X → Type 0) (xs ys : List X) → All P (xs ++ ys) → All P ys
back_all P [] ys all = all
back_all P (x ∷ xs) ys all = back_all P xs ys (All-tail P x (xs ++ ys) all)

raws_split : (rest : List Gathering) (g : Gathering)
    → raws (rest ++ g ∷ []) ≡ raws rest ++ column_raws g
raws_split rest g = flat_map-append column_raws rest (g ∷ [])
    ∙ ap (λ rs. raws rest ++ rs) (append-nil (column_raws g))

pub kept_rest : (texts addresses : ℕ) (rest : List Gathering) (g : Gathering)
    → All (λ r. IsRaw texts addresses r.class r.number) (raws (rest ++ g ∷ []))
    → All (λ r. IsRaw texts addresses r.class r.number) (raws rest)
kept_rest texts addresses rest g all =
    let P : Raw → Type 0 = λ r. IsRaw texts addresses r.class r.number in
    front_all P (raws rest) (column_raws g) (subst (All P) (raws_split rest g) all)

pub kept_last : (texts addresses : ℕ) (rest : List Gathering) (g : Gathering)
    → All (λ r. IsRaw texts addresses r.class r.number) (raws (rest ++ g ∷ []))
    → All (λ s. IsRaw texts addresses g.class s.1) g.rows
kept_last texts addresses rest g all =
    let P : Raw → Type 0 = λ r. IsRaw texts addresses r.class r.number in
    of_rows g.rows (back_all P (raws rest) (column_raws g) (subst (All P) (raws_split rest g) all))
  where
    of_rows : (rows : List (ℕ × ℕ)) → All (λ (r : Raw). IsRaw texts addresses r.class r.number)
        (map (λ s. let t : Raw = record {
          field = g.field;
          class = g.class;
          doc = s.0;
          number = s.1;
        } in t) rows) → All (λ s. IsRaw texts addresses g.class s.1) rows
    of_rows [] all k d l = absurd (omega (arith, l))
    of_rows (s ∷ rows) all zero d l = all 0 (record {
      field = 0;
      class = g.class;
      doc = 0;
      number = 0;
    }) (omega arith)
    of_rows (s ∷ rows) all (suc k) d l = of_rows rows (λ j e in'. all (suc j) e
        (omega (arith, in'))) k d (omega (arith, l))
