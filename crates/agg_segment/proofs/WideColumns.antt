-- A column of numbers above those of an i64 has one.
use Rattle.std.proofs.Common.{◌≡◌, ◌<◌, ◌^◌, ℕ, List, length}
use Rattle.std.proofs.Common.{get_or, map}
use Rattle.std.proofs.Common.{true, false, refl, sym, ap, subst, ◌∙◌, inl, inr, arith}
use Rattle.std.specs.Prelude.{Bool, nat_lt, cond}
use Rattle.std.specs.List.{Contains}
use Rattle.std.proofs.lemmas.Bool.{cases_Bool, cases_eq, cases_lt}
use Rattle.std.proofs.lemmas.Bool.Decides.{nat_tests}
use Rattle.std.proofs.lemmas.List.{get_or_default, get_or_past}
use Rattle.agg_values.specs.declared.address.Address.{Address}
use Rattle.agg_values.specs.declared.column.ColumnPaginationOrder.{ColumnPaginationOrder}
use Rattle.agg_values.specs.declared.column.ColumnPaginationOrder.TheVariants as class
use Rattle.agg_segment.specs.storage.Cells.{Placed}
use Rattle.agg_segment.specs.Gatherings.{Raw, raws, column_raws, raw_placed}
use Rattle.agg_segment.specs.storage.GatheredNumbers.{raw_key, kind_of}
use Rattle.agg_segment.specs.Gatherings.{AreLinked, AreWide}
use Rattle.agg_segment.specs.storage.Signs.{key_mark, AreSigns}
use Rattle.agg_segment.specs.SegmentLimits.{sign_of}
use Rattle.agg_segment.specs.declared.gatherings.Gathering.{Gathering}
use Rattle.agg_segment.specs.declared.storage.sign.Sign.{Sign}
use Rattle.agg_segment.specs.declared.storage.sign.Sign.TheVariants.{Small, Negative, Large}
use Rattle.agg_segment.proofs.lemmas.storage.Members.{from_map, from_flat, contains_map}

no_large : (b : Bool) → cond b Negative Small ≡ Large → ⊥
no_large true is = cc
no_large false is = cc

large_raw : (texts : List (List ℕ)) (addresses : List Address) (sign : Sign)
    (c : ColumnPaginationOrder) (n : ℕ)
    → sign_of (raw_key texts addresses (kind_of sign c) n) ≡ Large
    → (c ≡ class.Numeric) × (n < 2 ^ 63)
large_raw texts addresses sign class.Bool n is = absurd (let f : Small ≡ Large = is in cc)
large_raw texts addresses sign class.Str n is = absurd (let f : Small ≡ Large = is in cc)
large_raw texts addresses Large class.Numeric n is = elim (cases_Bool (nat_lt n (2 ^ 63))) [
  | inl low ↦ (refl, grind (arith, nat_tests))
  | inr high ↦ absurd (no_large _ (rw high at is))
]
large_raw texts addresses Small class.Numeric n is =
    absurd (no_large _ is)
large_raw texts addresses Negative class.Numeric n is =
    absurd (no_large _ is)
large_raw texts addresses sign class.IpAddr n is = absurd (let f : Small ≡ Large = is in cc)
large_raw texts addresses sign class.DateTime n is = absurd (let f : Small ≡ Large = is in cc)

-- a column of a field and a class is the only one
only_column : (columns : List Gathering) (lasts : List ℕ) → AreLinked lasts columns
    → (j k : ℕ) (d h : Gathering) → j < length columns → k < length columns
    → get_or columns j h ≡ h → h.field ≡ (get_or columns k d).field
    → h.class ≡ (get_or columns k d).class → h ≡ get_or columns k d
only_column columns lasts linked j k d h lj lk at fields classes =
    let there : get_or columns j d ≡ h = get_or_default columns j d h lj ∙ at in
    elim (cases_eq j k) [
      | inl same ↦ sym there ∙ ap (λ n. get_or columns n d) same
      | inr other ↦ absurd (elim (cases_lt j k) [
        | inl low ↦ linked.apart j k d low lk (ap (λ (g : Gathering). g.field) there ∙ fields)
            (ap (λ (g : Gathering). g.class) there ∙ classes)
        | inr up ↦ linked.apart k j d (omega (arith, up, other)) lj
            (sym (ap (λ (g : Gathering). g.field) there ∙ fields))
            (sym (ap (λ (g : Gathering). g.class) there ∙ classes))
      ])
    ]

pub wide_columns : (signs : List Sign) (texts : List (List ℕ)) (addresses : List Address)
    (columns : List Gathering) (lasts : List ℕ) → AreLinked lasts columns
    → AreSigns signs (map key_mark (map (raw_placed signs texts addresses) (raws columns)))
    → AreWide signs columns
wide_columns signs texts addresses columns lasts linked are k d l large numeric =
    elim (cases_lt (get_or columns k d).field (length signs)) [
      | inl known ↦
          let f = (get_or columns k d).field in
          let (p, in_p, mark) = from_map key_mark (map (raw_placed signs texts addresses)
          (raws columns)) (f, get_or signs f Small)
          (are.1 f known (λ small. let both : Large ≡ Small = sym large ∙ small in cc)) in
          let (r, in_r, read) = from_map (raw_placed signs texts addresses) (raws columns) p in_p in
          let is_large : sign_of (raw_key texts addresses
          (kind_of (get_or signs r.field Small) r.class) r.number) ≡ Large =
          ap (λ (q : Placed). sign_of q.key) read ∙ ap (λ (m : ℕ × Sign). m.1) mark ∙ large in
          let (is_number, low) = large_raw texts addresses (get_or signs r.field Small) r.class
          r.number is_large in
          let (h, in_h, in_rows) = from_flat column_raws columns r in_r in
          let (j, lj, at) = in_h in
          let mk : ℕ × ℕ → Raw =
          λ s. record { field = h.field; class = h.class; doc = s.0; number = s.1 } in
          let (s, in_s, is) = from_map mk h.rows r in_rows in
          let fields : h.field ≡ f = ap (λ (q : Raw). q.field) is
          ∙ ap (λ (q : Placed). q.field) read ∙ ap (λ (m : ℕ × Sign). m.0) mark in
          let classes : h.class ≡ (get_or columns k d).class = ap (λ (q : Raw). q.class) is
          ∙ is_number ∙ sym numeric in
          let number : s.1 ≡ r.number = ap (λ (q : Raw). q.number) is in
          let same : h ≡ get_or columns k d =
          only_column columns lasts linked j k d h lj l at fields classes in (
            s.1,
            subst (λ (g : Gathering). Contains (map (λ (t : ℕ × ℕ). t.1) g.rows) s.1) same
                (contains_map (λ (t : ℕ × ℕ). t.1) h.rows s in_s),
            omega (arith, number, low),
          )
      | inr past ↦
          let both : Small ≡ Large =
          sym (get_or_past signs (get_or columns k d).field Small past) ∙ large in
          cc
    ]
