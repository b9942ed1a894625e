-- Columns that keep their fields, classes and links.
use Rattle.std.proofs.Common.{◌≡◌, ◌-◌, ◌<◌, ◌≤◌, ℕ, List, length, get_or, set, map, refl, sym, ap}
use Rattle.std.proofs.Common.{◌∙◌, inl, inr, arith, subst}
use Rattle.std.proofs.lemmas.Bool.{cases_eq}
use Rattle.std.proofs.lemmas.List.{get_or-set_same, get_or-set_other, length-set, length-map}
use Rattle.std.proofs.lemmas.List.{get_or-map, get_or_default}
use Rattle.agg_segment.specs.Gatherings.{IsLast, AreLinked, forgotten}
use Rattle.agg_segment.specs.declared.gatherings.Gathering.{Gathering}

-- a column is as another, but for its rows
pub record IsSameColumn (g h : Gathering) : Type 0 where
  pub field : g.field ≡ h.field
  pub class : g.class ≡ h.class
  pub before : g.before ≡ h.before

module _ (olds news : List Gathering) (as_long : length news ≡ length olds)
    (same : (k : ℕ) (g : Gathering) → k < length olds
    → IsSameColumn (get_or news k g) (get_or olds k g)) where
  last_stays : (field head bound : ℕ) → bound ≤ length olds → IsLast olds field head bound
      → IsLast news field head bound
  last_stays field head bound low last = record {
    within = last.within;
    none = λ k g from to is. last.none k g from to
        (sym (same k g (omega (arith, to, low))).field ∙ is);
    is = λ g some. (same (head - 1) g (omega (arith, some, last.within, low))).field
        ∙ last.is g some;
  }

  pub links_stay : (lasts : List ℕ) → AreLinked lasts olds → AreLinked lasts news
  links_stay lasts linked = record {
    heads = λ field. subst (IsLast news field (get_or lasts field 0)) (sym as_long)
        (last_stays field (get_or lasts field 0) (length olds) (omega arith) (linked.heads field));
    nexts = λ k g l.
        let in' : k < length olds = omega (arith, l, as_long) in
        let s = same k g in' in
        subst (λ f. IsLast news f (get_or news k g).before k) (sym s.field)
        (subst (λ b. IsLast news (get_or olds k g).field b k) (sym s.before)
        (last_stays (get_or olds k g).field (get_or olds k g).before k (omega (arith, in'))
        (linked.nexts k g in')));
    apart = λ i j g low l fields classes.
        let in' : j < length olds = omega (arith, l, as_long) in
        let si = same i g (omega (arith, low, in')) in
        let sj = same j g in' in
        linked.apart i j g low in' (sym si.field ∙ fields ∙ sj.field)
        (sym si.class ∙ classes ∙ sj.class);
  }

-- one column is given other rows
pub links_set : (columns : List Gathering) (lasts : List ℕ) (i : ℕ) (x y : Gathering)
    → i < length columns → x ≡ get_or columns i x → IsSameColumn y x → AreLinked lasts columns
    → AreLinked lasts (set columns i y)
links_set columns lasts i x y within is same linked =
    links_stay columns (set columns i y) (length-set columns i y) each lasts linked
  where
    each : (k : ℕ) (g : Gathering) → k < length columns
        → IsSameColumn (get_or (set columns i y) k g) (get_or columns k g)
    each k g l = elim (cases_eq k i) [
      | inl here ↦
          let there : get_or (set columns i y) k g ≡ y =
          ap (λ n. get_or (set columns i y) n g) here ∙ get_or-set_same columns i y g within in
          let was : get_or columns k g ≡ x =
          ap (λ n. get_or columns n g) here ∙ get_or_default columns i g x within ∙ sym is in
          rw (there, was) same
      | inr other ↦ rw (get_or-set_other columns i k y g other)
          (record { field = refl; class = refl; before = refl })
    ]

-- all columns lose rows
pub links_forgotten : (columns : List Gathering) (lasts : List ℕ) (doc : ℕ)
    → AreLinked lasts columns → AreLinked lasts (map (forgotten doc) columns)
links_forgotten columns lasts doc linked =
    links_stay columns (map (forgotten doc) columns) (length-map columns (forgotten doc))
    (λ k g l. rw (get_or-map (forgotten doc) columns k g g l)
    (record { field = refl; class = refl; before = refl })) lasts linked
