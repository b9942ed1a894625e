-- Maps by name, whose names ascend.
use Rattle.std.proofs.Common.{◌≡◌, ◌≢◌, ℕ, List, [], ◌∷◌, ◌++◌, true, false}
use Rattle.std.proofs.Common.{Some, refl, sym, ap, ◌∙◌, ◌⊎◌, inl, inr, cond}
use Rattle.std.proofs.Common.{Less, Greater}
use Rattle.std.specs.BTreeMap.{is_at}
use Rattle.std.specs.List.{AllByRecursion}
use Rattle.std.specs.List.Sorted.{IsStrictlySortedBy}
use Rattle.std.specs.Map.{keys_of}
use Rattle.std.specs.Ordering.{ordering_reverse}
use Rattle.std.proofs.lemmas.Bool.{cases_Bool}
use Rattle.std.proofs.lemmas.Cmp.{eq_by_cmp_equiv, nat_list_cmp_total}
use Rattle.std.proofs.lemmas.Map.{lookup-none}
use Rattle.std.proofs.lemmas.Map.Entries.{lookup_head, lookup_tail, none_past_head}
use Rattle.std.proofs.lemmas.Map.Keys.{IsDistinct-from_sorted, sorted_head, sorted_tail}
use Rattle.std.proofs.lemmas.Map.Text.{is_eq-slice_cmp}
use Rattle.std.proofs.lemmas.Slice.Eq.{bytes_eq-Decides}
use Rattle.agg_values.specs.Names.{Named, name_cmp, put, value_of, without}

-- the names ascend
abbrev pub Ascends : {T : Type 0} → Named T → Type 0
Ascends entries = IsStrictlySortedBy name_cmp (keys_of entries)

-- ---- names

-- names that are told to be one are one
same_name : (name other : List ℕ) → is_at (name_cmp name) other ≡ true → name ≡ other
same_name name other is =
    (bytes_eq-Decides name other).0 (sym (is_eq-slice_cmp name other) ∙ is)

itself : (name : List ℕ) → is_at (name_cmp name) name ≡ true
itself name = is_eq-slice_cmp name name ∙ (bytes_eq-Decides name name).1 refl

-- a name above another differs from it
pub apart : (name other : List ℕ) → name_cmp name other ≡ Less → name ≢ other
apart name other below same =
    let is = itself name in
    let below_itself : name_cmp name name ≡ Less = ap (name_cmp name) same ∙ below in
    cc

-- where one of two names is, the other isn't
elsewhere : (name other here : List ℕ) → other ≢ name → other ≡ here
    → is_at (name_cmp name) here ≡ false
elsewhere name other here differs same = elim (cases_Bool (is_at (name_cmp name) here)) [
  | inl is ↦ absurd (differs (same ∙ sym (same_name name here is)))
  | inr isnt ↦ isnt
]

module _ {T : Type 0} where
  -- ---- the value of a name

  pub value-first : (name : List ℕ) (value : T) (later : Named T)
      → value_of name ((name, value) ∷ later) ≡ Some value
  value-first name value later =
      lookup_head (is_at (name_cmp name)) (name, value) later (itself name)

  -- what a later entry has under a name
  pub value-later : (name : List ℕ) (e : List ℕ × T) (later : Named T) (value : T)
      → Ascends (e ∷ later)
      → value_of name later ≡ Some value → value_of name (e ∷ later) ≡ Some value
  value-later name e later value ascends found = elim (cases_Bool (is_at (name_cmp name) e.0)) [
    | inl is ↦
        let none = lookup-none (is_at (name_cmp name)) later
        (none_past_head (eq_by_cmp_equiv nat_list_cmp_total) name e later
        (IsDistinct-from_sorted name_cmp (keys_of (e ∷ later)) ascends) is) in
        cc
    | inr isnt ↦ lookup_tail (is_at (name_cmp name)) e later isnt ∙ found
  ]

  -- a name has the first entry's value, or a later one's
  pub value-cases : (name : List ℕ) (e : List ℕ × T) (later : Named T) (value : T)
      → value_of name (e ∷ later) ≡ Some value
      → ((name ≡ e.0) × (e.1 ≡ value)) ⊎ (value_of name later ≡ Some value)
  value-cases name e later value found = elim (cases_Bool (is_at (name_cmp name) e.0)) [
    | inl is ↦
        let first = lookup_head (is_at (name_cmp name)) e later is in
        inl (same_name name e.0 is, cc)
    | inr isnt ↦ inr (sym (lookup_tail (is_at (name_cmp name)) e later isnt) ∙ found)
  ]

  -- taking a name out leaves the value of another
  pub value-without : (name other : List ℕ) (entries : Named T) → other ≢ name
      → value_of name (without other entries) ≡ value_of name entries
  value-without name other [] differs = refl
  value-without name other (e ∷ later) differs =
      let rest = value-without name other later differs in
      elim (cases_Bool (is_at (name_cmp other) e.0)) [
        | inl is ↦
            let isnt = elsewhere name other e.0 differs (same_name other e.0 is) in
            rw is (sym (lookup_tail (is_at (name_cmp name)) e later isnt))
        | inr isnt ↦ rw isnt (ap (cond (is_at (name_cmp name) e.0) (Some e.1)) rest)
      ]

  -- ---- a name after all others

  -- what holds of each name holds of one that stands between two parts
  pub between : (P : List ℕ → Type 0) (before : Named T) (name : List ℕ) (value : T)
      (later : Named T)
      → AllByRecursion P (keys_of (before ++ (name, value) ∷ later)) → P name
  between P [] name value later all = all.0
  between P (e ∷ before) name value later all = between P before name value later all.1

  -- a name above all others goes to the end
  pub put-last : (before : Named T) (name : List ℕ) (value : T) (later : Named T)
      → Ascends (before ++ (name, value) ∷ later)
      → put name value before ≡ before ++ (name, value) ∷ []
  put-last [] name value later ascends = refl
  put-last (e ∷ before) name value later ascends =
      let all = before ++ (name, value) ∷ later in
      let below : name_cmp e.0 name ≡ Less =
      between (λ n. name_cmp e.0 n ≡ Less) before name value later
      (sorted_head name_cmp e.0 (keys_of all) ascends) in
      let above : name_cmp name e.0 ≡ Greater =
      nat_list_cmp_total.antisymm name e.0 ∙ ap ordering_reverse below in
      rw above (ap (λ es. e ∷ es) (put-last before name value later
      (sorted_tail name_cmp e.0 (keys_of all) ascends)))
