-- Items and members as they are written, members one by one in the order of their names.
use Rattle.std.proofs.Common.{◌≡◌, ℕ, List, [], ◌∷◌, ◌++◌, Greater, Less, refl, sym, subst, ap, ◌∙◌}
use Rattle.std.proofs.Common.{append_assoc, map}
use Rattle.std.proofs.lemmas.Cmp.{nat_list_cmp_total}
use Rattle.std.specs.List.{AllByRecursion}
use Rattle.std.specs.List.Sorted.{IsStrictlySortedBy}
use Rattle.std.specs.Map.{keys_of}
use Rattle.std.specs.Ordering.{ordering_reverse}
use Rattle.agg_values.specs.Names.{Named, name_cmp}
use Rattle.serde_json.specs.Data.{Data, Items, no_items, item, Members, no_members, member, put}
use Rattle.serde_json.specs.View.{items_of}
use Rattle.agg_request.specs.json_values.Json.{EachIs, EachNamedIs}
use Rattle.agg_request.specs.ReadBack.{IsWritten}
use Rattle.agg_request.specs.WrittenJson.{members_of}

module _ {A : Type 0} (data_of : A → Data) (Says : Data → A → Type 0) where
  -- items that are written of a list are just that
  pub items-written : (items : Items) (xs : List A) → EachIs (IsWritten data_of Says) items xs
      → items ≡ items_of (map data_of xs)
  items-written no_items [] each = refl
  items-written no_items (x ∷ xs) each = absurd each
  items-written (item d items) [] each = absurd each
  items-written (item d items) (x ∷ xs) each =
      rw (each.0.0, items-written items xs each.1) refl

  -- items that are written of a list say it
  pub items-say : (items : Items) (xs : List A) → EachIs (IsWritten data_of Says) items xs
      → EachIs Says items xs
  items-say no_items [] each = tt
  items-say no_items (x ∷ xs) each = absurd each
  items-say (item d items) [] each = absurd each
  items-say (item d items) (x ∷ xs) each = (each.0.1, items-say items xs each.1)

  -- members that are written of a map are just that
  pub members-written : (ms : Members) (xs : Named A) → EachNamedIs (IsWritten data_of Says) ms xs
      → ms ≡ members_of data_of xs
  members-written no_members [] each = refl
  members-written no_members (x ∷ xs) each = absurd each
  members-written (member name d ms) [] each = absurd each
  members-written (member name d ms) (x ∷ xs) each =
      rw (sym each.0, each.1.0, members-written ms xs each.2) refl

  -- members that are written of a map say it
  pub members-say : (ms : Members) (xs : Named A) → EachNamedIs (IsWritten data_of Says) ms xs
      → EachNamedIs Says ms xs
  members-say no_members [] each = tt
  members-say no_members (x ∷ xs) each = absurd each
  members-say (member name d ms) [] each = absurd each
  members-say (member name d ms) (x ∷ xs) each =
      (each.0, each.1.1, members-say ms xs each.2)

-- what is below all names is below the one in the middle
below-middle : {A : Type 0} (first : List ℕ) (done : Named A) (e : List ℕ × A) (later : Named A)
    → AllByRecursion (λ y. name_cmp first y ≡ Less) (keys_of (done ++ e ∷ later))
    → name_cmp first e.0 ≡ Less
below-middle first [] e later h = h.0
below-middle first (x ∷ done) e later h = below-middle first done e later h.1

-- a member whose name is above those before it goes last
put-last : {A : Type 0} (Is : Data → A → Type 0) (ms : Members) (done : Named A)
    (name : List ℕ) (d : Data) (x : A) (later : Named A)
    → IsStrictlySortedBy name_cmp (keys_of (done ++ (name, x) ∷ later))
    → EachNamedIs Is ms done → Is d x
    → EachNamedIs Is (put name d ms) (done ++ (name, x) ∷ [])
unfolding IsStrictlySortedBy
put-last Is no_members [] name d x later sorted h is = (refl, is, tt)
put-last Is no_members (first ∷ done) name d x later sorted h is = absurd h
put-last Is (member other e ms) [] name d x later sorted h is = absurd h
put-last Is (member other e ms) (first ∷ done) name d x later sorted h is =
    let under : name_cmp first.0 name ≡ Less =
    below-middle first.0 done (name, x) later sorted.0 in
    let above : name_cmp name other ≡ Greater =
    ap (name_cmp name) (sym h.0)
    ∙ nat_list_cmp_total.antisymm name first.0 ∙ ap ordering_reverse under in
    rw above (h.0, h.1, put-last Is ms done name d x later sorted.1 h.2 is)

-- the members are those of a list but for those that are left
pub record AreWrittenUpTo {A : Type 0} (Is : Data → A → Type 0) (all left : Named A)
    (ms : Members) : Type 0 where
  pub done : Named A
  pub each : EachNamedIs Is ms done
  pub rest : done ++ left ≡ all
  pub ascends : IsStrictlySortedBy name_cmp (keys_of all)

-- one more is written
pub AreWrittenUpTo-more : {A : Type 0} (Is : Data → A → Type 0) (all left : Named A)
    (ms new : Members) (name : List ℕ) (d : Data) (x : A) (later : Named A)
    → AreWrittenUpTo Is all left ms → left ≡ (name, x) ∷ later → Is d x
    → new ≡ put name d ms → AreWrittenUpTo Is all later new
AreWrittenUpTo-more {A = A} Is all left ms new name d x later h e is written =
    let whole : h.done ++ (name, x) ∷ later ≡ all =
    ap (λ (xs : Named A). h.done ++ xs) (sym e) ∙ h.rest in
    record {
      done = h.done ++ (name, x) ∷ [];
      each = subst (λ ms. EachNamedIs Is ms (h.done ++ (name, x) ∷ [])) (sym written)
          (put-last Is ms h.done name d x later
          (subst (λ (xs : Named A). IsStrictlySortedBy name_cmp (keys_of xs)) (sym whole)
          h.ascends) h.each is);
      rest = append_assoc h.done ((name, x) ∷ []) later ∙ whole;
      ascends = h.ascends;
    }
