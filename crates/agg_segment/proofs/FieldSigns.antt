-- Signs of fields, given and taken away.
use Rattle.std.proofs.Common.{◌≡◌, ◌≢◌, ◌+◌, ◌<◌, ℕ, List, [], ◌∷◌, ◌++◌, length}
use Rattle.std.proofs.Common.{get_or, set, take, drop, map, refl, sym, ap}
use Rattle.std.proofs.Common.{subst, ◌∙◌, inl, inr, arith}
use Rattle.std.specs.Prelude.{◌⊎◌}
use Rattle.std.specs.List.{Contains}
use Rattle.std.proofs.lemmas.Bool.{cases_eq}
use Rattle.std.proofs.lemmas.List.{length-set, get_or-set_same, get_or-set_other, append_assoc}
use Rattle.std.proofs.lemmas.List.{set-set, set-get_or, get_or_default}
use Rattle.std.proofs.lemmas.List.{map_more, map-append, take-append-drop}
use Rattle.std.proofs.lemmas.List.Elements.{All-push, All-weaker, Contains-append_left}
use Rattle.std.proofs.lemmas.List.Elements.{Contains-push, All-contains}
use Rattle.agg_segment.specs.storage.Cells.{Placed}
use Rattle.agg_segment.specs.storage.Signs.{run_mark, key_mark, IsFieldSign, AreSigns, HasBoth}
use Rattle.agg_segment.specs.storage.Signs.{without_signs}
use Rattle.agg_segment.specs.declared.storage.run.Run.{Run}
use Rattle.agg_segment.specs.declared.storage.sign.Sign.{Sign}
use Rattle.agg_segment.specs.declared.storage.sign.Sign.TheVariants.{Small, Negative, Large}

set_small : (fields : List ℕ) (field : ℕ) (signs : List Sign)
    → without_signs (fields ++ field ∷ []) signs ≡ without_signs fields (set signs field Small)
set_small [] field signs = refl
set_small (f ∷ fields) field signs = ap (λ s. set s f Small) (set_small fields field signs)

pub taken_last : (fields : List ℕ) (field : ℕ) (signs : List Sign)
    → without_signs fields (set signs field Small) ≡ without_signs (fields ++ field ∷ []) signs
taken_last fields field signs = sym (set_small fields field signs)

-- a sign that is given may be taken away again
pub given_back : (fields : List ℕ) (field : ℕ) (sign : Sign) (signs : List Sign)
    → field < length signs → get_or signs field Small ≡ Small
    → without_signs (fields ++ field ∷ []) (set signs field sign) ≡ without_signs fields signs
given_back fields field sign signs l small = set_small fields field (set signs field sign)
    ∙ ap (without_signs fields) (set-set signs field sign Small ∙ ap (λ s. set signs field s)
    (sym small) ∙ set-get_or signs field Small)

-- a field gets a sign
pub sign_given : (signs : List Sign) (marks : List (ℕ × Sign)) (field : ℕ) (sign : Sign)
    → field < length signs → get_or signs field Small ≡ Small → AreSigns signs marks
    → AreSigns (set signs field sign) (marks ++ (field, sign) ∷ [])
sign_given signs marks field sign l small are = (
  All-push (IsFieldSign (set signs field sign)) marks (field, sign)
      (All-weaker (IsFieldSign signs) (IsFieldSign (set signs field sign)) (λ m is says.
      elim (cases_eq m.0 field) [
        | inl same ↦ let here : Small ≡ m.1 = sym small ∙ ap (λ f. get_or signs f Small) (sym same)
            ∙ is says in absurd (says (sym here))
        | inr other ↦ get_or-set_other signs field m.0 sign Small other ∙ is says
      ]) marks are.0)
      (λ says. get_or-set_same signs field sign Small l),
  λ f within says. by_field f within says (cases_eq f field),
)
  where
    by_field : (f : ℕ) → f < length (set signs field sign)
        → get_or (set signs field sign) f Small ≢ Small → (f ≡ field) ⊎ (f ≢ field)
        → Contains (marks ++ (field, sign) ∷ []) (f, get_or (set signs field sign) f Small)
    by_field f within says (inl same) =
        let is : get_or (set signs field sign) f Small ≡ sign =
        ap (λ g. get_or (set signs field sign) g Small) same ∙ get_or-set_same signs field sign
        Small l in
        subst (Contains (marks ++ (field, sign) ∷ [])) (ap (λ s. (field, s)) (sym is)
        ∙ ap (λ g. (g, get_or (set signs field sign) f Small)) (sym same)) (Contains-push marks
        (field, sign))
    by_field f within says (inr other) =
        let is : get_or (set signs field sign) f Small ≡ get_or signs f Small =
        get_or-set_other signs field f sign Small other in
        let low : f < length signs = omega (arith, within, length-set signs field sign) in
        subst (Contains (marks ++ (field, sign) ∷ [])) (ap (λ s. (f, s)) (sym is))
        (Contains-append_left marks ((field, sign) ∷ []) (f, get_or signs f Small)
        (are.1 f low (λ small. says (is ∙ small))))

-- a number that says nothing new
pub sign_stays : (signs : List Sign) (marks : List (ℕ × Sign)) (field : ℕ) (sign : Sign)
    → (sign ≡ Small) ⊎ (get_or signs field Small ≡ sign) → AreSigns signs marks
    → AreSigns signs (marks ++ (field, sign) ∷ [])
sign_stays signs marks field sign either are = (
  All-push (IsFieldSign signs) marks (field, sign) are.0 (λ says. elim either [
    | inl small ↦ absurd (says small)
    | inr is ↦ is
  ]),
  λ f within says. Contains-append_left marks ((field, sign) ∷ []) (f, get_or signs f Small)
      (are.1 f within says),
)

-- two signs that differ
pub signs_clash : (signs : List Sign) (marks : List (ℕ × Sign)) (field : ℕ) (sign : Sign)
    → field < length signs → sign ≢ Small → get_or signs field Small ≢ Small
    → sign ≢ get_or signs field Small → AreSigns signs marks → HasBoth (marks ++ (field, sign) ∷ [])
signs_clash signs marks field sign l says known apart are =
    by_signs sign (get_or signs field Small) says known apart (Contains-push marks (field, sign))
    (Contains-append_left marks ((field, sign) ∷ []) (field, get_or signs field Small)
    (are.1 field l known))
  where
    by_signs : (s t : Sign) → s ≢ Small → t ≢ Small → s ≢ t
        → Contains (marks ++ (field, sign) ∷ []) (field, s)
        → Contains (marks ++ (field, sign) ∷ []) (field, t) → HasBoth (marks ++ (field, sign) ∷ [])
    by_signs Small t a b c has other = absurd (a refl)
    by_signs Negative Small a b c has other = absurd (b refl)
    by_signs Negative Negative a b c has other = absurd (c refl)
    by_signs Negative Large a b c has other = (field, has, other)
    by_signs Large Small a b c has other = absurd (b refl)
    by_signs Large Negative a b c has other = (field, other, has)
    by_signs Large Large a b c has other = absurd (c refl)

-- with more numbers both signs are still there
pub both_more : (marks more : List (ℕ × Sign)) → HasBoth marks → HasBoth (marks ++ more)
both_more marks more (field, low, high) = (
  field,
  Contains-append_left marks more (field, Negative)
      low,
  Contains-append_left marks more (field, Large) high,
)

-- marks that are all in others, and the other way round
pub moved_marks : (marks others : List (ℕ × Sign))
    → ((m : ℕ × Sign) → Contains marks m → Contains others m)
    → ((m : ℕ × Sign) → Contains others m → Contains marks m)
    → (signs : List Sign) → AreSigns signs marks → AreSigns signs others
moved_marks marks others there back signs are = (
  λ k d l.
      let m : ℕ × Sign = get_or others k d in
      All-contains (IsFieldSign signs) marks m are.0
      (back m (k, l, get_or_default others k m d l)),
  λ field within says. there (field, get_or signs field Small) (are.1 field within says),
)

-- ---- the runs of numbers, one by one

pub marks_next : (before : List (ℕ × Sign)) (runs : List Run) (i : ℕ) (d : Run)
    → i < length runs → (before ++ map run_mark (take i runs)) ++ run_mark (get_or runs i d)
    ∷ [] ≡ before ++ map run_mark (take (i + 1) runs)
marks_next before runs i d l = append_assoc before (map run_mark (take i runs))
    (run_mark (get_or runs i d) ∷ []) ∙ ap (λ ms. before ++ ms)
    (sym (map_more run_mark runs i d l))

pub marks_all : (before : List (ℕ × Sign)) (runs : List Run) (i : ℕ)
    → (before ++ map run_mark (take i runs)) ++ map run_mark (drop i runs)
    ≡ before ++ map run_mark runs
marks_all before runs i =
    append_assoc before (map run_mark (take i runs)) (map run_mark (drop i runs))
    ∙ ap (λ ms. before ++ ms) (sym (map-append run_mark (take i runs) (drop i runs))
    ∙ ap (map run_mark) (take-append-drop i runs))

pub marks_joined : (ps : List Placed) (n : ℕ) → map key_mark (take n ps) ++ map key_mark (drop n ps)
    ≡ map key_mark ps
marks_joined ps n = sym (map-append key_mark (take n ps) (drop n ps))
    ∙ ap (map key_mark) (take-append-drop n ps)
