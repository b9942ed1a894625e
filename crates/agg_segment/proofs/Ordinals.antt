-- Texts at places that ascend by their text, and the ordinals of the places.
use Rattle.std.proofs.Common.{◌≡◌, ◌+◌, ◌-◌, ◌<◌, ℕ, List, [], ◌∷◌, ◌++◌, length, get_or}
use Rattle.std.proofs.Common.{refl, sym, ap, subst, ◌∙◌, inl, inr, arith, Ordering, Less, Equal}
use Rattle.std.proofs.Common.{Greater, false, length-append}
use mathlib.Core.Bool.{true≢false}
use Rattle.std.specs.Prelude.{◌≢◌, set}
use Rattle.std.specs.List.Sorted.{IsStrictlySortedBy, IsSortedBy}
use Rattle.std.specs.Ordering.{ordering_reverse, is_lt}
use Rattle.std.proofs.lemmas.Bool.{cases_eq, cases_lt}
use Rattle.std.proofs.lemmas.Cmp.{nat_list_cmp_total}
use Rattle.std.proofs.lemmas.List.{get_or_append_left, get_or_push, get_or-set_same}
use Rattle.std.proofs.lemmas.List.{get_or-set_other, length-set}
use Rattle.std.proofs.lemmas.Map.Keys.{Less-from_sorted, sorted_from_all_adjacent}
use Rattle.std.proofs.lemmas.Map.Lookups.{exact_bytes}
use Rattle.agg_values.specs.Names.{name_cmp}
use Rattle.agg_segment.specs.storage.Dictionary.{text_at, last_text, HasOrdinal}

-- ---- one more text

above_last : (text last : List ℕ) (o : Ordering) → name_cmp last text ≡ o
    → name_cmp text last ≢ Less → (last ≡ text → ⊥) → o ≡ Less
above_last text last Less is after other = refl
above_last text last Equal is after other = absurd (other (exact_bytes last text is))
above_last text last Greater is after other =
    absurd (after (nat_list_cmp_total.antisymm text last ∙ ap ordering_reverse is))

-- a text that isn't below the last, and isn't the last
pub pushed_ascends : (found : List (List ℕ)) (text : List ℕ) → IsStrictlySortedBy name_cmp found
    → (0 < length found → name_cmp text (last_text found) ≢ Less)
    → (0 < length found → last_text found ≡ text → ⊥)
    → IsStrictlySortedBy name_cmp (found ++ text ∷ [])
pushed_ascends found text sorted after other =
    sorted_from_all_adjacent nat_list_cmp_total (found ++ text ∷ []) [] (λ k l.
    elim (cases_lt (k + 1) (length found)) [
      | inl below ↦ rw (
        get_or_append_left found (text ∷ []) [] k (omega (arith, below)),
        get_or_append_left found (text ∷ []) [] (k + 1) below,
      ) (Less-from_sorted name_cmp found k (k + 1) [] sorted (omega arith) below)
      | inr above ↦
          let long : length (found ++ text ∷ []) ≡ length found + 1 =
          length-append found (text ∷ []) in
          let end : length found ≡ k + 1 = omega (arith, above, l, long) in
          let here : k ≡ length found - 1 = omega (arith, end) in
          let some : 0 < length found = omega (arith, end) in
          rw (
            get_or_append_left found (text ∷ []) [] k (omega (arith, end)),
            get_or_push found text [] (k + 1) end,
            here,
          ) (above_last text (last_text found) (name_cmp (last_text found) text) refl
          (after some) (other some))
    ])

pub pushed_last : (found : List (List ℕ)) (text : List ℕ)
    → last_text (found ++ text ∷ []) ≡ text
pushed_last found text =
    get_or_push found text [] (length (found ++ text ∷ []) - 1)
    (omega (arith, length-append found (text ∷ [])))

-- ---- places

-- what is true after some places: each has its text's ordinal, and the last text is the last
-- place's
pub record AreNumbered (texts : List (List ℕ)) (places : List ℕ) (at : ℕ) (ordinals : List ℕ)
    (found : List (List ℕ)) : Type 0 where
  pub each : length ordinals ≡ length texts
  pub ascending : IsStrictlySortedBy name_cmp found
  pub numbered : (k : ℕ) → k < at → HasOrdinal texts found ordinals (get_or places k 0)
  pub last : 0 < length found
      → (0 < at) × (last_text found ≡ text_at texts (get_or places (at - 1) 0))

pub none_numbered : (texts : List (List ℕ)) (places ordinals : List ℕ)
    → length ordinals ≡ length texts → AreNumbered texts places 0 ordinals []
none_numbered texts places ordinals each = record {
  each = each;
  ascending = sorted_from_all_adjacent nat_list_cmp_total [] [] (λ k l. absurd (omega arith));
  numbered = λ k l. absurd (omega arith);
  last = λ l. absurd (omega arith);
}

module _ (texts : List (List ℕ)) (places : List ℕ) (at : ℕ) (ordinals : List ℕ)
    (found : List (List ℕ)) (so_far : AreNumbered texts places at ordinals found) where
  -- the next text isn't below the last
  pub next_after : IsSortedBy (λ a b. is_lt (name_cmp (text_at texts a) (text_at texts b))) places
      → at < length places → 0 < length found
      → name_cmp (text_at texts (get_or places at 0)) (last_text found) ≢ Less
  next_after sorted within some below =
      let (more, same) = so_far.last some in
      let next : (at - 1) + 1 ≡ at = omega (arith, more) in
      let text : List ℕ = text_at texts (get_or places at 0) in
      let before : List ℕ = text_at texts (get_or places (at - 1) 0) in
      let less : name_cmp text before ≡ Less = subst (λ t. name_cmp text t ≡ Less) same below in
      let not_less : is_lt (name_cmp text before) ≡ false =
      subst (λ k. is_lt (name_cmp (text_at texts (get_or places k 0)) before) ≡ false) next
      (sorted (at - 1) 0 (omega arith) (omega (arith, more, within))) in
      true≢false (ap is_lt (sym less) ∙ not_less)

  -- one more place
  pub next_numbered : (place : ℕ) (more grown : List (List ℕ)) → get_or places at 0 ≡ place
      → place < length texts → grown ≡ found ++ more → IsStrictlySortedBy name_cmp grown
      → 0 < length grown → last_text grown ≡ text_at texts place
      → AreNumbered texts places (at + 1) (set ordinals place (length grown - 1)) grown
  next_numbered place more grown is within joined sorted some last = record {
    each = length-set ordinals place (length grown - 1) ∙ so_far.each;
    ascending = sorted;
    numbered = numbered;
    last = λ l. (
      omega arith,
      last ∙ ap (text_at texts) (sym is)
          ∙ ap (λ k. text_at texts (get_or places k 0)) (let same : at ≡ (at + 1) - 1 = omega arith
          in same),
    );
  }
    where
      long : length grown ≡ length found + length more
      long = ap length joined ∙ length-append found more

      numbered : (k : ℕ) → k < at + 1
          → HasOrdinal texts grown (set ordinals place (length grown - 1)) (get_or places k 0)
      numbered k l = elim (cases_eq (get_or places k 0) place) [
        | inl same ↦
            let there : get_or (set ordinals place (length grown - 1)) (get_or places k 0) 0
            ≡ length grown - 1 =
            ap (λ p. get_or (set ordinals place (length grown - 1)) p 0) same
            ∙ get_or-set_same ordinals place (length grown - 1) 0
            (omega (arith, within, so_far.each)) in (
              omega (arith, there, some),
              ap (text_at grown) there ∙ last ∙ ap (text_at texts) (sym same),
            )
        | inr other ↦
            let before : k < at = elim (cases_eq k at) [
              | inl here ↦ absurd (other (ap (λ j. get_or places j 0) here ∙ is))
              | inr apart ↦ omega (arith, l, apart)
            ] in
            let (low, text) = so_far.numbered k before in
            let there : get_or (set ordinals place (length grown - 1)) (get_or places k 0) 0
            ≡ get_or ordinals (get_or places k 0) 0 =
            get_or-set_other ordinals place (get_or places k 0) (length grown - 1) 0 other in (
              omega (arith, there, low, long),
              ap (text_at grown) there
                  ∙ ap (λ ts. text_at ts (get_or ordinals (get_or places k 0) 0)) joined
                  ∙ get_or_append_left found more [] (get_or ordinals (get_or places k 0) 0) low
                  ∙ text,
            )
      ]
