-- Visits under a parent.
use Rattle.std.proofs.Common.{◌≡◌, ◌≢◌, ◌∙◌, sym, ap, ℕ, ◌+◌, ◌<◌, List, ◌++◌, Bool}
use Rattle.std.proofs.Common.{true, false, Some, length, get_or, arith, append_assoc, subst, ◌⊎◌}
use Rattle.std.proofs.Common.{inl, inr}
use Rattle.std.specs.Prelude.{Contains, filter, slice_get}
use Rattle.std.specs.List.{range_with_len}
use Rattle.std.proofs.lemmas.Bool.{cases_order}
use Rattle.std.proofs.Math.ListN.{set}
use Rattle.std.proofs.lemmas.List.{get_or-set_other, get_or-set_same, length-append}
use Rattle.std.proofs.lemmas.List.{length-set}
use Rattle.agg_cache.specs.Waiting.{docs_of, is_id, under}
use Rattle.agg_cache.proofs.UnderIds.{docs_of-append, docs_of-other, docs_of-same}
use Rattle.agg_filter.specs.Filter.{Filter, FilterFor, FilterTakes, count_of, id_of}
use Rattle.agg_filter.specs.Filter.{matching_under}
use Rattle.agg_filter.proofs.PreparedParents.{HasOwnIds, contains_own, is_own_id, is_unprepared}
use Rattle.agg_filter.proofs.UnderIds.{matching-append, matching-under}

-- the documents of a parent's visits were counted, and came to wait under its id where documents
-- are handed on
pub record Visits {C : Type 0} (waiting : C → ℕ → List ℕ) (parent : ℕ) (matching : List ℕ)
    (old new : Filter C) : Type 0 where
  pub own : HasOwnIds old
  pub own_new : HasOwnIds new
  pub within : parent < length old.counts
  pub counts : new.counts
      ≡ set old.counts parent (count_of old parent + length matching)
  pub hands_on : new.hands_on ≡ old.hands_on
  pub waits : old.hands_on ≡ true → (id : ℕ) → waiting new.cache.0 id
      ≡ waiting old.cache.0 id ++ docs_of (is_id id) (under parent matching)
  pub unpushed : old.hands_on ≡ false → new.cache ≡ old.cache

same_or_not : (a b : ℕ) → (a ≡ b) ⊎ (a ≢ b)
same_or_not a b = elim (cases_order a b) as (λ _. (a ≡ b) ⊎ (a ≢ b)) [
  | inl same ↦ inl same
  | inr other ↦ inr (omega (arith, other))
]

count-grown : (counts : List ℕ) (parent other : ℕ) (matching : List ℕ) → parent < length counts
    → (parent ≡ other) ⊎ (parent ≢ other)
    → get_or (set counts parent (get_or counts parent 0 + length matching)) other 0
    ≡ get_or counts other 0 + length (docs_of (is_id other) (under parent matching))
count-grown counts parent other matching within (inl same) =
    let grown = get_or counts parent 0 + length matching in
    subst (λ p. get_or (set counts parent grown) p 0
    ≡ get_or counts p 0 + length (docs_of (is_id p) (under parent matching))) same
    (get_or-set_same counts parent grown 0 within
    ∙ ap (λ ds. get_or counts parent 0 + length ds) (sym (docs_of-same parent matching)))
count-grown counts parent other matching within (inr differ) =
    let grown = get_or counts parent 0 + length matching in
    let none = docs_of-other other parent matching differ in
    get_or-set_other counts parent other grown 0 (λ same. differ (sym same))
    ∙ omega (arith, ap length none)

module _ {C : Type 0} (waiting : C → ℕ → List ℕ) (is_match : ℕ → Bool) (parent : ℕ)
    (docs : List ℕ) (old new : Filter C)
    (v : Visits waiting parent (filter is_match docs) old new) where
  long : length new.counts ≡ length old.counts
  long = ap length v.counts ∙ length-set old.counts parent _

  same-ids : new.ids ≡ old.ids
  same-ids = v.own_new ∙ ap (λ n. range_with_len 0 n) long ∙ sym v.own

  grown : (other : ℕ) → count_of new other
      ≡ count_of old other + length (matching_under is_match other (under parent docs))
  grown other =
      ap (λ cs. get_or cs other 0) v.counts
      ∙ count-grown old.counts parent other (filter is_match docs) v.within
      (same_or_not parent other)
      ∙ ap (λ ds. count_of old other + length ds) (sym (matching-under is_match other parent docs))

  waits-under : old.hands_on ≡ true → (id : ℕ) → waiting new.cache.0 id
      ≡ waiting old.cache.0 id ++ matching_under is_match id (under parent docs)
  waits-under hands id =
      v.waits hands id
      ∙ ap (λ ds. waiting old.cache.0 id ++ ds) (sym (matching-under is_match id parent docs))

  -- what was given or waits under an id, with what came to wait
  given-under : (given : List (ℕ × ℕ)) (id : ℕ) → old.hands_on ≡ true
      → docs_of (is_id id) given ++ waiting new.cache.0 id
      ≡ (docs_of (is_id id) given ++ waiting old.cache.0 id)
      ++ matching_under is_match id (under parent docs)
  given-under given id hands =
      ap (λ ds. docs_of (is_id id) given ++ ds) (waits-under hands id)
      ∙ sym (append_assoc (docs_of (is_id id) given) (waiting old.cache.0 id)
      (matching_under is_match id (under parent docs)))

  visits-right : (visited given : List (ℕ × ℕ)) → FilterFor waiting is_match old visited given
      → FilterFor waiting is_match new (visited ++ under parent docs) given
  visits-right visited given f = record {
    counted = λ p.
        let more = matching-append is_match p visited (under parent docs) in
        grown p
        ∙ ap (λ n. n + length (matching_under is_match p (under parent docs))) (f.counted p)
        ∙ sym (ap length more
        ∙ length-append (matching_under is_match p visited)
        (matching_under is_match p (under parent docs)));
    exact = λ hands p id is.
        let before = sym v.hands_on ∙ hands in
        let same : id_of old p ≡ Some id = sym (ap (λ ids. slice_get ids p) same-ids) ∙ is in
        let own = (is_own_id old v.own p id same).0 in
        given-under given id before
        ∙ ap (λ ds. ds ++ matching_under is_match id (under parent docs))
        (f.exact before p id same)
        ∙ ap (λ i. matching_under is_match p visited
        ++ matching_under is_match i (under parent docs)) own
        ∙ sym (matching-append is_match p visited (under parent docs));
    others = λ hands id none.
        let before = sym v.hands_on ∙ hands in
        let P : List ℕ → Type 0 = λ ids. ¬ Contains ids id in
        let differ : parent ≢ id =
        λ same. none (contains_own new v.own_new id (omega (arith, same, long, v.within))) in
        given-under given id before
        ∙ ap (λ ds. ds ++ matching_under is_match id (under parent docs))
        (f.others before id (subst P same-ids none))
        ∙ matching-under is_match id parent docs
        ∙ docs_of-other id parent (filter is_match docs) differ;
    prepared = is_unprepared new v.own_new;
    distinct = λ p q id is same.
        f.distinct p q id (sym (ap (λ ids. slice_get ids p) same-ids) ∙ is)
        (sym (ap (λ ids. slice_get ids q) same-ids) ∙ same);
    low = λ p id is. f.low p id (sym (ap (λ ids. slice_get ids p) same-ids) ∙ is);
    unprepared = λ p past.
        let differ : parent ≢ p = omega (arith, long, past, v.within) in
        docs_of-append p visited (under parent docs)
        ∙ ap (λ ds. ds ++ docs_of (is_id p) (under parent docs))
        (f.unprepared p (omega (arith, past, long)))
        ∙ docs_of-other p parent docs differ;
  }

  -- so the collector made these visits
  pub visits-taken : (before : Filter C) → old ≡ before
      → FilterTakes waiting is_match (under parent docs) before new
  visits-taken before same =
      subst (λ collector. FilterTakes waiting is_match (under parent docs) collector new) same
      (record {
        takes = visits-right;
        counted = grown;
        pushed = λ hands p id is.
            waits-under hands id
            ∙ ap (λ i. waiting old.cache.0 id ++ matching_under is_match i (under parent docs))
            (is_own_id old v.own p id is).0;
        ids = same-ids;
        hands_on = v.hands_on;
        unpushed = v.unpushed;
      })
