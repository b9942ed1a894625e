-- The signs of runs are those of their numbers' keys.
use Rattle.std.proofs.Common.{
  ◌≡◌,
  ◌<◌,
  ℕ,
  List,
  ◌++◌,
  length,
  get_or,
  map,
  sym,
  ap,
  subst,
  ◌∙◌,
  inl,
}
use Rattle.std.proofs.Common.{inr}
use Rattle.std.specs.Prelude.{replicate}
use Rattle.std.specs.List.{All, Contains}
use Rattle.std.proofs.lemmas.List.{get_or_default}
use Rattle.std.proofs.lemmas.List.Elements.{All-contains, All-map, Contains-append_left}
use Rattle.std.proofs.lemmas.List.Elements.{Contains-append_right, Contains-append_cases}
use Rattle.agg_values.specs.declared.address.Address.{Address}
use Rattle.agg_segment.specs.storage.Cells.{Placed}
use Rattle.agg_segment.specs.storage.Runs.{kinds, noted, noted_key, in_document, AreRuns}
use Rattle.agg_segment.specs.storage.Signs.{run_mark, kind_mark, key_mark, AreSigns, HasBoth}
use Rattle.agg_segment.specs.declared.storage.run.Run.{Run}
use Rattle.agg_segment.specs.declared.storage.run.RunKind.{RunKind}
use Rattle.agg_segment.specs.declared.storage.sign.Sign.{Sign}
use Rattle.agg_segment.specs.declared.storage.sign.Sign.TheVariants.{Negative, Large}
use Rattle.agg_segment.proofs.FieldSigns.{moved_marks}
use Rattle.agg_segment.proofs.NotedKeys.{notes_marks}
use Rattle.agg_segment.proofs.lemmas.storage.GrowingNumbers.{zip_firsts}
use Rattle.agg_segment.proofs.lemmas.storage.Members.{contains_map, from_map, contains_flat}
use Rattle.agg_segment.proofs.lemmas.storage.Members.{from_flat}
use Rattle.agg_segment.proofs.lemmas.storage.NotedRuns.{in_copies, from_copies}

abbrev copies : Run → List RunKind
copies run = replicate run.count run.kind

module _ (texts : List (List ℕ)) (addresses : List Address) (doc : ℕ) (runs : List Run)
    (numbers : List ℕ) (are : AreRuns (length texts) (length addresses) runs numbers) where
  abbrev cells : List Placed
  cells = map (in_document doc) (map (noted_key texts addresses) (noted runs numbers))

  marks_are : map kind_mark (kinds runs) ≡ map key_mark cells
  marks_are = ap (map kind_mark) (sym (zip_firsts (kinds runs) numbers are.fit))
      ∙ notes_marks (length texts) (length addresses) texts addresses doc (noted runs numbers)
      are.kept

  mark_there : (m : ℕ × Sign) → Contains (map run_mark runs) m → Contains (map key_mark cells) m
  mark_there m has =
      let (run, in_runs, is) = from_map run_mark runs m has in
      let some : 0 < run.count =
      All-contains (λ (r : Run). 0 < r.count) runs run are.some in_runs in
      subst (λ ms. Contains ms m) marks_are (subst (Contains (map kind_mark (kinds runs))) is
      (contains_map kind_mark (kinds runs) run.kind (contains_flat copies runs run run.kind in_runs
      (in_copies run.count run.kind some))))

  mark_back : (m : ℕ × Sign) → Contains (map key_mark cells) m → Contains (map run_mark runs) m
  mark_back m has =
      let (kind, in_kinds, is) = from_map kind_mark (kinds runs) m
      (subst (λ ms. Contains ms m) (sym marks_are) has) in
      let (run, in_runs, in_run) = from_flat copies runs kind in_kinds in
      let same : kind ≡ run.kind = from_copies run.count run.kind kind in_run in
      subst (Contains (map run_mark runs)) (ap kind_mark (sym same) ∙ is)
      (contains_map run_mark runs run in_runs)

  pub run_signs : (signs : List Sign) (before : List (ℕ × Sign))
      → AreSigns signs (before ++ map run_mark runs) → AreSigns signs (before ++ map key_mark cells)
  run_signs signs before = moved_marks (before ++ map run_mark runs) (before ++ map key_mark cells)
      (beside (map run_mark runs) (map key_mark cells) mark_there)
      (beside (map key_mark cells) (map run_mark runs) mark_back) signs
    where
      beside : (xs ys : List (ℕ × Sign))
          → ((m : ℕ × Sign) → Contains xs m → Contains ys m)
          → (m : ℕ × Sign) → Contains (before ++ xs) m → Contains (before ++ ys) m
      beside xs ys there m has = elim (Contains-append_cases before xs m has) [
        | inl old ↦ Contains-append_left before ys m old
        | inr new ↦ Contains-append_right before ys m (there m new)
      ]

  pub run_both : (before : List (ℕ × Sign)) → HasBoth (before ++ map run_mark runs)
      → HasBoth (before ++ map key_mark cells)
  run_both before (field, low, high) = (field, moved Negative low, moved Large high)
    where
      moved : (s : Sign) → Contains (before ++ map run_mark runs) (field, s)
          → Contains (before ++ map key_mark cells) (field, s)
      moved s has = elim (Contains-append_cases before (map run_mark runs) (field, s) has) [
        | inl old ↦ Contains-append_left before (map key_mark cells) (field, s) old
        | inr new ↦ Contains-append_right before (map key_mark cells) (field, s)
            (mark_there (field, s) new)
      ]

  -- the fields of runs are those of their numbers' keys
  pub run_fields : (n : ℕ) → All (λ p. p.field < n) cells → All (λ run. run.kind.field < n) runs
  run_fields n within k d l =
      let run : Run = get_or runs k d in
      All-contains (λ (m : ℕ × Sign). m.0 < n) (map key_mark cells) (run_mark run)
      (All-map (λ (m : ℕ × Sign). m.0 < n) key_mark cells within)
      (mark_there (run_mark run) (contains_map run_mark runs run
      (k, l, get_or_default runs k run d l)))
