-- The keys of a document in sorted columns.
use Rattle.std.proofs.Common.{◌≡◌, ◌≢◌, ◌<◌, ◌≤◌, ℕ, suc, List, [], ◌∷◌, ◌++◌, length}
use Rattle.std.proofs.Common.{get_or, map}
use Rattle.std.proofs.Common.{refl, sym, ap, ◌∙◌, inl, inr, arith}
use Rattle.std.specs.Prelude.{Bool, ◌==◌, ◌&&◌, filter}
use Rattle.std.specs.List.{All}
use Rattle.std.proofs.lemmas.Bool.{cases_Bool, cases_eq, ne_eqb}
use Rattle.std.proofs.lemmas.Bool.Decides.{nat_tests}
use Rattle.std.proofs.lemmas.List.{map-append}
use Rattle.std.proofs.lemmas.List.Elements.{filter-append, All-append, All-cons}
use Rattle.agg_values.specs.declared.address.Address.{Address}
use Rattle.agg_values.specs.Column.{class_rank, order_rank}
use Rattle.agg_values.specs.TypedKey.{CompositeIntermediateKey}
use Rattle.agg_segment.specs.storage.Cells.{keys_at}
use Rattle.agg_segment.specs.storage.Document.{by_class}
use Rattle.agg_segment.specs.Gatherings.{Raw, raws, column_raws, raw_placed}
use Rattle.agg_segment.specs.storage.GatheredNumbers.{raw_key, kind_of}
use Rattle.agg_segment.specs.Gatherings.{AreSorted, AreAlike}
use Rattle.agg_segment.specs.declared.gatherings.Gathering.{Gathering}
use Rattle.agg_segment.specs.declared.storage.sign.Sign.{Sign}
use Rattle.agg_segment.specs.declared.storage.sign.Sign.TheVariants.{Small}
use Rattle.agg_segment.proofs.AlikeNumbers.{raw_rank, keys_are, alike_keys}
use Rattle.agg_segment.proofs.lemmas.storage.Classes.{Ascends, ascending_stays}

ascends_joined : (r : ℕ) (xs ys : List CompositeIntermediateKey)
    → All (λ k. class_rank k ≡ r) xs → All (λ k. r ≤ class_rank k) ys → Ascends ys
    → Ascends (xs ++ ys)
ascends_joined r [] ys same up ascends = ascends
ascends_joined r (x ∷ xs) ys same up ascends =
    let here : class_rank x ≡ r = same 0 x (omega arith) in
    let rest : All (λ k. class_rank k ≡ r) xs = λ k d l. same (suc k) d (omega (arith, l)) in (
      All-append (λ k. class_rank x ≤ class_rank k) xs ys
          (λ k d l. omega (arith, rest k d l, here)) (λ k d l. omega (arith, up k d l, here)),
      ascends_joined r xs ys rest up ascends,
    )

module _ (signs : List Sign) (texts : List (List ℕ)) (addresses : List Address) where
  abbrev its_key : Raw → CompositeIntermediateKey
  its_key r = raw_key texts addresses (kind_of (get_or signs r.field Small) r.class) r.number

  abbrev of_doc : ℕ → ℕ → Raw → Bool
  of_doc field doc r = (r.field == field) && (r.doc == doc)

  -- keys of a field from here on are of no class before
  later : (columns : List Gathering) (field doc rank : ℕ)
      → ((k : ℕ) (d : Gathering) → k < length columns → (get_or columns k d).field ≡ field
      → rank ≤ order_rank (get_or columns k d).class)
      → All (λ k. rank ≤ class_rank k) (map its_key (filter (of_doc field doc) (raws columns)))
  later [] field doc rank up = λ k d l. absurd (omega (arith, l))
  later (c ∷ columns) field doc rank up =
      rw (
        filter-append (of_doc field doc) (column_raws c) (raws columns),
        map-append its_key (filter (of_doc field doc) (column_raws c))
            (filter (of_doc field doc) (raws columns)),
      )
      (All-append (λ k. rank ≤ class_rank k)
      (map its_key (filter (of_doc field doc) (column_raws c)))
      (map its_key (filter (of_doc field doc) (raws columns)))
      (of_rows c.rows)
      (later columns field doc rank (λ k d l. up (suc k) d (omega (arith, l)))))
    where
      of_rows : (rows : List (ℕ × ℕ)) → All (λ k. rank ≤ class_rank k)
          (map its_key (filter (of_doc field doc) (map (λ s. let t : Raw = record {
            field = c.field;
            class = c.class;
            doc = s.0;
            number = s.1;
          } in t) rows)))
      of_rows [] = λ k d l. absurd (omega (arith, l))
      of_rows (s ∷ rows) =
          let t : Raw = record { field = c.field; class = c.class; doc = s.0; number = s.1 } in
          elim (cases_Bool (of_doc field doc t)) [
            | inl here ↦
                let same : c.field ≡ field = grind (arith, nat_tests) in
                let high : rank ≤ order_rank c.class = up 0 c (omega arith) same in
                rw here (All-cons (λ k. rank ≤ class_rank k) (its_key t) _
                (omega (arith, high, raw_rank signs texts addresses t)) (of_rows rows))
            | inr other ↦ rw other (of_rows rows)
          ]

  sorted_ascends : (columns : List Gathering) (field doc : ℕ) → AreSorted columns
      → Ascends (map its_key (filter (of_doc field doc) (raws columns)))
  sorted_ascends [] field doc sorted = tt
  sorted_ascends (c ∷ columns) field doc sorted =
      let rest : AreSorted columns = λ i j d low l. sorted (suc i) (suc j) d (omega (arith, low))
      (omega (arith, l)) in
      rw (
        filter-append (of_doc field doc) (column_raws c) (raws columns),
        map-append its_key (filter (of_doc field doc) (column_raws c))
            (filter (of_doc field doc) (raws columns)),
      )
      (elim (cases_eq c.field field) [
        | inl here ↦ ascends_joined (order_rank c.class)
            (map its_key (filter (of_doc field doc) (column_raws c)))
            (map its_key (filter (of_doc field doc) (raws columns)))
            (same_rank c.rows)
            (later columns field doc (order_rank c.class) (λ k d l same.
            (sorted 0 (suc k) d (omega arith) (omega (arith, l))).1 (here ∙ sym same)))
            (sorted_ascends columns field doc rest)
        | inr other ↦
            let none : filter (of_doc field doc) (column_raws c) ≡ [] = no_rows other c.rows in
            rw none (sorted_ascends columns field doc rest)
      ])
    where
      same_rank : (rows : List (ℕ × ℕ)) → All (λ k. class_rank k ≡ order_rank c.class)
          (map its_key (filter (of_doc field doc) (map (λ s. let t : Raw = record {
            field = c.field;
            class = c.class;
            doc = s.0;
            number = s.1;
          } in t) rows)))
      same_rank [] = λ k d l. absurd (omega (arith, l))
      same_rank (s ∷ rows) =
          let t : Raw = record { field = c.field; class = c.class; doc = s.0; number = s.1 } in
          elim (cases_Bool (of_doc field doc t)) [
            | inl here ↦ rw here (All-cons (λ k. class_rank k ≡ order_rank c.class) (its_key t) _
                (raw_rank signs texts addresses t) (same_rank rows))
            | inr other ↦ rw other (same_rank rows)
          ]

      no_rows : c.field ≢ field → (rows : List (ℕ × ℕ))
          → filter (of_doc field doc) (map (λ s. let t : Raw = record {
            field = c.field;
            class = c.class;
            doc = s.0;
            number = s.1;
          } in t) rows) ≡ []
      no_rows other [] = refl
      no_rows other (s ∷ rows) = rw (ne_eqb c.field field other) (no_rows other rows)

  -- sorted columns have the keys of a document by class
  pub sorted_keys : (olds : List Raw) (news : List Gathering) (field doc : ℕ) → AreSorted news
      → AreAlike (raws news) olds
      → keys_at (map (raw_placed signs texts addresses) (raws news)) field doc
      ≡ by_class (keys_at (map (raw_placed signs texts addresses) olds) field doc)
  sorted_keys olds news field doc sorted alike =
      let is = keys_are signs texts addresses (raws news) field doc in
      is ∙ sym (ascending_stays (map its_key (filter (of_doc field doc) (raws news)))
      (sorted_ascends news field doc sorted))
      ∙ ap by_class (sym is)
      ∙ alike_keys signs texts addresses (raws news) olds field doc alike
