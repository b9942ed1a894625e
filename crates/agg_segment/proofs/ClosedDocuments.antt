-- Documents that are closed, and numbers of both signs in them.
use Rattle.std.proofs.Common.{◌≡◌, ◌+◌, ◌<◌, ℕ, List, [], ◌∷◌, ◌++◌, Some}
use Rattle.std.proofs.Common.{None, length, get_or, take, drop, map, true, refl, sym}
use Rattle.std.proofs.Common.{ap, subst, ◌∙◌, arith}
use Rattle.std.specs.Prelude.{Option, filter, flat_map}
use Rattle.std.specs.Option.{option_map_or}
use Rattle.std.specs.List.{All, Contains, range_with_len}
use Rattle.std.proofs.lemmas.Bool.{eq-eqb}
use Rattle.std.proofs.lemmas.Bool.Decides.{nat_tests}
use Rattle.std.proofs.lemmas.List.{take-append-drop, length-map}
use Rattle.std.proofs.lemmas.List.Elements.{All-append, All-weaker, All-contains}
use Rattle.std.proofs.lemmas.List.FromFn.{map-range_with_len_more, length-range_with_len}
use Rattle.std.proofs.lemmas.List.Sorted.{Contains-permutation, IsPermutation-sym}
use Rattle.agg_values.specs.TypedKey.{CompositeIntermediateKey}
use Rattle.agg_segment.specs.storage.Document.{Fields, by_class}
use Rattle.agg_segment.specs.storage.Cells.{Placed, is_at, keys_at, number_of}
use Rattle.agg_segment.specs.storage.Signs.{key_mark, IsFieldSign, AreSigns, HasBoth}
use Rattle.agg_segment.specs.Segment.{Stored, Gathered, IsNameOf, gathered_fields}
use Rattle.agg_segment.specs.Segment.{gathered_documents, open_document, document_at}
use Rattle.agg_segment.specs.Segment.{documents_of, IsGathered}
use Rattle.agg_segment.specs.SegmentLimits.{IsMixed, HasSign, sign_of}
use Rattle.agg_segment.specs.storage.Columns.{StoredColumn, column_cells}
use Rattle.agg_segment.specs.declared.storage.sign.Sign.{Sign}
use Rattle.agg_segment.specs.declared.storage.sign.Sign.TheVariants.{Small, Negative, Large}
use Rattle.agg_segment.proofs.lemmas.storage.Classes.{by_class_nil, by_class_moves}
use Rattle.agg_segment.proofs.lemmas.storage.Members.{contains_map, from_map, contains_flat}
use Rattle.agg_segment.proofs.lemmas.storage.Members.{from_flat, contains_filter, from_filter}
use Rattle.agg_segment.proofs.lemmas.storage.Members.{in_range, none_of}
use Rattle.agg_segment.proofs.DocumentKeys.{map_same}
use Rattle.agg_segment.proofs.BuilderDocuments.{ended_keys}

pub documents_count : (b : Gathered) → length (gathered_documents b) ≡ b.count
documents_count b = length-map (range_with_len 0 b.count) (gathered_fields b)
    ∙ length-range_with_len 0 b.count

module _ (count : ℕ) (names : List (List ℕ × ℕ)) (cells : List Placed) (given : List Sign)
    (closed : ℕ) (inv : IsGathered (record { count = count; names = names; cells = cells }) given
    closed) where
  pub all_docs : All (λ p. p.doc < count + 1) cells
  all_docs =
      subst (All (λ (p : Placed). p.doc < count + 1)) (take-append-drop closed cells)
      (All-append (λ (p : Placed). p.doc < count + 1) (take closed cells) (drop closed cells)
      (All-weaker (λ (p : Placed). p.doc < count) (λ p. p.doc < count + 1) (λ p l.
      omega (arith, l)) (take closed cells) inv.before)
      (All-weaker (λ (p : Placed). p.doc ≡ count) (λ p. p.doc < count + 1) (λ p is.
      omega (arith, is)) (drop closed cells) inv.after))

  -- ---- the open document is closed

  pub finish_documents : gathered_documents (record {
    count = count + 1;
    names = names;
    cells =
        cells;
  }) ≡ gathered_documents (record { count = count; names = names; cells = cells }) ++
      open_document (record { count = count; names = names; cells = cells }) ∷ []
  finish_documents = map-range_with_len_more (gathered_fields (record {
    count = count;
    names =
        names;
    cells = cells;
  })) 0 count count (omega arith)

  -- ---- numbers of both signs

  has_sign : (field : ℕ) (name : List ℕ) (sign : Sign)
      → IsNameOf (record { count = count; names = names; cells = cells }) field name
      → Contains (map key_mark cells) (field, sign)
      → HasSign (gathered_documents (record { count = count + 1; names = names; cells = cells }))
      name sign
  has_sign field name sign at has =
      let (p, in', is) = from_map key_mark cells (field, sign) has in
      let its_field : p.field ≡ field = ap (λ (m : ℕ × Sign). m.0) is in
      let its_sign : sign_of p.key ≡ sign = ap (λ (m : ℕ × Sign). m.1) is in
      let low : p.doc < count + 1 = All-contains (λ (q : Placed). q.doc < count + 1) cells p
      all_docs in' in
      let fs : ℕ → Fields = gathered_fields (record {
        count = count + 1;
        names = names;
        cells =
            cells;
      }) in
      let here : is_at field p.doc p ≡ true = rw (
        eq-eqb p.field field its_field,
        eq-eqb p.doc p.doc
            refl,
      ) refl in
      let kept : Contains (keys_at cells field p.doc) p.key = contains_map (λ (q : Placed). q.key)
      (filter (is_at field p.doc) cells) p (contains_filter (is_at field p.doc) cells p in'
      here) in
      let moved : Contains (by_class (keys_at cells field p.doc)) p.key =
      Contains-permutation (keys_at cells field p.doc) (by_class (keys_at cells field p.doc))
      p.key (IsPermutation-sym (by_class (keys_at cells field p.doc))
      (keys_at cells field p.doc) (by_class_moves (keys_at cells field p.doc))) kept in
      let same : by_class (keys_at cells field p.doc) ≡ fs p.doc name =
      ap (λ o. by_class (option_map_or (λ f. keys_at cells f p.doc) o [])) (sym at) in
      let inside : Contains (fs p.doc name) p.key = subst (λ ks. Contains ks p.key) same moved in
      let document : Contains (map fs (range_with_len 0 (count + 1))) (fs p.doc) =
      contains_map fs (range_with_len 0 (count + 1)) p.doc (in_range 0 (count + 1) p.doc
      (omega arith) (omega (arith, low))) in
      subst (Contains (map sign_of (flat_map (λ (d : Fields). d name)
      (map fs (range_with_len 0 (count + 1)))))) its_sign
      (contains_map sign_of (flat_map (λ (d : Fields). d name)
      (map fs (range_with_len 0 (count + 1)))) p.key (contains_flat (λ (d : Fields). d name)
      (map fs (range_with_len 0 (count + 1))) (fs p.doc) p.key document inside))

  pub both_mixed : HasBoth (map key_mark cells)
      → IsMixed (gathered_documents (record { count = count + 1; names = names; cells = cells }))
  both_mixed (field, low, high) =
      let (p, in', is) = from_map key_mark cells (field, Negative) low in
      let its_field : p.field ≡ field = ap (λ (m : ℕ × Sign). m.0) is in
      let bound : p.field < length given = All-contains (λ (q : Placed). q.field < length given)
      cells p inv.fields in' in
      let (name, at) = inv.named field (omega (arith, bound, its_field)) in
      (name, has_sign field name Negative at low, has_sign field name Large at high)

  from_sign : (name : List ℕ) (sign : Sign)
      → HasSign (gathered_documents (record { count = count + 1; names = names; cells = cells }))
      name sign
      → (field : ℕ) × (number_of names name ≡ Some field) × Contains (map key_mark cells)
      (field, sign)
  from_sign name sign has =
      let fs : ℕ → Fields = gathered_fields (record {
        count = count + 1;
        names = names;
        cells =
            cells;
      }) in
      let docs : List Fields = map fs (range_with_len 0 (count + 1)) in
      let (k, in_docs, its_sign) = from_map sign_of (flat_map (λ (d : Fields). d name) docs) sign
      has in
      let (document, in_all, in_doc) = from_flat (λ (d : Fields). d name) docs k in_docs in
      let (doc, ranged, is) = from_map fs (range_with_len 0 (count + 1)) document in_all in
      by_number doc k its_sign (subst (λ (d : Fields). Contains (d name) k) (sym is) in_doc)
      (number_of names name) refl
    where
      by_number : (doc : ℕ) (k : CompositeIntermediateKey) → sign_of k ≡ sign
          → Contains (by_class (option_map_or (λ f. keys_at cells f doc) (number_of names name) []))
          k → (o : Option ℕ) → number_of names name ≡ o
          → (field : ℕ) × (number_of names name ≡ Some field) × Contains (map key_mark cells)
          (field, sign)
      by_number doc k its in' None at =
          absurd (none_of k (subst (λ ks. Contains ks k)
          (ap (λ o. by_class (option_map_or (λ f. keys_at cells f doc) o [])) at ∙ by_class_nil)
          in'))
      by_number doc k its in' (Some f) at =
          let in_class : Contains (by_class (keys_at cells f doc)) k = subst (λ ks. Contains ks k)
          (ap (λ o. by_class (option_map_or (λ f. keys_at cells f doc) o [])) at) in' in
          let (p, in_filter, is) = from_map (λ (q : Placed). q.key) (filter (is_at f doc) cells) k
          (Contains-permutation (by_class (keys_at cells f doc)) (keys_at cells f doc) k
          (by_class_moves (keys_at cells f doc)) in_class) in
          let (in_cells, here) = from_filter (is_at f doc) cells p in_filter in
          let its_field : p.field ≡ f = grind (arith, nat_tests) in
          let mark : key_mark p ≡ (f, sign) = ap (λ g. (g, sign_of p.key)) its_field
          ∙ ap (λ s. (f, s)) (ap sign_of is ∙ its) in (
            f,
            at,
            subst (Contains (map key_mark cells)) mark (contains_map key_mark cells p
                in_cells),
          )

  pub not_mixed : (signs : List Sign) → AreSigns signs (map key_mark cells)
      → IsMixed (gathered_documents (record { count = count + 1; names = names; cells = cells }))
      → ⊥
  not_mixed signs are (name, low, high) =
      let (f, at, neg) = from_sign name Negative low in
      let (g, there, big) = from_sign name Large high in
      let same : Some f ≡ Some g = sym at ∙ there in
      let fg : f ≡ g = cc in
      let at_f : get_or signs f Small ≡ Negative = All-contains (IsFieldSign signs)
      (map key_mark cells) (f, Negative) are.0 neg (λ is. cc) in
      let at_g : get_or signs g Small ≡ Large = All-contains (IsFieldSign signs)
      (map key_mark cells) (g, Large) are.0 big (λ is. cc) in
      let both : Negative ≡ Large = sym at_f ∙ ap (λ h. get_or signs h Small) fg ∙ at_g in
      cc

  -- ---- the columns of the closed documents

  pub built_documents : (columns : List StoredColumn) → ((field doc : ℕ)
      → keys_at (flat_map column_cells columns) field doc
      ≡ by_class (keys_at (take closed cells) field doc))
      → documents_of (record { count = count; names = names; columns = columns })
      ≡ gathered_documents (record { count = count; names = names; cells = cells })
  built_documents columns keys =
      map_same (document_at (record { count = count; names = names; columns = columns }))
      (gathered_fields (record { count = count; names = names; cells = cells })) 0 count
      (λ d l i n. by_number d (omega (arith, l)) (number_of names n) i)
    where
      by_number : (d : ℕ) → d < count → (o : Option ℕ)
          → option_map_or (λ f. keys_at (flat_map column_cells columns) f d) o []
          ≡ by_class (option_map_or (λ f. keys_at cells f d) o [])
      by_number d l None = sym by_class_nil
      by_number d l (Some f) = keys f d ∙ ap by_class (ended_keys count names cells given closed inv
          f d l)

pub read_count : (r : Stored) → length (documents_of r) ≡ r.count
read_count r = length-map (range_with_len 0 r.count) (document_at r) ∙ length-range_with_len 0
    r.count
