-- The documents of a segment in the making.
use Rattle.std.proofs.Common.{◌≡◌, ◌≢◌, ◌<◌, ℕ, List, [], ◌∷◌, ◌++◌}
use Rattle.std.proofs.Common.{Some, None, length, take, drop, cond, true}
use Rattle.std.proofs.Common.{refl, sym, ap, ◌∙◌, inl, inr, arith, length-append}
use Rattle.std.specs.Prelude.{Option}
use Rattle.std.specs.Option.{option_map_or}
use Rattle.std.specs.Str.{bytes_eq}
use Rattle.std.proofs.lemmas.Bool.{cases_eq, cases_Bool}
use Rattle.std.proofs.lemmas.List.{append-nil, take-append-drop}
use Rattle.std.proofs.lemmas.List.{take-append-le, drop-append-le}
use Rattle.std.proofs.lemmas.List.Elements.{All-cons, All-push}
use Rattle.std.proofs.lemmas.List.Elements.{All-weaker}
use Rattle.agg_values.specs.TypedKey.{CompositeIntermediateKey}
use Rattle.agg_segment.specs.storage.Document.{by_class}
use Rattle.agg_segment.specs.storage.Cells.{Placed, keys_at, number_of}
use Rattle.agg_segment.specs.Segment.{Gathered, IsNameOf, gathered_fields, gathered_documents}
use Rattle.agg_segment.specs.Segment.{open_document, no_fields, with_key}
use Rattle.agg_segment.specs.Segment.{IsGathered}
use Rattle.agg_segment.specs.declared.storage.sign.Sign.{Sign}
use Rattle.agg_segment.proofs.lemmas.storage.Classes.{by_class_more}
use Rattle.std.specs.Cmp.Lexicographic.{nat_list_eq_equiv}
use Rattle.agg_segment.proofs.lemmas.storage.Places.{same_texts}
use Rattle.agg_segment.proofs.DocumentKeys.{fields_same, keys_no_field, keys_none, keys_one}
use Rattle.agg_segment.proofs.DocumentKeys.{keys_split, map_same, no_keys_open}

module _ (count : ℕ) (names : List (List ℕ × ℕ)) (cells : List Placed) (given : List Sign)
    (closed : ℕ) (inv : IsGathered (record { count = count; names = names; cells = cells }) given
    closed) where
  b : Gathered
  b = record { count = count; names = names; cells = cells }

  pub ended_keys : (field doc : ℕ) → doc < count → keys_at (take closed cells) field doc
      ≡ keys_at cells field doc
  ended_keys field doc l =
      let none : keys_at (drop closed cells) field doc ≡ [] = keys_none (drop closed cells) field
      doc (All-weaker (λ (p : Placed). p.doc ≡ count) (λ p. p.doc ≢ doc) (λ p is same.
      omega (arith, is, same, l)) (drop closed cells) inv.after) in
      sym (append-nil (keys_at (take closed cells) field doc))
      ∙ ap (λ ks. keys_at (take closed cells) field doc ++ ks) (sym none)
      ∙ sym (keys_split (take closed cells) (drop closed cells) field doc)
      ∙ ap (λ ps. keys_at ps field doc) (take-append-drop closed cells)

  open_none : (field : ℕ) → keys_at (take closed cells) field count ≡ []
  open_none field = keys_none (take closed cells) field count (All-weaker (λ (p : Placed).
      p.doc < count) (λ p. p.doc ≢ count) (λ p l same. omega (arith, l, same)) (take closed cells)
      inv.before)

  open_keys : (field : ℕ) → keys_at cells field count ≡ keys_at (drop closed cells) field count
  open_keys field = ap (λ ps. keys_at ps field count) (sym (take-append-drop closed cells))
      ∙ keys_split (take closed cells) (drop closed cells) field count
      ∙ ap (λ ks. ks ++ keys_at (drop closed cells) field count) (open_none field)

  -- the open document is forgotten
  pub discard_open : open_document (record {
    count = count;
    names = names;
    cells =
        take closed cells;
  }) ≡ no_fields
  discard_open = no_keys_open names (take closed cells) count count open_none

  pub discard_documents : gathered_documents (record {
    count = count;
    names = names;
    cells =
        take closed cells;
  }) ≡ gathered_documents (record {
    count = count;
    names = names;
    cells =
        cells;
  })
  discard_documents =
      map_same (gathered_fields (record {
        count = count;
        names = names;
        cells =
            take closed cells;
      })) (gathered_fields (record {
        count = count;
        names = names;
        cells =
            cells;
      })) 0 count
      (λ d l. fields_same names (take closed cells) cells count count d (λ field.
      ended_keys field d (omega (arith, l))))

  -- ---- one key more in the open document

  module _ (field : ℕ) (key : CompositeIntermediateKey) where
    one : Placed
    one = record { field = field; doc = count; key = key }

    pushed : Gathered
    pushed = record { count = count; names = names; cells = cells ++ one ∷ [] }

    pub push_documents : gathered_documents (record {
      count = count;
      names = names;
      cells =
          cells ++ record { field = field; doc = count; key = key } ∷ [];
    })
        ≡ gathered_documents (record { count = count; names = names; cells = cells })
    push_documents =
        map_same (gathered_fields (record {
          count = count;
          names = names;
          cells =
              cells ++ record { field = field; doc = count; key = key } ∷ [];
        }))
        (gathered_fields (record { count = count; names = names; cells = cells })) 0 count
        (λ d l. fields_same names (cells ++ record { field = field; doc = count; key = key }
        ∷ []) cells count count d
        (λ f.
        let p : Placed = record { field = field; doc = count; key = key } in
        let none : keys_at (p ∷ []) f d ≡ [] = keys_none (p ∷ []) f d (All-cons (λ (q : Placed).
        q.doc ≢ d) p [] (λ same. omega (arith, same, l)) (λ i e in'.
        absurd (omega (arith, in')))) in
        keys_split cells (p ∷ []) f d ∙ ap (λ ks. keys_at cells f d ++ ks) none
        ∙ append-nil (keys_at cells f d)))

    pub push_open : (name : List ℕ)
        → IsNameOf (record { count = count; names = names; cells = cells }) field name
        → open_document (record {
          count = count;
          names = names;
          cells = cells ++ record {
            field =
                field;
            doc = count;
            key = key;
          } ∷ [];
        })
        ≡ with_key name key (open_document (record {
          count = count;
          names = names;
          cells =
              cells;
        }))
    push_open name is = λ i n. each n i
      where
        p : Placed
        p = record { field = field; doc = count; key = key }

        by_number : (n : List ℕ) (o : Option ℕ) → number_of names n ≡ o
            → by_class (option_map_or (λ f. keys_at (cells ++ record {
              field = field;
              doc =
                  count;
              key = key;
            } ∷ []) f count) o [])
            ≡ cond (bytes_eq name n) (by_class (by_class (option_map_or (λ f. keys_at cells f count)
            o []) ++ key ∷ [])) (by_class (option_map_or (λ f. keys_at cells f count) o []))
        by_number n None at = elim (cases_Bool (bytes_eq name n)) [
          | inl same ↦
              let names-are : name ≡ n = same_texts name n same in
              let there : Some field ≡ None = sym is ∙ ap (number_of names) names-are ∙ at in
              cc
          | inr other ↦ rw other refl
        ]
        by_number n (Some f) at = elim (cases_eq f field) [
          | inl here ↦
              let alike : n ≡ name = inv.apart n name field (at ∙ ap Some here) is in
              let same : bytes_eq name n ≡ true = ap (λ m. bytes_eq name m) alike
              ∙ nat_list_eq_equiv.refl name in
              let last : keys_at (record { field = field; doc = count; key = key } ∷ []) f count
              ≡ key ∷ [] = keys_one (record { field = field; doc = count; key = key }) f count
              (sym here) refl in
              rw same (ap by_class (keys_split cells (record {
                field = field;
                doc = count;
                key =
                    key;
              } ∷ []) f count ∙ ap (λ ks. keys_at cells f count ++ ks) last)
              ∙ sym (by_class_more (keys_at cells f count) (key ∷ [])))
          | inr elsewhere ↦
              let none : keys_at (record { field = field; doc = count; key = key } ∷ []) f count
              ≡ [] =
              keys_no_field (record { field = field; doc = count; key = key } ∷ []) f count
              (All-cons (λ (q : Placed). q.field ≢ f) (record {
                field = field;
                doc =
                    count;
                key = key;
              }) [] (λ same. elsewhere (sym same)) (λ i e in'.
              absurd (omega (arith, in'))))
              in
              elim (cases_Bool (bytes_eq name n)) [
                | inl same ↦
                    let names-are : name ≡ n = same_texts name n same in
                    let there : Some f ≡ Some field = sym at ∙ ap (number_of names) (sym names-are)
                    ∙ is in
                    absurd (elsewhere cc)
                | inr other ↦
                    rw other (ap by_class (keys_split cells (record {
                      field = field;
                      doc =
                          count;
                      key = key;
                    } ∷ []) f count ∙ ap (λ ks. keys_at cells f count ++ ks) none
                    ∙ append-nil (keys_at cells f count)))
              ]
        ]

        each : (n : List ℕ)
            → open_document (record {
              count = count;
              names = names;
              cells =
                  cells ++ record { field = field; doc = count; key = key } ∷ [];
            }) n
            ≡ with_key name key (open_document (record {
              count = count;
              names = names;
              cells =
                  cells;
            })) n
        each n = by_number n (number_of names n) refl

    pub push_inv : field < length given
        → IsGathered (record {
          count = count;
          names = names;
          cells = cells ++ record {
            field =
                field;
            doc = count;
            key = key;
          } ∷ [];
        }) given closed
    push_inv within =
        let p : Placed = record { field = field; doc = count; key = key } in
        let front : take closed (cells ++ p ∷ []) ≡ take closed cells = take-append-le closed cells
        (p ∷ []) inv.within in
        let back : drop closed (cells ++ p ∷ []) ≡ drop closed cells ++ p ∷ [] =
        drop-append-le closed cells (p ∷ []) inv.within in
        record {
          few = inv.few;
          within = omega (arith, inv.within, length-append cells (p ∷ []));
          before = rw front inv.before;
          after = rw back (All-push (λ (q : Placed). q.doc ≡ count) (drop closed cells) p
              inv.after refl);
          numbered = inv.numbered;
          apart = inv.apart;
          named = inv.named;
          fields = All-push (λ (q : Placed). q.field < length given) cells p inv.fields within;
          signs = rw front inv.signs;
        }
