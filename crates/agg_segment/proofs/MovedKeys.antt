-- Keys that move into the columns of their fields and classes.
use Rattle.std.proofs.Common.{◌≡◌, ◌≢◌, ◌+◌, ◌<◌, ℕ, zero, suc, List, [], ◌∷◌, ◌++◌, length, get_or}
use Rattle.std.proofs.Common.{take, drop, map}
use Rattle.std.proofs.Common.{refl, sym, ap, subst, ◌∙◌, arith, Some, None, length-take}
use Rattle.std.specs.Prelude.{Option}
use Rattle.std.specs.Option.{option_map_or}
use Rattle.std.specs.List.{All, Contains}
use Rattle.std.proofs.lemmas.List.{take_all, drop_all, get_or_default, append-nil}
use Rattle.std.proofs.lemmas.List.{map-append, length-map}
use Rattle.std.proofs.lemmas.List.Elements.{All-contains, All-weaker, All-take, All-append}
use Rattle.std.proofs.lemmas.List.Elements.{All-tail}
use Rattle.agg_segment.specs.storage.Cells.{Placed, keys_at, number_of}
use Rattle.agg_segment.specs.storage.Runs.{Logged, in_document, open_cells, noted_key, IsNoted}
use Rattle.agg_segment.specs.storage.Document.{by_class}
use Rattle.agg_segment.specs.Segment.{gathered_fields, gathered_documents, open_document, no_fields}
use Rattle.agg_segment.specs.Segment.{builder_cells, IsBuilding}
use Rattle.agg_segment.specs.Segment.{IsGathered}
use Rattle.agg_segment.specs.SegmentLimits.{IsMixed, max_documents}
use Rattle.agg_segment.specs.storage.Signs.{key_mark, IsFieldSign, AreSigns}
use Rattle.agg_segment.specs.declared.storage.sign.Sign.{Sign}
use Rattle.agg_segment.specs.Gatherings.{Raw, raw_placed, AreAlike}
use Rattle.agg_segment.specs.declared.storage.run.RunKind.{RunKind}
use Rattle.agg_segment.specs.storage.GatheredNumbers.{IsRaw}
use Rattle.agg_segment.proofs.AlikeNumbers.{alike_contains, alike_back, alike_all, alike_keys}
use Rattle.agg_segment.proofs.BuilderKeys.{signed_read, dropped, taken}
use Rattle.agg_segment.proofs.ClosedDocuments.{all_docs, finish_documents, not_mixed}
use Rattle.agg_segment.proofs.EncodedColumns.{front_all, back_all}
use Rattle.agg_segment.proofs.FieldSigns.{marks_joined, moved_marks}
use Rattle.agg_segment.proofs.NotedKeys.{note_raw, notes_read, notes_raw}
use Rattle.agg_segment.proofs.DocumentKeys.{keys_none, no_keys_open, map_same}
use Rattle.agg_segment.proofs.lemmas.storage.Members.{from_map, contains_map}

pub moved_fields : (count : ℕ) (names : List (List ℕ × ℕ)) (cells others : List Placed) (doc : ℕ)
    → ((field : ℕ) → by_class (keys_at others field doc) ≡ by_class (keys_at cells field doc))
    → gathered_fields (record { count = count; names = names; cells = others }) doc
    ≡ gathered_fields (record { count = count; names = names; cells = cells }) doc
moved_fields count names cells others doc same = λ i n. by_number (number_of names n) i
  where
    by_number : (o : Option ℕ) → by_class (option_map_or (λ f. keys_at others f doc) o [])
        ≡ by_class (option_map_or (λ f. keys_at cells f doc) o [])
    by_number None = refl
    by_number (Some f) = same f

-- keys that are the same by class make the same documents
pub moved_documents : (count : ℕ) (names : List (List ℕ × ℕ)) (cells others : List Placed)
    → ((field doc : ℕ) → by_class (keys_at others field doc) ≡ by_class (keys_at cells field doc))
    → gathered_documents (record { count = count; names = names; cells = others })
    ≡ gathered_documents (record { count = count; names = names; cells = cells })
moved_documents count names cells others same =
    map_same (gathered_fields (record { count = count; names = names; cells = others }))
    (gathered_fields (record { count = count; names = names; cells = cells })) 0 count
    (λ d l. moved_fields count names cells others d (λ field. same field d))

module _ (cells others : List Placed) (there : (p : Placed) → Contains cells p → Contains others p)
    (back : (p : Placed) → Contains others p → Contains cells p) where
  pub moved_all : (P : Placed → Type 0) → All P cells → All P others
  moved_all P all k d l =
      All-contains P cells (get_or others k d) all (back (get_or others k d)
      (k, l, get_or_default others k (get_or others k d) d l))

  pub moved_signs : (signs : List Sign) → AreSigns signs (map key_mark cells)
      → AreSigns signs (map key_mark others)
  moved_signs = moved_marks (map key_mark cells) (map key_mark others) (to cells others there)
      (to others cells back)
    where
      to : (ps qs : List Placed) → ((p : Placed) → Contains ps p → Contains qs p)
          → (m : ℕ × Sign) → Contains (map key_mark ps) m → Contains (map key_mark qs) m
      to ps qs moved m has =
          let (p, in', is) = from_map key_mark ps m has in
          subst (Contains (map key_mark qs)) is (contains_map key_mark qs p (moved p in'))

module _ (count : ℕ) (names : List (List ℕ × ℕ)) (cells : List Placed) (given : List Sign)
    (closed : ℕ) (inv : IsGathered (record { count = count; names = names; cells = cells }) given
    closed) (others : List Placed) (there : (p : Placed) → Contains cells p → Contains others p)
    (back : (p : Placed) → Contains others p → Contains cells p) where
  docs_below : All (λ p. p.doc < count + 1) others
  docs_below = moved_all cells others there back (λ (p : Placed). p.doc < count + 1)
      (all_docs count names cells given closed inv)

  pub moved_open : open_document (record { count = count + 1; names = names; cells = others })
      ≡ no_fields
  moved_open = no_keys_open names others (count + 1) (count + 1) (λ field. keys_none others field
      (count + 1) (All-weaker (λ (p : Placed). p.doc < count + 1) (λ p. p.doc ≢ count + 1)
      (λ p l same. omega (arith, l, same)) others docs_below))

  pub moved_inv : (signs : List Sign) → length signs ≡ length given → count < max_documents
      → AreSigns signs (map key_mark cells) → (len : ℕ) → len ≡ length others
      → IsGathered (record { count = count + 1; names = names; cells = others }) signs len
  moved_inv signs as_long few are len is =
      let whole : take len others ≡ others = take_all len others (omega (arith, is)) in
      let rest : drop len others ≡ [] = drop_all len others (omega (arith, is)) in
      record {
        few = omega (arith, few);
        within = omega (arith, is);
        before = rw whole docs_below;
        after = rw rest (λ i d l. absurd (omega (arith, l)));
        numbered = λ name field at. omega (arith, as_long, inv.numbered name field at);
        apart = inv.apart;
        named = λ field l. inv.named field (omega (arith, l, as_long));
        fields = rw as_long (moved_all cells others there back
            (λ (p : Placed). p.field < length given) inv.fields);
        signs = rw whole (moved_signs cells others there back signs are);
      }

-- the open document is forgotten
pub discard_inv : (count : ℕ) (names : List (List ℕ × ℕ)) (cells : List Placed)
    (given : List Sign) (closed : ℕ)
    → IsGathered (record { count = count; names = names; cells = cells }) given closed
    → IsGathered (record { count = count; names = names; cells = take closed cells }) given closed
discard_inv count names cells given closed inv =
    let len : length (take closed cells) ≡ closed =
    grind (arith, length-take closed cells, inv.within)
    in
    let whole : take closed (take closed cells) ≡ take closed cells =
    take_all closed (take closed cells) (omega (arith, len)) in
    let rest : drop closed (take closed cells) ≡ [] =
    drop_all closed (take closed cells) (omega (arith, len)) in
    record {
      few = inv.few;
      within = omega (arith, len);
      before = rw whole inv.before;
      after = rw rest (λ i d l. absurd (omega (arith, l)));
      numbered = inv.numbered;
      apart = inv.apart;
      named = inv.named;
      fields = All-take (λ (p : Placed). p.field < length given) closed cells inv.fields;
      signs = rw whole inv.signs;
    }

-- ---- the open document is closed

-- the marks of all keys are those of the closed documents', and of the open one's
pub all_marks : (count : ℕ) (signs : List Sign) (rs : List Raw) (log : Logged)
    → map key_mark (take (length rs) (builder_cells count signs rs log))
    ++ map key_mark (open_cells count log) ≡ map key_mark (builder_cells count signs rs log)
all_marks count signs rs log =
    let whole : List Placed = builder_cells count signs rs log in
    ap (λ ps. map key_mark (take (length rs) whole) ++ map key_mark ps)
    (sym (dropped (raw_placed signs log.texts log.addresses) rs (open_cells count log)))
    ∙ marks_joined whole (length rs)

-- the documents of the columns' numbers are closed
pub docs_closed : (count : ℕ) (names : List (List ℕ × ℕ)) (signs : List Sign) (rs : List Raw)
    (log : Logged) → IsBuilding count names signs rs log → All (λ r. r.doc < count) rs
docs_closed count names signs rs log inv =
    of_raws rs (subst (All (λ (p : Placed). p.doc < count))
    (taken (raw_placed signs log.texts log.addresses) rs (open_cells count log)) inv.0.before)
  where
    of_raws : (rs : List Raw)
        → All (λ p. p.doc < count) (map (raw_placed signs log.texts log.addresses) rs)
        → All (λ r. r.doc < count) rs
    of_raws [] all k d l = absurd (omega (arith, l))
    of_raws (r ∷ rs) all zero d l = all 0 (raw_placed signs log.texts log.addresses r)
        (omega arith)
    of_raws (r ∷ rs) all (suc k) d l = of_raws rs (All-tail (λ (p : Placed). p.doc < count)
        (raw_placed signs log.texts log.addresses r)
        (map (raw_placed signs log.texts log.addresses) rs) all) k d (omega (arith, l))

module _ (count : ℕ) (names : List (List ℕ × ℕ)) (old : List Sign) (before : List Raw)
    (log : Logged) (inv : IsBuilding count names old before log) (notes : List (RunKind × ℕ))
    (are : map (noted_key log.texts log.addresses) notes ≡ log.keys)
    (kept : All (IsNoted (length log.texts) (length log.addresses)) notes) (signs : List Sign)
    (given : AreSigns signs (map key_mark (builder_cells count old before log)))
    (after : List Raw) (alike : AreAlike after (before ++ map (note_raw count) notes))
    (new : Logged) (texts : new.texts ≡ log.texts) (addresses : new.addresses ≡ log.addresses)
    (empty : new.keys ≡ []) where
  abbrev read : Raw → Placed
  read = raw_placed signs log.texts log.addresses

  abbrev was : Raw → Placed
  was = raw_placed old log.texts log.addresses

  abbrev whole : List Placed
  whole = builder_cells count old before log

  abbrev cells : List Placed
  cells = open_cells count log

  abbrev more : List Raw
  more = map (note_raw count) notes

  marks : All (IsFieldSign signs) (map key_mark (map was before) ++ map key_mark cells)
  marks = subst (All (IsFieldSign signs)) (map-append key_mark (map was before) cells) given.0

  -- the keys of the closed documents stay
  closed_stay : map read before ≡ map was before
  closed_stay = signed_read old signs log.texts log.addresses before
      (front_all (IsFieldSign signs) (map key_mark (map was before)) (map key_mark cells) marks)

  -- the keys of the open document are those of its numbers
  opened : map read more ≡ cells
  opened =
      let same : map (in_document count) (map (noted_key log.texts log.addresses) notes) ≡ cells =
      ap (map (in_document count)) are in
      notes_read signs log.texts log.addresses count notes
      (subst (All (IsFieldSign signs)) (sym (ap (map key_mark) same))
      (back_all (IsFieldSign signs) (map key_mark (map was before)) (map key_mark cells) marks))
      ∙ same

  whole_read : map read (before ++ more) ≡ whole
  whole_read = map-append read before more ∙ ap (λ ps. ps ++ map read more) closed_stay
      ∙ ap (λ ps. map was before ++ ps) opened

  new_cells : builder_cells (count + 1) signs after new ≡ map read after
  new_cells =
      ap (λ ks. map (raw_placed signs new.texts new.addresses) after
      ++ map (in_document (count + 1)) ks) empty
      ∙ append-nil (map (raw_placed signs new.texts new.addresses) after)
      ∙ ap (λ ts. map (raw_placed signs ts new.addresses) after) texts
      ∙ ap (λ as'. map (raw_placed signs log.texts as') after) addresses

  same : (field doc : ℕ) → by_class (keys_at (map read after) field doc)
      ≡ by_class (keys_at whole field doc)
  same field doc = alike_keys signs log.texts log.addresses after (before ++ more) field doc alike
      ∙ ap (λ ps. by_class (keys_at ps field doc)) whole_read

  there : (p : Placed) → Contains whole p → Contains (map read after) p
  there p has =
      let (r, in', is) = from_map read (before ++ more) p
      (subst (λ ps. Contains ps p) (sym whole_read) has) in
      subst (Contains (map read after)) is (contains_map read after r
      (alike_contains (before ++ more) after r (alike_back after (before ++ more) alike) in'))

  back : (p : Placed) → Contains (map read after) p → Contains whole p
  back p has =
      let (r, in', is) = from_map read after p has in
      subst (λ ps. Contains ps p) whole_read (subst (Contains (map read (before ++ more))) is
      (contains_map read (before ++ more) r (alike_contains after (before ++ more) r alike in')))

  pub closed_inv : length signs ≡ length old → count < max_documents
      → IsBuilding (count + 1) names signs after new
  closed_inv as_long few =
      let P : Raw → Type 0 = λ r. IsRaw (length log.texts) (length log.addresses) r.class r.number
      in (
        subst (λ (ps : List Placed). IsGathered (record {
          count = count + 1;
          names = names;
          cells = ps;
        }) signs (length after)) (sym new_cells) (moved_inv count names whole old (length before)
            inv.0 (map read after) there back signs as_long few given (length after)
            (sym (length-map after read))),
        rw (texts, addresses) (alike_all P after (before ++ more) alike
            (All-append P before more inv.1 (notes_raw (length log.texts) (length log.addresses)
            count notes kept))),
      )

  pub closed_documents : gathered_documents (record {
    count = count + 1;
    names = names;
    cells = builder_cells (count + 1) signs after new;
  }) ≡ gathered_documents (record { count = count; names = names; cells = whole })
      ++ open_document (record { count = count; names = names; cells = whole }) ∷ []
  closed_documents =
      ap (λ (ps : List Placed). gathered_documents (record {
        count = count + 1;
        names = names;
        cells = ps;
      })) new_cells
      ∙ moved_documents (count + 1) names whole (map read after) same
      ∙ finish_documents count names whole old (length before) inv.0

  pub closed_open : open_document (record {
    count = count + 1;
    names = names;
    cells = builder_cells (count + 1) signs after new;
  }) ≡ no_fields
  closed_open =
      ap (λ (ps : List Placed). open_document (record {
        count = count + 1;
        names = names;
        cells = ps;
      })) new_cells
      ∙ moved_open count names whole old (length before) inv.0 (map read after) there back

  pub closed_fits : IsMixed (gathered_documents (record {
    count = count + 1;
    names = names;
    cells = builder_cells (count + 1) signs after new;
  })) → ⊥
  closed_fits mixed = not_mixed count names whole old (length before) inv.0 signs given
      (subst IsMixed (ap (λ (ps : List Placed). gathered_documents (record {
        count = count + 1;
        names = names;
        cells = ps;
      })) new_cells ∙ moved_documents (count + 1) names whole (map read after) same) mixed)
