-- Marks of documents, by the numbers of columns and by other marks.
use Rattle.std.proofs.Common.{◌≡◌, ◌∙◌, refl, sym, ap, cond, ℕ, zero, suc, ◌+◌, ◌<◌, List}
use Rattle.std.proofs.Common.{[], ◌∷◌, ◌++◌, Bool, true, false, ◌||◌, Some, None, map, length}
use Rattle.std.proofs.Common.{add-one, arith}
use Rattle.std.proofs.lemmas.List.Elements.{All-head, All-tail}
use Rattle.std.proofs.Common.{Result, Vec, Global, IfOk, ◌&&◌, not}
use Rattle.std.proofs.lemmas.Result.{IfOk-weaker}
use Rattle.agg_values.specs.declared.error.OutOfMemory.{OutOfMemory}
use Rattle.agg_segment.specs.declared.query.QueryTree.{QueryTree}
use Rattle.std.proofs.lemmas.List.{length-map}
use Rattle.std.proofs.lemmas.Simd.{map-map}
use Rattle.std.proofs.lemmas.List.Elements.{filter-append}
use Rattle.std.proofs.lemmas.List.Folds.{list_any-append}
use Rattle.std.proofs.lemmas.List.FromFn.{fill_by_all, get_or-map-range_with_len}
use Rattle.std.proofs.lemmas.List.FromFn.{length-range_with_len}
use Rattle.std.specs.List.{All, list_any, filter, range_with_len}
use Rattle.agg_values.specs.TypedKey.{CompositeIntermediateKey}
use Rattle.agg_segment.specs.storage.Document.{Fields}
use Rattle.agg_segment.specs.Segment.{Stored, document_at, documents_at, documents_of}
use Rattle.agg_segment.specs.storage.Columns.{StoredColumn, encoded_key, column_keys, all_keys}
use Rattle.agg_segment.specs.Marks.{AreMarks, mark_at, marked_docs, has_key}
use Rattle.agg_segment.specs.Query.{matches, some_matches}
use Rattle.agg_segment.specs.Spans.{is_in, IsColumnNumber, IsSpanOf}
use Rattle.agg_segment.specs.declared.storage.keys.ColumnKeys.{ColumnKeys}
use Rattle.agg_segment.specs.declared.query.span.Span.{Span}

-- a span has a number where a key is such
pub span_finds : (keys : ColumnKeys) (is_such : CompositeIntermediateKey → Bool) (span : Span)
    → IsSpanOf keys is_such (Some span) → (ns : List ℕ) → All (IsColumnNumber keys) ns
    → list_any (is_in span) ns ≡ list_any is_such (map (encoded_key keys) ns)
span_finds keys is_such span of [] all = refl
span_finds keys is_such span of (n ∷ ns) all =
    rw (
      of n (All-head (IsColumnNumber keys) n ns all),
      span_finds keys is_such span of ns
          (All-tail (IsColumnNumber keys) n ns all),
    ) refl

-- where there is no span no key is such
pub none_found : (keys : ColumnKeys) (is_such : CompositeIntermediateKey → Bool)
    → IsSpanOf keys is_such None → (ns : List ℕ) → list_any is_such (map (encoded_key keys) ns)
    ≡ false
none_found keys is_such none [] = refl
none_found keys is_such none (n ∷ ns) = rw (none n, none_found keys is_such none ns) refl

pub nothing_added : (a b : Bool) → b ≡ false → a ≡ (a || b)
nothing_added true b h = refl
nothing_added false b h = sym h

-- a column has such a key where all columns together have it
pub any_of_columns : (is_such : CompositeIntermediateKey
    → Bool) (doc : ℕ) (columns : List StoredColumn) → list_any (has_key is_such doc) columns
    ≡ list_any is_such (all_keys columns doc)
any_of_columns is_such doc [] = refl
any_of_columns is_such doc (column ∷ columns) =
    rw (
      any_of_columns is_such doc columns,
      list_any-append is_such (column_keys column doc)
          (all_keys columns doc),
    ) refl

-- marks and others, taken together
pub combined : (op : Bool → Bool → Bool) (p q r : Fields
    → Bool) (segment : Stored) (old new others : List Bool) → ((document : Fields)
    → r document ≡ op (p document) (q document)) → AreMarks p segment old
    → AreMarks q segment others → length new ≡ length old → ((doc : ℕ) → doc < length old
    → mark_at new doc ≡ op (mark_at old doc) (mark_at others doc)) → AreMarks r segment new
combined op p q r segment old new others is a b same told = record {
  each = same ∙ a.each;
  few = omega (arith, same, a.few);
  told = λ doc l.
      let in_old : doc < length old = omega (arith, same, l) in
      let in_others : doc < length others = omega (arith, in_old, a.each, b.each) in
      told doc in_old ∙ rw (a.told doc in_old, b.told doc in_others)
      (sym (is (document_at segment doc)));
}

-- marks say the same where the documents are the same
pub AreMarks-same : (p q : Fields → Bool) (segment : Stored) (marks : List Bool)
    → ((document : Fields) → q document ≡ p document) → AreMarks p segment marks
    → AreMarks q segment marks
AreMarks-same p q segment marks same a = record {
  each = a.each;
  few = a.few;
  told = λ doc l.
      a.told doc l ∙ sym (same (document_at segment doc));
}

each_document : (segment : Stored) → length (documents_of segment) ≡ segment.count
each_document segment = length-map (range_with_len 0 segment.count) (document_at segment)
    ∙ length-range_with_len 0 segment.count

-- marks as the documents in order
pub marks_in_order : (p : Fields → Bool) (segment : Stored) (marks : List Bool)
    → AreMarks p segment marks → marks ≡ map p (documents_of segment)
marks_in_order p segment marks a =
    let each : length marks ≡ segment.count = a.each ∙ each_document segment in
    fill_by_all (λ doc. p (document_at segment doc)) marks segment.count false each (λ k l.
    a.told k (omega (arith, l, each)))
    ∙ sym (map-map p (document_at segment) (range_with_len 0 segment.count))

-- marks of the documents in order, one by one
mark_of : (p : Fields → Bool) (segment : Stored) (doc : ℕ) → doc < segment.count
    → mark_at (map p (documents_of segment)) doc ≡ p (document_at segment doc)
mark_of p segment doc l =
    rw (map-map p (document_at segment) (range_with_len 0 segment.count)) (get_or-map-range_with_len
    (λ k. p (document_at segment k)) 0 segment.count doc doc false l (omega arith))

-- tests that agree on a range pick the same numbers
same_picked : (t u : ℕ → Bool) (a n : ℕ) → ((k : ℕ) → k < a + n → t k ≡ u k)
    → filter t (range_with_len a n) ≡ filter u (range_with_len a n)
same_picked t u a zero same = refl
same_picked t u a (suc n) same = rw (
  same a (omega arith),
  same_picked t u (a + 1) n (λ k l.
      same k (omega (arith, l))),
) refl

picked-map : {X Y : Type 0} (p : Y → Bool) (f : X → Y) (xs : List X)
    → map f (filter (λ x. p (f x)) xs) ≡ filter p (map f xs)
picked-map p f [] = refl
picked-map p f (x ∷ xs) = picked_step (p (f x)) f x (filter (λ y. p (f y)) xs) (filter p (map f xs))
    (picked-map p f xs)
  where
    picked_step : {X Y : Type 0} (b : Bool) (f : X → Y) (x : X) (xs : List X) (ys : List Y)
        → map f xs ≡ ys → map f (cond b (x ∷ xs) xs) ≡ cond b (f x ∷ ys) ys
    picked_step true f x xs ys e = ap (λ zs. f x ∷ zs) e
    picked_step false f x xs ys e = e

-- the marked documents are those that a query matches
pub marked_documents : (p : Fields → Bool) (segment : Stored) (marks : List Bool)
    → marks ≡ map p (documents_of segment) → documents_at segment (marked_docs marks)
    ≡ filter p (documents_of segment)
marked_documents p segment marks is =
    let each : length marks ≡ segment.count = ap length is ∙ length-map (documents_of segment) p
    ∙ each_document segment in
    let picked : marked_docs marks ≡ filter (λ doc. p (document_at segment doc))
    (range_with_len 0 segment.count) =
    ap (λ n. filter (mark_at marks) (range_with_len 0 n)) each
    ∙ same_picked (mark_at marks) (λ doc. p (document_at segment doc)) 0 segment.count (λ k l.
    ap (λ ms. mark_at ms k) is ∙ mark_of p segment k (omega (arith, l)))
    in ap (map (document_at segment)) picked ∙ picked-map p (document_at segment)
    (range_with_len 0 segment.count)

range_suc : (a n j : ℕ) → a + n ≡ j → range_with_len a (suc n) ≡ range_with_len a n ++ j ∷ []
range_suc a zero j h = let same : a ≡ j = omega (arith, h) in ap (λ k. k ∷ []) same
range_suc a (suc n) j h = ap (λ ks. a ∷ ks) (range_suc (a + 1) n j (omega (arith, h)))

-- one more document, marked or not
pub marked_more : (marks : List Bool) (docs : List ℕ) (n : ℕ) (b : Bool)
    → docs ≡ filter (mark_at marks) (range_with_len 0 n) → mark_at marks n ≡ b
    → docs ++ cond b (n ∷ []) [] ≡ filter (mark_at marks) (range_with_len 0 (n + 1))
marked_more marks docs n b is at =
    let longer : range_with_len 0 (n + 1) ≡ range_with_len 0 n ++ n ∷ [] = ap (range_with_len 0)
    (add-one n) ∙ range_suc 0 n n (omega arith) in
    let split : filter (mark_at marks) (range_with_len 0 (n + 1)) ≡ filter (mark_at marks)
    (range_with_len 0 n) ++ cond b (n ∷ []) [] =
    ap (filter (mark_at marks)) longer ∙ filter-append (mark_at marks) (range_with_len 0 n) (n ∷ [])
    ∙ ap (λ m. filter (mark_at marks) (range_with_len 0 n) ++ cond m (n ∷ []) []) at
    in ap (λ ds. ds ++ cond b (n ∷ []) []) is ∙ sym split

-- marks of what one query matches and others don't, as those of a query that says the same
pub without : (p q : Fields → Bool) (segment : Stored) (old : List Bool)
    (slice others : List QueryTree) (result : Result (Vec Bool Global) OutOfMemory)
    → ((document : Fields) → q document ≡
    (p document && not (some_matches matches others document)))
    → slice ≡ others → AreMarks p segment old → IfOk result (λ left. (is_such : Fields → Bool)
    → AreMarks is_such segment old
    → AreMarks (λ document. is_such document && not (some_matches matches slice document)) segment
    left.items) → IfOk result (λ left. AreMarks q segment left.items)
without p q segment old slice others result same is marks =
    IfOk-weaker result (λ left. (is_such : Fields → Bool) → AreMarks is_such segment old
    → AreMarks (λ document. is_such document && not (some_matches matches slice document)) segment
    left.items) (λ left. AreMarks q segment left.items)
    (λ left told. AreMarks-same
    (λ document. p document && not (some_matches matches slice document)) q
    segment left.items
    (λ document. same document ∙ ap
    (λ trees. p document && not (some_matches matches trees document))
    (sym is)) (told p marks))
