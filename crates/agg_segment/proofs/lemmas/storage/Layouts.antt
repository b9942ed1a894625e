-- Numbers of one buffer, and the documents that they are of.
use Rattle.std.proofs.Common.{◌≡◌, ◌≢◌, ◌+◌, ◌-◌, ◌<◌, ◌≤◌, ℕ, zero, suc, List, [], ◌∷◌, ◌++◌}
use Rattle.std.proofs.Common.{length, get_or, take, drop, true, false, refl, sym, ap}
use Rattle.std.proofs.Common.{subst, ◌∙◌, inl, inr, arith}
use Rattle.std.proofs.Common.{replicate}
use Rattle.std.proofs.lemmas.List.{drop-drop, append-nil, append_assoc}
use Rattle.std.proofs.lemmas.List.{take_more}
use Rattle.std.proofs.lemmas.List.{get_or_default, replicate_more}
use Rattle.std.proofs.lemmas.Bool.{eq-eqb, ne_eqb, cases_eq, cases_lt}
use Rattle.std.proofs.lemmas.List.Elements.{All-push, All-tail, All-head}
use Rattle.std.specs.List.{All, zip, range_with_len, slice_range}
use Rattle.agg_segment.specs.storage.Columns.{numbers_at}
use Rattle.agg_segment.specs.storage.Rows.{listed_docs, last_end, start_at, AreEnds}
use Rattle.std.specs.List.Sorted.{IsNonDecreasingBy, IsNonDecreasing}
use Rattle.std.specs.Prelude.{nat_lt}
use borrow.Author.Tests.{ltb-true, ltb-false}
use Rattle.agg_segment.specs.declared.storage.rows.DocEnd.{DocEnd}

-- ---- one document's numbers in front

pub numbers_none : (ds ns : List ℕ) (doc : ℕ) → All (λ d. d ≢ doc) ds
    → numbers_at (zip ds ns) doc ≡ []
numbers_none [] ns doc other = refl
numbers_none (d ∷ ds) [] doc other = refl
numbers_none (d ∷ ds) (n ∷ ns) doc other = rw (ne_eqb d doc (other zero 0 (omega arith)))
    (numbers_none ds ns doc (All-tail (λ d. d ≢ doc) d ds other))

numbers_here : (k d : ℕ) (ds ns : List ℕ) → numbers_at (zip (replicate k d ++ ds) ns) d
    ≡ take k ns ++ numbers_at (zip ds (drop k ns)) d
numbers_here zero d ds ns = refl
numbers_here (suc k) d [] [] = refl
numbers_here (suc k) d (e ∷ ds) [] = refl
numbers_here (suc k) d ds (n ∷ ns) = rw (eq-eqb d d refl) (ap (λ r. n ∷ r) (numbers_here k d ds ns))

numbers_after : (k d doc : ℕ) (ds ns : List ℕ) → d ≢ doc
    → numbers_at (zip (replicate k d ++ ds) ns) doc ≡ numbers_at (zip ds (drop k ns)) doc
numbers_after zero d doc ds ns other = refl
numbers_after (suc k) d doc [] [] other = refl
numbers_after (suc k) d doc (e ∷ ds) [] other = refl
numbers_after (suc k) d doc ds (n ∷ ns) other = rw (ne_eqb d doc other) (numbers_after k d doc ds
    ns other)

-- ---- listed documents

all_replicate : (P : ℕ → Type 0) (k d : ℕ) (ds : List ℕ) → P d → All P ds
    → All P (replicate k d ++ ds)
all_replicate P zero d ds p rest i e l = rest i e l
all_replicate P (suc k) d ds p rest zero e l = p
all_replicate P (suc k) d ds p rest (suc i) e l = all_replicate P k d ds p rest i e (omega arith)

listed_all : (P : ℕ → Type 0) (start : ℕ) (ends : List DocEnd) → All (λ e. P e.doc) ends
    → All P (listed_docs start ends)
listed_all P start [] all i d l = absurd (omega arith)
listed_all P start (e ∷ ends) all i d l = all_replicate P (e.end - start) e.doc
    (listed_docs e.end ends) (All-head (λ e. P e.doc) e ends all) (listed_all P e.end ends
    (All-tail (λ e. P e.doc) e ends all)) i d l

ends_tail : (start : ℕ) (e : DocEnd) (ends : List DocEnd) → AreEnds start (e ∷ ends)
    → AreEnds e.end ends
ends_tail start e [] are = tt
ends_tail start e (f ∷ ends) are = are.2

ends_up : (start : ℕ) (e : DocEnd) (ends : List DocEnd) → AreEnds start (e ∷ ends) → start ≤ e.end
ends_up start e [] are = are
ends_up start e (f ∷ ends) are = are.0

head_below : (start : ℕ) (e : DocEnd) (ends : List DocEnd) → AreEnds start (e ∷ ends)
    → All (λ f. e.doc < f.doc) ends
head_below start e [] are i d l = absurd (omega arith)
head_below start e (f ∷ ends) are zero d l = are.1
head_below start e (f ∷ ends) are (suc i) d l = let below : f.doc < (get_or ends i d).doc =
    head_below e.end f ends are.2 i d (omega arith) in omega (arith, below, are.1)

pub docs_ascend : (start : ℕ) (ends : List DocEnd) → AreEnds start ends → (i j : ℕ) (d : DocEnd)
    → i < j → j < length ends → (get_or ends i d).doc < (get_or ends j d).doc
docs_ascend start [] are i j d l within = absurd (omega arith)
docs_ascend start (e ∷ ends) are zero zero d l within = absurd (omega arith)
docs_ascend start (e ∷ ends) are zero (suc j) d l within = head_below start e ends are j d
    (omega arith)
docs_ascend start (e ∷ ends) are (suc i) zero d l within = absurd (omega arith)
docs_ascend start (e ∷ ends) are (suc i) (suc j) d l within = docs_ascend e.end ends
    (ends_tail start e ends are) i j d (omega arith) (omega arith)

pub ends_rise : (start : ℕ) (ends : List DocEnd) → AreEnds start ends → start ≤ last_end start ends
ends_rise start [] are = omega arith
ends_rise start (e ∷ ends) are = omega (
  arith,
  ends_up start e ends are,
  ends_rise e.end ends
      (ends_tail start e ends are),
)

pub start_is : (start : ℕ) (ends : List DocEnd) (at : ℕ) (d : DocEnd) → at < length ends
    → (get_or ends at d).end ≡ start_at start ends (suc at)
start_is start [] at d l = absurd (omega arith)
start_is start (e ∷ ends) zero d l = refl
start_is start (e ∷ ends) (suc at) d l = start_is e.end ends at d (omega arith)

pub ends_within : (start : ℕ) (ends : List DocEnd) → AreEnds start ends → (at : ℕ) (d : DocEnd)
    → at < length ends → (start_at start ends at ≤ (get_or ends at d).end)
    × ((get_or ends at d).end ≤ last_end start ends)
ends_within start [] are at d l = absurd (omega arith)
ends_within start (e ∷ ends) are zero d l = (
  ends_up start e ends are,
  ends_rise e.end ends
      (ends_tail start e ends are),
)
ends_within start (e ∷ ends) are (suc at) d l = ends_within e.end ends (ends_tail start e ends are)
    at d (omega arith)

pub listed_found : (start : ℕ) (ends : List DocEnd) (numbers : List ℕ) (at : ℕ) (d : DocEnd)
    → AreEnds start ends → at < length ends
    → numbers_at (zip (listed_docs start ends) (drop start numbers)) (get_or ends at d).doc
    ≡ slice_range numbers (start_at start ends at) (get_or ends at d).end
listed_found start [] numbers at d are l = absurd (omega arith)
listed_found start (e ∷ ends) numbers zero d are l =
    numbers_here (e.end - start) e.doc (listed_docs e.end ends) (drop start numbers)
    ∙ ap (λ r. take (e.end - start) (drop start numbers) ++ r)
    (numbers_none (listed_docs e.end ends) (drop (e.end - start) (drop start numbers)) e.doc
    (listed_all (λ x. x ≢ e.doc) e.end ends (λ i f in'. let below : e.doc < (get_or ends i f).doc =
    head_below start e ends are i f in' in λ same. omega (arith, below, same))))
    ∙ append-nil (take (e.end - start) (drop start numbers))
listed_found start (e ∷ ends) numbers (suc at) d are l =
    let below : e.doc < (get_or ends at d).doc = head_below start e ends are at d (omega arith) in
    let up = ends_up start e ends are in
    let there : start + (e.end - start) ≡ e.end = omega (arith, up) in
    numbers_after (e.end - start) e.doc (get_or ends at d).doc (listed_docs e.end ends)
    (drop start numbers) (λ same. omega (arith, below, same))
    ∙ ap (λ ns. numbers_at (zip (listed_docs e.end ends) ns) (get_or ends at d).doc)
    (drop-drop (e.end - start) start numbers ∙ ap (λ k. drop k numbers) there)
    ∙ listed_found e.end ends numbers at d (ends_tail start e ends are) (omega arith)

pub listed_absent : (ends : List DocEnd) (numbers : List ℕ) (doc : ℕ) → All (λ e. e.doc ≢ doc) ends
    → numbers_at (zip (listed_docs 0 ends) numbers) doc ≡ []
listed_absent ends numbers doc other = numbers_none (listed_docs 0 ends) numbers doc
    (listed_all (λ x. x ≢ doc) 0 ends other)

-- a document that isn't at its place is nowhere
pub not_listed : (ends : List DocEnd) (doc at : ℕ) → AreEnds 0 ends → ((i : ℕ) (d : DocEnd) → i < at
    → i < length ends → (get_or ends i d).doc < doc)
    → ((d : DocEnd) → at < length ends → doc < (get_or ends at d).doc) → All (λ e. e.doc ≢ doc) ends
not_listed ends doc at are before here i d l = elim (cases_lt i at) [
  | inl below ↦ λ same. omega (arith, before i d below l, same)
  | inr above ↦ elim (cases_eq i at) [
    | inl same-place ↦ λ same. omega (
      arith,
      subst (λ k. doc < (get_or ends k d).doc)
          (sym same-place) (here d (omega (arith, same-place, l))),
      same,
    )
    | inr other ↦
        let up : (get_or ends at d).doc < (get_or ends i d).doc = docs_ascend 0 ends are at i d
        (omega (arith, above, other)) l in
        let low : doc < (get_or ends at d).doc = here d (omega (arith, above, l)) in
        λ same. omega (arith, up, low, same)
  ]
]

-- ---- one more listed document

pub listed_more : (start : ℕ) (ends : List DocEnd) (x : DocEnd) → listed_docs start (ends ++ x ∷ [])
    ≡ listed_docs start ends ++ replicate (x.end - last_end start ends) x.doc
listed_more start [] x = append-nil (replicate (x.end - start) x.doc)
listed_more start (e ∷ ends) x = ap (λ r. replicate (e.end - start) e.doc ++ r)
    (listed_more e.end ends x) ∙ sym (append_assoc (replicate (e.end - start) e.doc)
    (listed_docs e.end ends) (replicate (x.end - last_end e.end ends) x.doc))

pub last_more : (start : ℕ) (ends : List DocEnd) (x : DocEnd)
    → last_end start (ends ++ x ∷ []) ≡ x.end
last_more start [] x = refl
last_more start (e ∷ ends) x = last_more e.end ends x

pub ends_more : (start : ℕ) (ends : List DocEnd) (x : DocEnd) → AreEnds start ends
    → All (λ e. e.doc < x.doc) ends → last_end start ends ≤ x.end → AreEnds start (ends ++ x ∷ [])
ends_more start [] x are below up = up
ends_more start (e ∷ []) x are below up = (are, All-head (λ e. e.doc < x.doc) e [] below, up)
ends_more start (e ∷ f ∷ ends) x are below up = (
  are.0,
  are.1,
  ends_more e.end (f ∷ ends) x are.2
      (All-tail (λ e. e.doc < x.doc) e (f ∷ ends) below) up,
)

-- a run of one document
pub run_more : (ds : List ℕ) (from n doc : ℕ) → from + n ≤ length ds → ((k : ℕ) → from ≤ k
    → k < from + n → get_or ds k 0 ≡ doc) → take (from + n) ds ≡ take from ds ++ replicate n doc
run_more ds from zero doc within same = let none : from + 0 ≡ from = omega arith in
    ap (λ k. take k ds) none ∙ sym (append-nil (take from ds))
run_more ds from (suc n) doc within same =
    let next : from + suc n ≡ (from + n) + 1 = omega arith in
    let more : n + 1 ≡ suc n = omega arith in
    ap (λ k. take k ds) next ∙ take_more ds (from + n) 0 (omega (arith, within))
    ∙ ap (λ r. r ++ get_or ds (from + n) 0 ∷ []) (run_more ds from n doc (omega (arith, within))
    (λ k low high. same k low (omega (arith, high))))
    ∙ ap (λ d. take from ds ++ replicate n doc ++ d ∷ []) (same (from + n) (omega arith)
    (omega arith))
    ∙ append_assoc (take from ds) (replicate n doc) (doc ∷ []) ∙ ap (λ r. take from ds ++ r)
    (replicate_more n doc ∙ ap (λ k. replicate k doc) more)

pub range_more : (a n : ℕ) → range_with_len a (n + 1) ≡ range_with_len a n ++ (a + n) ∷ []
range_more a n = let next : n + 1 ≡ suc n = omega arith in ap (range_with_len a) next ∙ by_count a n
  where
    by_count : (a n : ℕ) → range_with_len a (suc n) ≡ range_with_len a n ++ (a + n) ∷ []
    by_count a zero = let same : a ≡ a + 0 = omega arith in ap (λ k. k ∷ []) same
    by_count a (suc n) = let same : (a + 1) + n ≡ a + suc n = omega arith in
        ap (λ r. a ∷ r) (by_count (a + 1) n ∙ ap (λ k. range_with_len (a + 1) n ++ k ∷ []) same)

-- ---- steps of the loops

pub docs_rise : (ends : List DocEnd) → AreEnds 0 ends → IsNonDecreasingBy (λ e. e.doc) ends
docs_rise ends are i j d low within = elim (cases_eq i j) [
  | inl same ↦ let there : (get_or ends i d).doc ≡ (get_or ends j d).doc =
      ap (λ k. (get_or ends k d).doc) same in omega (arith, there)
  | inr other ↦ omega (arith, docs_ascend 0 ends are i j d (omega (arith, low, other)) within)
]

pub nothing_at : (ends : List DocEnd) (doc at : ℕ) (d : DocEnd) → AreEnds 0 ends
    → ((i : ℕ) (d : DocEnd) → i < at → nat_lt (get_or ends i d).doc doc ≡ true)
    → ((i : ℕ) (d : DocEnd) → at ≤ i → i < length ends → nat_lt (get_or ends i d).doc doc ≡ false)
    → (at < length ends → (get_or ends at d).doc ≢ doc)
    → (numbers : List ℕ) → numbers_at (zip (listed_docs 0 ends) numbers) doc ≡ []
nothing_at ends doc at d are before after other numbers =
    listed_absent ends numbers doc (not_listed ends doc at are (λ i e low within.
    ltb-true _ _ (before i e low))
    (λ e within. let up : doc ≤ (get_or ends at e).doc =
    ltb-false _ _ (after at e (omega arith) within) in
    let same : (get_or ends at e).doc ≡ (get_or ends at d).doc = ap (λ (f : DocEnd). f.doc)
    (get_or_default ends at e d within) in
    let apart : (get_or ends at e).doc ≢ doc = λ is. other within (sym same ∙ is) in
    omega (arith, up, apart)))

module _ (docs : List ℕ) (rising : IsNonDecreasing docs) (ends : List DocEnd)
    (from to : ℕ) (x : DocEnd) (low : from < to) (within : to ≤ length docs) (end : x.end ≡ to)
    (here : (d : ℕ) → x.doc ≡ get_or docs from d)
    (same : (k d : ℕ) → from ≤ k → k < to → get_or docs k d ≡ get_or docs from d)
    (other : (d : ℕ) → to < length docs → get_or docs to d ≢ get_or docs from d)
    (all : last_end 0 ends ≡ from) (below : (d : ℕ) → from < length docs
    → All (λ e. e.doc < get_or docs from d) ends) where
  pub step_docs : listed_docs 0 ends ≡ take from docs
      → listed_docs 0 (ends ++ x ∷ []) ≡ take to docs
  step_docs listed =
      let there : from + (to - from) ≡ to = omega arith in
      listed_more 0 ends x ∙ ap (λ e. listed_docs 0 ends ++ replicate (e - last_end 0 ends) x.doc)
      end ∙ ap (λ s. listed_docs 0 ends ++ replicate (to - s) x.doc) all
      ∙ ap (λ r. r ++ replicate (to - from) x.doc) listed
      ∙ sym (run_more docs from (to - from) x.doc (omega arith) (λ k up high.
      same k 0 up (omega (arith, high)) ∙ sym (here 0)))
      ∙ ap (λ k. take k docs) there

  pub step_rise : AreEnds 0 ends → AreEnds 0 (ends ++ x ∷ [])
  step_rise rise =
      ends_more 0 ends x rise (λ k e l. subst (λ doc. (get_or ends k e).doc < doc) (sym (here 0))
      (below 0 (omega arith) k e l))
      (omega (arith, all, end))

  pub step_all : last_end 0 (ends ++ x ∷ []) ≡ to
  step_all = last_more 0 ends x ∙ end

  pub step_below : (d : ℕ) → to < length docs
      → All (λ e. e.doc < get_or docs to d) (ends ++ x ∷ [])
  step_below d more =
      let up : get_or docs from d ≤ get_or docs to d = rising from to d (omega arith)
      more in
      let apart : get_or docs to d ≢ get_or docs from d = other d more in
      let above : get_or docs from d < get_or docs to d = omega (arith, up, apart) in
      All-push (λ e. e.doc < get_or docs to d) ends x (λ k e l.
      omega (arith, below d (omega arith) k e l, above)) (omega (arith, here d, above))
