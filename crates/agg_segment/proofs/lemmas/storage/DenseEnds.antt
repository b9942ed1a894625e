-- Where the numbers of each document end, for all documents up to the last.
use Rattle.std.proofs.Common.{◌≡◌, ◌≢◌, ◌+◌, ◌-◌, ◌<◌, ◌≤◌, ℕ, zero, suc, List, [], ◌∷◌, ◌++◌}
use Rattle.std.proofs.Common.{length, get_or, take, refl, sym, ap, subst, ◌∙◌, arith}
use Rattle.std.proofs.Common.{replicate, length-append, inl, inr}
use Rattle.std.proofs.lemmas.List.{get_or_default}
use Rattle.std.proofs.lemmas.List.{take_all}
use Rattle.std.proofs.lemmas.Bool.{cases_lt}
use Rattle.std.specs.List.{All, zip, slice_range}
use Rattle.std.specs.List.Sorted.{IsNonDecreasing}
use Rattle.agg_segment.specs.storage.Columns.{numbers_at}
use Rattle.agg_segment.specs.storage.Rows.{listed_docs, last_end, start_at, numbered, AreEnds}
use Rattle.agg_segment.specs.storage.Rows.{AreEndsOf}
use Rattle.agg_segment.specs.declared.storage.rows.DocEnd.{DocEnd}
use Rattle.agg_segment.proofs.lemmas.storage.Layouts.{listed_found, listed_absent, listed_more}
use Rattle.agg_segment.proofs.lemmas.storage.Layouts.{last_more, ends_more, ends_within, run_more}
use Rattle.agg_segment.proofs.lemmas.storage.Layouts.{start_is}

-- no end
abbrev no_end : DocEnd
no_end = record { doc = 0; end = 0 }

pub length-numbered : (from : ℕ) (ends : List ℕ) → length (numbered from ends) ≡ length ends
length-numbered from [] = refl
length-numbered from (e ∷ ends) = ap suc (length-numbered (from + 1) ends)

pub numbered_at : (from : ℕ) (ends : List ℕ) (at : ℕ) (d : DocEnd) (e : ℕ) → at < length ends
    → (x : DocEnd) → x.doc ≡ from + at → x.end ≡ get_or ends at e
    → get_or (numbered from ends) at d ≡ x
numbered_at from [] at d e l x doc end = absurd (omega arith)
numbered_at from (f ∷ ends) zero d e l x doc end =
    let there : from ≡ x.doc = omega (arith, doc) in
    ap (λ k. record { doc = k; end = f }) there
    ∙ ap (λ k. record { doc = x.doc; end = k }) (sym end)
numbered_at from (f ∷ ends) (suc at) d e l x doc end =
    numbered_at (from + 1) ends at d e (omega arith) x (omega (arith, doc)) end

pub numbered_more : (from : ℕ) (ends : List ℕ) (x : DocEnd) → x.doc ≡ from + length ends
    → numbered from (ends ++ x.end ∷ []) ≡ numbered from ends ++ x ∷ []
numbered_more from [] x doc = let there : from ≡ x.doc = omega (arith, doc) in
    ap (λ k. record { doc = k; end = x.end } ∷ []) there
numbered_more from (e ∷ ends) x doc =
    ap (λ r. record { doc = from; end = e } ∷ r)
    (numbered_more (from + 1) ends x (omega (arith, doc)))

numbered_below : (from : ℕ) (ends : List ℕ) (doc : ℕ) → from + length ends ≤ doc
    → All (λ e. e.doc < doc) (numbered from ends)
numbered_below from [] doc up i d l = absurd (omega arith)
numbered_below from (e ∷ ends) doc up zero d l = omega (arith, up)
numbered_below from (e ∷ ends) doc up (suc i) d l =
    numbered_below (from + 1) ends doc (omega (arith, up)) i d (omega arith)

pub dense_start_is : (ends : List ℕ) (at e : ℕ) → at < length ends
    → get_or ends at e ≡ start_at 0 (numbered 0 ends) (suc at)
dense_start_is ends at e l =
    let x : DocEnd = record { doc = 0 + at; end = get_or ends at e } in
    ap (λ (y : DocEnd). y.end) (sym (numbered_at 0 ends at no_end e l x refl refl))
    ∙ start_is 0 (numbered 0 ends) at no_end (omega (arith, l, length-numbered 0 ends))

pub dense_within : (ends : List ℕ) (count at e : ℕ) → AreEndsOf (numbered 0 ends) count
    → at < length ends → (start_at 0 (numbered 0 ends) at ≤ get_or ends at e)
    × (get_or ends at e ≤ count)
dense_within ends count at e are l =
    let x : DocEnd = record { doc = 0 + at; end = get_or ends at e } in
    let is : get_or (numbered 0 ends) at no_end ≡ x =
    numbered_at 0 ends at no_end e l x refl refl in
    let end : (get_or (numbered 0 ends) at no_end).end ≡ get_or ends at e =
    ap (λ (y : DocEnd). y.end) is in
    let w = ends_within 0 (numbered 0 ends) are.0 at no_end
    (omega (arith, l, length-numbered 0 ends)) in
    (omega (arith, w.0, end), omega (arith, w.1, end, are.1))

pub dense_found : (ends numbers : List ℕ) (at e : ℕ) → AreEnds 0 (numbered 0 ends)
    → at < length ends → slice_range numbers (start_at 0 (numbered 0 ends) at) (get_or ends at e)
    ≡ numbers_at (zip (listed_docs 0 (numbered 0 ends)) numbers) at
dense_found ends numbers at e are l =
    let all = numbered 0 ends in
    let x : DocEnd = record { doc = at; end = get_or ends at e } in
    let is : get_or all at no_end ≡ x = numbered_at 0 ends at no_end e l x (omega arith) refl in
    ap (λ (y : DocEnd). slice_range numbers (start_at 0 all at) y.end) (sym is)
    ∙ sym (listed_found 0 all numbers at no_end are (omega (arith, l, length-numbered 0 ends)))
    ∙ ap (λ (y : DocEnd). numbers_at (zip (listed_docs 0 all) numbers) y.doc) is

pub dense_none : (ends numbers : List ℕ) (doc : ℕ) → length ends ≤ doc
    → [] ≡ numbers_at (zip (listed_docs 0 (numbered 0 ends)) numbers) doc
dense_none ends numbers doc l = sym (listed_absent (numbered 0 ends) numbers doc
    (λ i d in'. let below : (get_or (numbered 0 ends) i d).doc < doc =
    numbered_below 0 ends doc (omega (arith, l)) i d in' in λ same. omega (arith, below, same)))

-- what is true after some documents: the ends are of documents up to a place, and those after it
-- are of later documents
pub record AreSoFar (docs : List ℕ) (doc at : ℕ) (ends : List ℕ) : Type 0 where
  pub each : length ends ≡ doc
  pub within : at ≤ length docs
  pub listed : listed_docs 0 (numbered 0 ends) ≡ take at docs
  pub rise : AreEnds 0 (numbered 0 ends)
  pub all : last_end 0 (numbered 0 ends) ≡ at
  pub after : (d : ℕ) → at < length docs → doc ≤ get_or docs at d

module _ (docs : List ℕ) (rising : IsNonDecreasing docs) (doc from to : ℕ)
    (ends : List ℕ) (so_far : AreSoFar docs doc from ends) (up : from ≤ to)
    (within : to ≤ length docs)
    (same : (k d : ℕ) → from ≤ k → k < to → get_or docs k d ≡ doc)
    (other : (d : ℕ) → to < length docs → get_or docs to d ≢ doc) where
  -- the end of the document
  abbrev end : DocEnd
  end = record { doc = doc; end = to }

  more : numbered 0 (ends ++ to ∷ []) ≡ numbered 0 ends ++ end ∷ []
  more = numbered_more 0 ends end (omega (arith, so_far.each))

  step_docs : listed_docs 0 (numbered 0 ends ++ end ∷ []) ≡ take to docs
  step_docs =
      let there : from + (to - from) ≡ to = omega (arith, up) in
      listed_more 0 (numbered 0 ends) end
      ∙ ap (λ s. listed_docs 0 (numbered 0 ends) ++ replicate (to - s) doc) so_far.all
      ∙ ap (λ r. r ++ replicate (to - from) doc) so_far.listed
      ∙ sym (run_more docs from (to - from) doc (omega (arith, within, up)) (λ k low high.
      same k 0 low (omega (arith, high, up))))
      ∙ ap (λ k. take k docs) there

  after : (d : ℕ) → to < length docs → doc + 1 ≤ get_or docs to d
  after d l =
      let first : doc ≤ get_or docs from d = so_far.after d (omega (arith, l, up)) in
      let then : get_or docs from d ≤ get_or docs to d = rising from to d up l in
      let apart : get_or docs to d ≢ doc = other d l in
      omega (arith, first, then, apart)

  pub next_doc : AreSoFar docs (doc + 1) to (ends ++ to ∷ [])
  next_doc = record {
    each = length-append ends (to ∷ []) ∙ ap (λ k. k + 1) so_far.each;
    within = within;
    listed = ap (listed_docs 0) more ∙ step_docs;
    rise = subst (AreEnds 0) (sym more) (ends_more 0 (numbered 0 ends) end so_far.rise
        (numbered_below 0 ends doc (omega (arith, so_far.each))) (omega (arith, so_far.all, up)));
    all = ap (last_end 0) more ∙ last_more 0 (numbered 0 ends) end;
    after = after;
  }

-- at the end all documents are after
at_end : (docs : List ℕ) (doc count at : ℕ) (ends : List ℕ) → AreSoFar docs doc at ends
    → count ≤ doc → All (λ doc. doc < count) docs → at ≡ length docs
at_end docs doc count at ends so_far past all = elim (cases_lt at (length docs)) [
  | inl left ↦
      let low : doc ≤ get_or docs at 0 = so_far.after 0 left in
      let high : get_or docs at 0 < count = all at 0 left in
      absurd (omega (arith, low, high, past))
  | inr end ↦ omega (arith, end, so_far.within)
]

pub docs_at_end : (docs : List ℕ) (doc count at : ℕ) (ends : List ℕ)
    → AreSoFar docs doc at ends → count ≤ doc → All (λ doc. doc < count) docs
    → listed_docs 0 (numbered 0 ends) ≡ docs
docs_at_end docs doc count at ends so_far past all =
    let whole : at ≡ length docs = at_end docs doc count at ends so_far past all in
    so_far.listed ∙ ap (λ k. take k docs) whole ∙ take_all (length docs) docs (omega arith)

pub ends_at_end : (docs : List ℕ) (doc count at : ℕ) (ends : List ℕ)
    → AreSoFar docs doc at ends → count ≤ doc → All (λ doc. doc < count) docs
    → AreEndsOf (numbered 0 ends) (length docs)
ends_at_end docs doc count at ends so_far past all =
    (so_far.rise, so_far.all ∙ at_end docs doc count at ends so_far past all)

pub last_is_greatest : (docs : List ℕ) (rising : IsNonDecreasing docs)
    (d : ℕ) → 0 < length docs
    → All (λ doc. doc < get_or docs (length docs - 1) d + 1) docs
last_is_greatest docs rising d some i e l =
    let up : get_or docs i e ≤ get_or docs (length docs - 1) e =
    rising i (length docs - 1) e (omega (arith, l)) (omega (arith, some)) in
    let same : get_or docs (length docs - 1) e ≡ get_or docs (length docs - 1) d =
    get_or_default docs (length docs - 1) e d (omega (arith, some)) in
    omega (arith, up, same)
