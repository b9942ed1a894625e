-- The tuples that pages hold: no other than one comes by a visit, whatever it answers.
use Rattle.std.proofs.Common.{◌≡◌, ◌≢◌, ◌==◌, ◌<◌, ◌⊎◌, ℕ, Bool, true, false, List, [], ◌∷◌, ◌++◌}
use Rattle.std.proofs.Common.{Option, None, Some, OnErr, Result, Ok, Err, length}
use Rattle.std.proofs.Common.{get_or, set, cond, sym, ◌∙◌, subst, inl, inr, ⊎_elim, Ordering}
use Rattle.std.specs.Prelude.{IsSome}
use Rattle.std.specs.BTreeMap.{is_at}
use Rattle.std.specs.Map.{lookup}
use Rattle.std.proofs.lemmas.Bool.{cases_Bool}
use Rattle.std.proofs.lemmas.List.{get_or-set_same, get_or-set_other}
use Rattle.agg_composite.specs.buckets.Page.{AddsAtMost, Has, HasRoom, Page, PageTakes, Puts}
use Rattle.agg_composite.specs.declared.buckets.bucket.Bucket.{Bucket}
use Rattle.agg_composite.proofs.lemmas.buckets.Owners.{number-is, number-same}

-- what is so is so where there is an error
pub after-error : {T E : Type 0} (result : Result T E) (P : Type 0) → P → OnErr result P
after-error (Ok x) P p = tt
after-error (Err e) P p = p

-- nothing is found at None
none-found : (x : Option Bucket) (A : Type 0) → x ≡ None → IsSome x → A
none-found None A is some = absurd (cc some)
none-found (Some b) A is some = absurd (cc is)

-- what is found later is found where one comes before
found-later : (b : Bool) (first : Bucket) (x y : Option Bucket) → (IsSome x → IsSome y)
    → IsSome (cond b (Some first) x) → IsSome (cond b (Some first) y)
found-later true first x y later some = some
found-later false first x y later some = later some

module _ {S : Type 0} (R : S → S → Ordering) where
  -- the page is as it was
  pub adds-none : (t : S) (old new : Page S) → new ≡ old → AddsAtMost R t old new
  adds-none t old new same q has = inl (subst (λ (p : Page S). Has R p q) same has)

  -- a tuple was put
  adds-one : (size : ℕ) (t : S) (b : Bucket) (old new : Page S) → Puts R size t b old new
      → AddsAtMost R t old new
  adds-one size t b old new put q has = elim (cases_Bool (is_at (R t) q)) [
    | inl same ↦ inr same
    | inr other ↦
        ⊎_elim (λ kept. inl (subst IsSome kept has))
        (λ gone. none-found (lookup (is_at (R q)) new) (Has R old q ⊎ (is_at (R t) q ≡ true))
        gone.0 has)
        (put.others q other)
  ]

  -- a visit was taken
  pub adds-taken : (size next next_now : ℕ) (t : S) (old new : Page S) (id : Option ℕ)
      → PageTakes R size t next next_now old new id → AddsAtMost R t old new
  adds-taken size next next_now t old new None takes = adds-none t old new takes.0
  adds-taken size next next_now t old new (Some id) (inl (b, drawn, was, id_is, put)) =
      adds-one size t _ old new put
  adds-taken size next next_now t old new (Some id) (inr (drawn, id_is, was, room, put)) =
      adds-one size t _ old new put

  has-front : (page : Page S) (e : S × Bucket) (q : S) → Has R page q → Has R (page ++ e ∷ []) q
  has-front [] e q has = absurd (cc has)
  has-front (f ∷ page) e q has =
      found-later (is_at (R q) f.0) f.1 (lookup (is_at (R q)) page)
      (lookup (is_at (R q)) (page ++ e ∷ [])) (has-front page e q) has

  -- room was made
  pub adds-room : (size : ℕ) (t : S) (old mid : Page S) → HasRoom R size t old mid
      → AddsAtMost R t old mid
  adds-room size t old mid (inl room) q has = inl (subst (λ (p : Page S). Has R p q) room.0 has)
  adds-room size t old mid (inr room) q has =
      inl (subst (λ (p : Page S). Has R p q) (sym room.1) (has-front mid room.0 q has))

  -- a page put in place of a parent's
  pub adds-at : (ps : List (Page S)) (p : ℕ) (t : S) (page : Page S) → p < length ps
      → AddsAtMost R t (get_or ps p []) page
      → (q : ℕ) → AddsAtMost R t (get_or ps q []) (get_or (set ps p page) q [])
  adds-at ps p t page l adds q = elim (cases_Bool (p == q)) [
    | inl same ↦
        subst (λ i. AddsAtMost R t (get_or ps i []) (get_or (set ps p page) i []))
        (number-same p q same)
        (subst (AddsAtMost R t (get_or ps p [])) (sym (get_or-set_same ps p page [] l)) adds)
    | inr apart ↦
        let ne : q ≢ p = λ same. cc (sym apart ∙ number-is p q (sym same)) in
        adds-none t (get_or ps q []) (get_or (set ps p page) q [])
        (get_or-set_other ps p q page [] ne)
  ]
