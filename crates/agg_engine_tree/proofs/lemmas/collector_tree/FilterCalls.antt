-- What a filter answers for documents under one parent, and for none.
use Rattle.std.proofs.Common.{◌≡◌, ◌<◌, ◌≤◌, ◌+◌, ◌^◌, ◌⊎◌, ℕ, Bool, true, false, List, [], ◌∷◌}
use Rattle.std.proofs.Common.{◌++◌}
use Rattle.std.proofs.Common.{if◌then◌else◌, length, refl, sym, ap, ◌∙◌, subst, arith}
use Rattle.std.proofs.Common.{append-nil, length-append, Result, Ok, Err}
use Rattle.std.specs.Prelude.{IfErr, IsErrOf, OnOk, filter}
use Rattle.std.proofs.lemmas.List.Elements.{All-head, filter-append}
use Rattle.agg_cache.specs.Waiting.{docs_of, is_id, under}
use Rattle.agg_cache.specs.declared.error.CollectError.{CollectError}
use Rattle.agg_cache.specs.declared.error.CollectError.TheVariants as refusal
use Rattle.agg_composite.specs.buckets.Visits.{docs_in}
use Rattle.agg_composite.proofs.lemmas.buckets.Labels.{docs_in-append}
use Rattle.agg_filter.specs.Filter.{Filter, FilterFor, FilterTakes, Prepares, count_of}
use Rattle.agg_engine_tree.specs.collector_tree.Took.{FilterAnswers, FilterTook}
use Rattle.agg_engine_tree.specs.collector_tree.Caches.{Cache, waiting_in}

pub docs_in-under : (parent : ℕ) (docs : List ℕ) → docs_in (under parent docs) ≡ docs
docs_in-under parent [] = refl
docs_in-under parent (d ∷ docs) = ap (λ ds. d ∷ ds) (docs_in-under parent docs)

-- ---- how many match

module _ (p : ℕ → Bool) where
  -- how many of a list match
  abbrev many : List ℕ → ℕ
  many docs = length (filter p docs)

  many-append : (xs ys : List ℕ) → many (xs ++ ys) ≡ many xs + many ys
  many-append xs ys = ap length (filter-append p xs ys) ∙ length-append (filter p xs) (filter p ys)

  one-of : (b : Bool) (d : ℕ) → many (if b then d ∷ [] else []) ≤ many (d ∷ [])
  one-of true d = omega arith
  one-of false d = omega arith

  -- those under a label are no more than all
  many-of : {A : Type 0} (t : A → Bool) (xs : List (A × ℕ))
      → many (docs_of t xs) ≤ many (docs_in xs)
  many-of t [] = omega arith
  many-of t (e ∷ xs) =
      omega (
        arith,
        one-of (t e.0) e.1,
        many-append (if t e.0 then e.1 ∷ [] else []) (docs_of t xs),
        many-append (e.1 ∷ []) (docs_in xs),
        many-of t xs,
      )

  -- ---- one parent

  -- a filter took documents under a parent
  pub took-under : (pairs : List (ℕ × ℕ)) (old new : Filter Cache)
      → FilterTakes waiting_in p pairs old new → FilterTook p pairs old new
  took-under pairs old new t = record { takes = t.takes; hands_on = t.hands_on }

  count-many : (parent : ℕ) (docs : List ℕ) (old : Filter Cache) (taken given : List (ℕ × ℕ))
      → FilterFor waiting_in p old taken given → 2 ^ 64 ≤ count_of old parent + many docs
      → 2 ^ 32 ≤ many (docs_in (taken ++ under parent docs))
  count-many parent docs old taken given f l =
      omega (
        arith,
        l,
        f.counted parent,
        many-of (is_id parent) taken,
        ap many (docs_in-append taken (under parent docs)),
        ap many (docs_in-under parent docs),
        many-append (docs_in taken) (docs_in (under parent docs)),
      )

  pub answers-under : (parent : ℕ) (docs parents : List ℕ) (old new : Filter Cache)
      (result : Result (Unit {0}) CollectError)
      → OnOk result (FilterTakes waiting_in p (under parent docs) old new)
      → (IsErrOf result refusal.TooMany → 2 ^ 64 ≤ count_of old parent + many docs)
      → IfErr result (λ error. (error ≡ refusal.TooMany) ⊎ (error ≡ refusal.OutOfMemory))
      → FilterAnswers p (under parent docs) parents old new result
  answers-under parent docs parents old new (Ok done) takes few errors = record {
    ok = took-under (under parent docs) old new takes;
    errors = tt;
    many = λ e. absurd (cc e);
  }
  answers-under parent docs parents old new (Err error) takes few errors = record {
    ok = tt;
    errors = errors;
    many = λ e low taken given f. count-many parent docs old taken given f (few e);
  }

  -- a filter that was prepared before
  pub answers-prepared : (pairs : List (ℕ × ℕ)) (parents : List ℕ) (old mid new : Filter Cache)
      (result : Result (Unit {0}) CollectError)
      → ((is_match : ℕ → Bool) (visited given : List (ℕ × ℕ))
      → FilterFor waiting_in is_match old visited given
      → FilterFor waiting_in is_match mid visited given)
      → Prepares old mid → FilterAnswers p pairs parents mid new result
      → FilterAnswers p pairs parents old new result
  answers-prepared pairs parents old mid new (Ok done) right prepares a = record {
    ok = record {
      takes = λ taken given f. a.ok.takes taken given (right p taken given f);
      hands_on = a.ok.hands_on ∙ ap (λ (x : Filter Cache). x.hands_on) prepares.rest;
    };
    errors = tt;
    many = λ e. absurd (cc e);
  }
  answers-prepared pairs parents old mid new (Err error) right prepares a = record {
    ok = tt;
    errors = a.errors;
    many = λ e low taken given f. a.many e low taken given (right p taken given f);
  }

  -- a filter that could not be prepared
  pub answers-unprepared : (pairs : List (ℕ × ℕ)) (parent : ℕ) (old new : Filter Cache)
      (error : CollectError) → (error ≡ refusal.TooMany → parent ≡ 4294967295)
      → (error ≡ refusal.TooMany) ⊎ (error ≡ refusal.OutOfMemory)
      → FilterAnswers p pairs (parent ∷ []) old new (Err error)
  answers-unprepared pairs parent old new error last errors = record {
    ok = tt;
    errors = errors;
    many = λ e low taken given f.
        let less : parent < 4294967295 = All-head (λ p. p < 4294967295) parent [] low in
        absurd (omega (arith, less, last (cc e)));
  }

  -- ---- nothing is taken

  pub answers-none : (c : Filter Cache) (done : Unit {0}) → FilterAnswers p [] [] c c (Ok done)
  answers-none c done = record {
    ok = record {
      takes = λ taken given f.
          subst (λ ps. FilterFor waiting_in p c ps given) (sym (append-nil taken)) f;
      hands_on = refl;
    };
    errors = tt;
    many = λ e. absurd (cc e);
  }
