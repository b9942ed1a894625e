-- What is so of a list is so of its parts, and parts of parts.
use Rattle.std.proofs.Common.{ℕ, zero, suc, ◌∙◌, ◌≤◌, inl, inr, List, [], ◌∷◌, length}
use Rattle.std.proofs.Common.{Bool, true, false, cond, map, replicate, refl, sym, subst, arith}
use Rattle.std.specs.List.{AllByRecursion, count_by, filter}
use Rattle.std.proofs.lemmas.List.Sums.{count_by-le-length}
use Rattle.agg_values.specs.Tuple.{KeyTuple}
use Rattle.agg_segment.specs.storage.Document.{Fields}
use Rattle.agg_request_tree.specs.Occurrences.{occurrences, same_tuple}
use Rattle.agg_request_tree.specs.Page.{documents_with}
use Rattle.agg_request_tree.specs.Source.{Sources, rules_of}
use Rattle.agg_request_tree.specs.Uncut.{once_each}
use Rattle.agg_results.specs.StandsFor.{IsPart}
use Rattle.agg_results.proofs.Parts.{part-append, part-longer}

module _ {X : Type 0} where
  pub part-trans : (xs ys zs : List X) → IsPart xs ys → IsPart ys zs → IsPart xs zs
  part-trans [] ys zs p q = tt
  part-trans (x ∷ xs) [] zs p q = absurd p
  part-trans (x ∷ xs) (y ∷ ys) [] p q = absurd q
  part-trans (x ∷ xs) (y ∷ ys) (z ∷ zs) (inl p) (inl q) =
      inl (p.0 ∙ q.0, part-trans xs ys zs p.1 q.1)
  part-trans (x ∷ xs) (y ∷ ys) (z ∷ zs) (inr p) (inl q) =
      inr (part-trans (x ∷ xs) ys zs p q.1)
  part-trans (x ∷ xs) (y ∷ ys) (z ∷ zs) p (inr q) = inr (part-trans (x ∷ xs) (y ∷ ys) zs p q)

  part-cond : (b : Bool) (x : X) (xs ys : List X) → IsPart xs ys
      → IsPart (cond b (x ∷ xs) xs) (cond b (x ∷ ys) ys)
  part-cond true x xs ys part = inl (refl, part)
  part-cond false x xs ys part = part

  part-kept : (b : Bool) (y : X) (xs ys : List X) → IsPart xs ys → IsPart xs (cond b (y ∷ ys) ys)
  part-kept true y xs ys part = part-longer y xs ys part
  part-kept false y xs ys part = part

  -- what passes a test in a part is a part of what passes it
  pub part-filter : (test : X → Bool) (xs ys : List X) → IsPart xs ys
      → IsPart (filter test xs) (filter test ys)
  part-filter test [] ys part = tt
  part-filter test (x ∷ xs) [] part = absurd part
  part-filter test (x ∷ xs) (y ∷ ys) (inl p) =
      subst (λ z. IsPart (filter test (x ∷ xs)) (filter test (z ∷ ys))) p.0
      (part-cond (test x) x (filter test xs) (filter test ys) (part-filter test xs ys p.1))
  part-filter test (x ∷ xs) (y ∷ ys) (inr p) =
      part-kept (test y) y (filter test (x ∷ xs)) (filter test ys)
      (part-filter test (x ∷ xs) ys p)

  -- what holds of each element holds of those of a part
  pub part-all : (P : X → Type 0) (xs ys : List X) → IsPart xs ys → AllByRecursion P ys
      → AllByRecursion P xs
  part-all P [] ys part all = tt
  part-all P (x ∷ xs) [] part all = absurd part
  part-all P (x ∷ xs) (y ∷ ys) (inl p) all =
      (subst P (sym p.0) all.0, part-all P xs ys p.1 all.1)
  part-all P (x ∷ xs) (y ∷ ys) (inr p) all = part-all P (x ∷ xs) ys p all.1

  -- what holds of each element holds of those that pass a test
  pub filter-all : (test : X → Bool) (P : X → Type 0) (xs : List X) → AllByRecursion P xs
      → AllByRecursion P (filter test xs)
  filter-all test P [] all = tt
  filter-all test P (x ∷ xs) all = by (test x) (filter-all test P xs all.1)
    where
      by : (b : Bool) → AllByRecursion P (filter test xs)
          → AllByRecursion P (cond b (x ∷ filter test xs) (filter test xs))
      by true rest = (all.0, rest)
      by false rest = rest

-- ---- the documents of a tuple

copies-part : {X Y : Type 0} (d : X) (n : ℕ) (ys : List Y) → n ≤ length ys
    → IsPart (replicate n d) (map (λ y. d) ys)
copies-part d zero ys fits = tt
copies-part d (suc n) [] fits = absurd (omega arith)
copies-part d (suc n) (y ∷ ys) fits = inl (refl, copies-part d n ys (omega arith))

-- they are among those that a composite counts
pub with-part : (sources : Sources) (documents : List Fields) (tuple : KeyTuple)
    → IsPart (documents_with sources documents tuple)
    (once_each (occurrences sources) documents)
with-part sources [] tuple = tt
with-part sources (d ∷ documents) tuple =
    part-append _ _ _ _
    (copies-part d (count_by (same_tuple (rules_of sources) tuple) (occurrences sources d))
    (occurrences sources d)
    (count_by-le-length (same_tuple (rules_of sources) tuple) (occurrences sources d)))
    (with-part sources documents tuple)
