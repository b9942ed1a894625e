-- Lists of documents within others.
use Rattle.std.proofs.Common.{◌≡◌, ◌≢◌, ◌≤◌, ℕ, List, [], ◌∷◌, ◌++◌}
use Rattle.std.proofs.Common.{if◌then◌else◌, inl, inr, length, refl, sym, ap, ◌∙◌, arith}
use Rattle.std.specs.List.{Contains}
use Rattle.std.proofs.lemmas.Bool.{cases_eq}
use Rattle.std.proofs.lemmas.List.Elements.{All-contains, All-map}
use Rattle.agg_cache.specs.Waiting.{is_id}
use Rattle.agg_segment.specs.Segment.{Stored, document_at}
use Rattle.agg_request_tree.specs.Ranges.{AreInRange}
use Rattle.agg_request_tree.specs.Source.{Sources}
use Rattle.agg_request_tree.proofs.Lists.{All-from_Contains, All-from_map, Contains-from_Has, Has}
use Rattle.agg_request_tree.proofs.Lists.{Has-from_Contains}
use Rattle.agg_composite.specs.accessor.Ranges.{AreAllInRange}
use Rattle.agg_composite.specs.buckets.Visits.{Within, weight}
use Rattle.agg_composite.proofs.lemmas.buckets.Labels.{is_id-other, is_id-same, weight-append}

-- ---- lengths

length-weight : (xs : List ℕ) → weight (λ d. 1) xs ≡ length xs
length-weight [] = refl
length-weight (x ∷ xs) = omega (arith, length-weight xs)

pub within-length : (xs ys : List ℕ) → Within xs ys → length xs ≤ length ys
within-length xs ys w = omega (arith, length-weight xs, length-weight ys, w.lighter (λ d. 1))

pub within-both : (xs ys zs : List ℕ) → Within xs ys → Within ys zs → Within xs zs
within-both xs ys zs a b = record { lighter = λ f. omega (arith, a.lighter f, b.lighter f) }

-- a part of a list is within it
pub within-part : (xs ys zs : List ℕ) → Within ys (xs ++ (ys ++ zs))
within-part xs ys zs = record {
  lighter = λ f. omega (arith, weight-append f xs (ys ++ zs), weight-append f ys zs);
}

-- ---- elements

-- 1 for this document, and 0 for others
one_for : ℕ → ℕ → ℕ
one_for d e = if is_id d e then 1 else 0

one_for-same : (d e : ℕ) → e ≡ d → one_for d e ≡ 1
unfolding one_for
one_for-same d e is = ap (λ x. if is_id d x then 1 else 0) is ∙ ap (λ b. if b then 1 else 0)
    (is_id-same d)

one_for-other : (d e : ℕ) → e ≢ d → one_for d e ≡ 0
unfolding one_for
one_for-other d e other = ap (λ b. if b then 1 else 0) (is_id-other d e (λ is. other (sym is)))

weight-has : (d : ℕ) (xs : List ℕ) → Has d xs → 1 ≤ weight (one_for d) xs
weight-has d [] h = absurd h
weight-has d (x ∷ xs) (inl is) = omega (arith, one_for-same d x is)
weight-has d (x ∷ xs) (inr h) = omega (arith, weight-has d xs h)

has-weight : (d : ℕ) (xs : List ℕ) → 1 ≤ weight (one_for d) xs → Has d xs
has-weight d [] l = absurd (omega arith)
has-weight d (x ∷ xs) l = elim (cases_eq x d) [
  | inl is ↦ inl is
  | inr other ↦ inr (has-weight d xs (omega (arith, one_for-other d x other)))
]

pub within-contains : (xs ys : List ℕ) → Within xs ys → (d : ℕ) → Contains xs d → Contains ys d
within-contains xs ys w d c =
    Contains-from_Has ys d (has-weight d ys
    (omega (arith, w.lighter (one_for d), weight-has d xs (Has-from_Contains xs d c))))

-- ---- ranges

-- what is in range of documents is in range of those among these
pub range-part : (segment : Stored) (sources : Sources) (docs others : List ℕ)
    → ((d : ℕ) → Contains docs d → Contains others d) → AreAllInRange segment sources others
    → AreAllInRange segment sources docs
range-part segment sources docs others part all =
    let P = λ (d : ℕ). AreInRange sources (document_at segment d) in
    All-map (AreInRange sources) (document_at segment) docs
    (All-from_Contains P docs (λ d c. All-contains P others d
    (All-from_map (AreInRange sources) (document_at segment) others all) (part d c)))
