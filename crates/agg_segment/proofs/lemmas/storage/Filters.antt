-- What is filtered and mapped, and what results say.
use Rattle.std.proofs.Common.{◌≡◌, ℕ, List, [], ◌∷◌, map, cond, true, false, refl, ap}
use Rattle.std.specs.Prelude.{Bool, filter, ◌==◌}
use Rattle.std.specs.List.{All}
use Rattle.std.specs.Prelude.{Result, Ok, Err, OnOk, OnErr}
use Rattle.std.proofs.lemmas.List.Elements.{All-map, All-filter}
use Rattle.agg_segment.specs.storage.Columns.{StandsForKey, numbers_at}
use Rattle.agg_segment.specs.declared.storage.keys.ColumnKeys.{ColumnKeys}

-- ---- filters and maps

pub filter_map_is : {X Y : Type 0} (f : X → Y) (p : Y → Bool) (xs : List X)
    → filter p (map f xs) ≡ map f (filter (λ x. p (f x)) xs)
filter_map_is f p [] = refl
filter_map_is f p (x ∷ xs) = step (p (f x)) (filter_map_is f p xs)
  where
    step : (b : Bool) → filter p (map f xs) ≡ map f (filter (λ x. p (f x)) xs)
        → cond b (f x ∷ filter p (map f xs)) (filter p (map f xs))
        ≡ map f (cond b (x ∷ filter (λ x. p (f x)) xs) (filter (λ x. p (f x)) xs))
    step true ih = ap (λ r. f x ∷ r) ih
    step false ih = ih

-- ---- the numbers of a document

pub numbers_stand : (keys : ColumnKeys) (cells : List (ℕ × ℕ)) (doc : ℕ)
    → All (λ c. StandsForKey keys c.1) cells → All (StandsForKey keys) (numbers_at cells doc)
numbers_stand keys cells doc all =
    All-map (StandsForKey keys) (λ (c : ℕ × ℕ). c.1) (filter (λ c. c.0 == doc) cells)
    (All-filter (λ (c : ℕ × ℕ). c.0 == doc) (λ c. StandsForKey keys c.1) cells all)

pub on_err_given : {T E P : Type 0} (r : Result T E) → P → OnErr r P
on_err_given (Ok x) p = tt
on_err_given (Err e) p = p

pub on_either : {T E A B C : Type 0} (r : Result T E) → OnOk r A → OnErr r B → (A → C) → (B → C) → C
on_either (Ok x) a b f g = f a
on_either (Err e) a b f g = g b
