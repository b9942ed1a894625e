-- The items of an array, one by one.
use Rattle.std.proofs.Common.{◌≡◌, ◌<◌, ◌+◌, ℕ, zero, suc, List, [], ◌∷◌, ◌++◌, get_or, length}
use Rattle.std.proofs.Common.{take, sym, subst, arith, inl, inr}
use Rattle.std.proofs.lemmas.List.{take_more}
use Rattle.serde_json.specs.Data.{Data}
use Rattle.serde_json.specs.View.{view, items_view}
use Rattle.serde_json.specs.declared.value.Value.{Value}
use Rattle.agg_request.specs.json_values.Json.{EachIs}
use Rattle.agg_request.specs.json_values.Unsupported.{HasUnsupportedItem}

-- what one item is read as
pub each_at : {A : Type 0} (Is : Data → A → Type 0) (vs : List Value) (i : ℕ) (v : Value)
    (xs : List A) → i < length vs → EachIs Is (items_view vs) xs
    → (x : A) × Is (view (get_or vs i v)) x
each_at Is [] i v xs below h = absurd (omega (arith, below))
each_at Is (w ∷ vs) i v [] below h = absurd h
each_at Is (w ∷ vs) zero v (x ∷ xs) below h = (x, h.0)
each_at Is (w ∷ vs) (suc i) v (x ∷ xs) below h = each_at Is vs i v xs (omega (arith, below)) h.1

-- where one item has it, some item has
pub some_at : (Has : Data → Type 0) (vs : List Value) (i : ℕ) (v : Value) → i < length vs
    → Has (view (get_or vs i v)) → HasUnsupportedItem Has (items_view vs)
some_at Has [] i v below h = absurd (omega (arith, below))
some_at Has (w ∷ vs) zero v below h = inl h
some_at Has (w ∷ vs) (suc i) v below h = inr (some_at Has vs i v (omega (arith, below)) h)

-- one more item
pub each_put : {A : Type 0} (Is : Data → A → Type 0) (vs : List Value) (v : Value) (xs : List A)
    (x : A)
    → EachIs Is (items_view vs) xs → Is (view v) x
    → EachIs Is (items_view (vs ++ v ∷ [])) (xs ++ x ∷ [])
each_put Is [] v [] x h is = (is, tt)
each_put Is [] v (y ∷ xs) x h is = absurd h
each_put Is (w ∷ vs) v [] x h is = absurd h
each_put Is (w ∷ vs) v (y ∷ xs) x h is = (h.0, each_put Is vs v xs x h.1 is)

-- one more item after those so far
pub each_more : {A : Type 0} (Is : Data → A → Type 0) (vs : List Value) (i : ℕ) (v : Value)
    (xs : List A) (x : A) (more : List A) → i < length vs → v ≡ get_or vs i v
    → EachIs Is (items_view (take i vs)) xs → Is (view v) x → more ≡ xs ++ x ∷ []
    → EachIs Is (items_view (take (i + 1) vs)) more
each_more Is vs i v xs x more below at done is put =
    let taken = subst (λ y. take (i + 1) vs ≡ take i vs ++ y ∷ []) (sym at)
    (take_more vs i v below) in
    subst (λ ws. EachIs Is (items_view ws) more) (sym taken)
    (subst (EachIs Is (items_view (take i vs ++ v ∷ []))) (sym put)
    (each_put Is (take i vs) v xs x done is))
