-- A walk, one choice on.
use Rattle.std.proofs.Common.{◌≡◌, ◌==◌, ℕ, ◌+◌, ◌-◌, List, [], ◌∷◌, ◌++◌, Bool, true, None, Some}
use Rattle.std.proofs.Common.{drop, length, take, refl, sym, ap, ◌∙◌, arith, length-append}
use Rattle.std.specs.Option.{option_map_or}
use Rattle.std.proofs.lemmas.List.{append-nil, take-append-le, take_all}
use Rattle.std.proofs.lemmas.List.Concat.{flat_map-append}
use Rattle.agg_composite.specs.accessor.Encoding.{EncodedTuple}
use Rattle.agg_composite.specs.declared.accessor.encoded.Encoded.{Encoded}
use Rattle.agg_composite.specs.Walk.{next_standing, parts, walked}
use Rattle.agg_composite.specs.declared.walk.choice.Choice.{Choice}
use Rattle.agg_composite.proofs.lemmas.buckets.Owners.{number-same}
use Rattle.agg_composite.proofs.PartsInRow.{Appends}

-- what is visited after one choice
abbrev pub walked_with : List (List Choice) → EncodedTuple → Bool → Choice → List EncodedTuple
walked_with rest front above c =
    option_map_or (walked rest (front ++ c.value ∷ [])) (next_standing above c.side) []

-- choices in two parts
pub choices-append : (rest : List (List Choice)) (front : EncodedTuple) (above : Bool)
    → Appends (λ choices. walked (choices ∷ rest) front above)
choices-append rest front above xs ys = flat_map-append (walked_with rest front above) xs ys

-- what a choice that isn't below the bound is walked with, where its key stands after the front
pub walked-after : (x : Choice) (rest : List (List Choice)) (front tuple longer : EncodedTuple)
    (above standing : Bool) → longer ≡ tuple ++ x.value ∷ [] → tuple ≡ front
    → Some standing ≡ next_standing above x.side
    → walked rest longer standing ≡ walked ((x ∷ []) ∷ rest) front above
walked-after x rest front tuple longer above standing is same goes =
    (λ i. walked rest (is i) standing)
    ∙ (λ i. walked rest (same i ++ x.value ∷ []) standing)
    ∙ (λ i. option_map_or (walked rest (front ++ x.value ∷ [])) (goes i) [])
    ∙ sym (append-nil (walked_with rest front above x))

-- a choice below the bound is walked with nothing
pub walked-below : (x : Choice) (rest : List (List Choice)) (front : EncodedTuple) (above : Bool)
    → None ≡ next_standing above x.side → [] ≡ walked ((x ∷ []) ∷ rest) front above
walked-below x rest front above ends =
    (λ i. option_map_or (walked rest (front ++ x.value ∷ [])) (ends i) [])
    ∙ sym (append-nil (walked_with rest front above x))

-- a key taken away again
pub taken-away : (front tuple longer now : EncodedTuple) (key : Encoded)
    → longer ≡ tuple ++ key ∷ [] → tuple ≡ front → now ≡ longer
    → take (length now - 1) now ≡ front
taken-away front tuple longer now key is same stays =
    let long : length now ≡ length tuple + 1 =
    ap length (stays ∙ is) ∙ length-append tuple (key ∷ []) in
    let less : length now - 1 ≡ length tuple = omega (arith, long) in
    (λ i. take (less i) ((stays ∙ is) i))
    ∙ take-append-le (length tuple) tuple (key ∷ []) (omega arith)
    ∙ take_all (length tuple) tuple (omega arith)
    ∙ same

-- the choices of the next source with those of the others after it are all rows
pub rows-split : (size : ℕ) (sizes all : List ℕ) (own others choices : List Choice)
    → size ∷ sizes ≡ all → own ≡ take size choices → others ≡ drop size choices
    → own ∷ parts sizes others ≡ parts all choices
rows-split size sizes all own others choices is front back =
    (λ i. front i ∷ parts sizes (back i)) ∙ (λ i. parts (is i) choices)

-- no sizes, by their number
pub none-left : (sizes : List ℕ) → length sizes ≡ 0 → sizes ≡ []
none-left [] none = refl
none-left (size ∷ sizes) none = absurd (omega (arith, none))

-- the choices of the last source are all rows that are left
pub last-row : (size : ℕ) (sizes all : List ℕ) (own choices : List Choice)
    → size ∷ sizes ≡ all → (length sizes == 0) ≡ true → own ≡ take size choices
    → own ∷ [] ≡ parts all choices
last-row size sizes all own choices is none front =
    let no_more = none-left sizes (number-same (length sizes) 0 none) in
    (λ i. front i ∷ []) ∙ (λ i. parts (size ∷ sym no_more i) choices)
    ∙ (λ i. parts (is i) choices)
