-- What a walk visits is what the product has past the bound.
use Rattle.std.proofs.Common.{◌≡◌, List, [], ◌∷◌, ◌++◌, Bool, true, false, ◌||◌, cond, map}
use Rattle.std.proofs.Common.{filter, refl, sym, ap, ◌∙◌, append_assoc}
use Rattle.std.specs.List.{flat_map}
use Rattle.std.specs.declared.cmp.Ordering.{Ordering}
use Rattle.std.specs.declared.cmp.Ordering.TheVariants.{Less, Equal, Greater}
use Rattle.std.proofs.lemmas.List.{append-nil, map-append}
use Rattle.std.proofs.lemmas.List.Elements.{filter-append}
use Rattle.agg_composite.specs.accessor.Encoding.{EncodedTuple}
use Rattle.std.specs.Option.{option_map_or}
use Rattle.agg_composite.specs.Walk.{next_standing, walked}
use Rattle.agg_composite.specs.declared.accessor.encoded.Encoded.{Encoded}
use Rattle.agg_composite.specs.declared.walk.choice.Choice.{Choice}
use Rattle.agg_composite.proofs.WalkSteps.{walked_with}

-- ---- the product of choices

-- one tuple for each choice of one element per list, repeats kept
abbrev pub product : {A : Type 0} → List (List A) → List (List A)
product [] = [] ∷ []
product (xs ∷ rest) = flat_map (λ x. map (λ t. x ∷ t) (product rest)) xs

-- whether what stands so to the after values, source by source, lies past the bound: the first that
-- isn't Equal is Greater
abbrev pub sides_past : List Ordering → Bool
sides_past [] = false
sides_past (Less ∷ sides) = false
sides_past (Equal ∷ sides) = sides_past sides
sides_past (Greater ∷ sides) = true

-- the encoded keys of choices
abbrev pub values_of : List Choice → EncodedTuple
values_of choices = map (λ c. c.value) choices

-- how they stand to the after values
abbrev pub sides_of : List Choice → List Ordering
sides_of choices = map (λ c. c.side) choices

-- whether the tuple of choices lies past the bound
abbrev pub is_past : List Choice → Bool
is_past t = sides_past (sides_of t)

-- ---- lists

map-cond : {X Y : Type 0} (f : X → Y) (b : Bool) (x : X) (xs : List X)
    → cond b (f x ∷ map f xs) (map f xs) ≡ map f (cond b (x ∷ xs) xs)
map-cond f true x xs = refl
map-cond f false x xs = refl

-- a filter after a map
filter-map : {X Y : Type 0} (p : Y → Bool) (f : X → Y) (xs : List X)
    → filter p (map f xs) ≡ map f (filter (λ x. p (f x)) xs)
filter-map p f [] = refl
filter-map p f (x ∷ xs) =
    ap (λ ys. cond (p (f x)) (f x ∷ ys) ys) (filter-map p f xs)
    ∙ map-cond f (p (f x)) x (filter (λ y. p (f y)) xs)

-- two maps in a row
map-twice : {X Y Z : Type 0} (g : Y → Z) (f : X → Y) (xs : List X)
    → map g (map f xs) ≡ map (λ x. g (f x)) xs
map-twice g f [] = refl
map-twice g f (x ∷ xs) = ap (λ ys. g (f x) ∷ ys) (map-twice g f xs)

filter-none : {X : Type 0} (xs : List X) → filter (λ x. false) xs ≡ []
filter-none [] = refl
filter-none (x ∷ xs) = filter-none xs

-- ---- the walk

-- the tuples after a front, where they are past the bound or the front is above it
abbrev kept : List (List Choice) → EncodedTuple → Bool → List EncodedTuple
kept tuples front above =
    map (λ t. front ++ values_of t) (filter (λ t. above || is_past t) tuples)

-- a key goes from the tuples to the front
longer-front : (tuples : List (List Choice)) (front : EncodedTuple) (c : Choice)
    → map (λ t. front ++ values_of t) (map (λ t. c ∷ t) tuples)
    ≡ map (λ t. (front ++ c.value ∷ []) ++ values_of t) tuples
longer-front tuples front c =
    map-twice (λ t. front ++ values_of t) (λ t. c ∷ t) tuples
    ∙ sym (λ i. map (λ t. append_assoc front (c.value ∷ []) (values_of t) i) tuples)

with-value : (value : Encoded) (side : Ordering) (tuples : List (List Choice))
    (front : EncodedTuple) (above : Bool)
    → kept (map (λ t. record { value = value; side = side } ∷ t) tuples) front above
    ≡ option_map_or (kept tuples (front ++ value ∷ [])) (next_standing above side) []
with-value value side tuples front true =
    ap (map (λ t. front ++ values_of t))
    (filter-map (λ t. true || is_past t) (λ t. record { value = value; side = side } ∷ t) tuples)
    ∙ longer-front _ front (record { value = value; side = side })
with-value value Less tuples front false =
    ap (map (λ t. front ++ values_of t))
    (filter-map (λ t. false || is_past t) (λ t. record { value = value; side = Less } ∷ t) tuples
    ∙ ap (map (λ t. record { value = value; side = Less } ∷ t)) (filter-none tuples))
with-value value Equal tuples front false =
    ap (map (λ t. front ++ values_of t))
    (filter-map (λ t. false || is_past t) (λ t. record { value = value; side = Equal } ∷ t) tuples)
    ∙ longer-front _ front (record { value = value; side = Equal })
with-value value Greater tuples front false =
    ap (map (λ t. front ++ values_of t))
    (filter-map (λ t. false || is_past t) (λ t. record { value = value; side = Greater } ∷ t)
    tuples)
    ∙ longer-front _ front (record { value = value; side = Greater })

kept-append : (ts us : List (List Choice)) (front : EncodedTuple) (above : Bool)
    → kept (ts ++ us) front above ≡ kept ts front above ++ kept us front above
kept-append ts us front above =
    ap (map (λ t. front ++ values_of t)) (filter-append (λ t. above || is_past t) ts us)
    ∙ map-append (λ t. front ++ values_of t) (filter (λ t. above || is_past t) ts)
    (filter (λ t. above || is_past t) us)

each-value : (choices : List Choice) (rest : List (List Choice)) (front : EncodedTuple)
    (above : Bool)
    → ((longer : EncodedTuple) (standing : Bool)
    → walked rest longer standing ≡ kept (product rest) longer standing)
    → flat_map (walked_with rest front above) choices
    ≡ kept (flat_map (λ c. map (λ t. c ∷ t) (product rest)) choices) front above
each-value [] rest front above others = refl
each-value (c ∷ choices) rest front above others =
    (λ i. option_map_or (λ standing. others (front ++ c.value ∷ []) standing i)
    (next_standing above c.side) [] ++ each-value choices rest front above others i)
    ∙ ap (λ ts. ts ++ kept (flat_map (λ x. map (λ t. x ∷ t) (product rest)) choices) front above)
    (sym (with-value c.value c.side (product rest) front above))
    ∙ sym (kept-append (map (λ t. c ∷ t) (product rest))
    (flat_map (λ x. map (λ t. x ∷ t) (product rest)) choices) front above)

walked-is : (sources : List (List Choice)) (front : EncodedTuple) (above : Bool)
    → walked sources front above ≡ kept (product sources) front above
walked-is [] front true = ap (λ t. t ∷ []) (sym (append-nil front))
walked-is [] front false = refl
walked-is (choices ∷ rest) front above = each-value choices rest front above (walked-is rest)

-- from the empty front, below nothing, the walk visits the tuples past the bound, in the product's
-- order
pub walked-past : (sources : List (List Choice))
    → walked sources [] false ≡ map values_of (filter is_past (product sources))
walked-past sources = walked-is sources [] false
