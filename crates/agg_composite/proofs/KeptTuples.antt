-- A walk keeps the tuples of buckets those of request data, whatever it answers.
use Rattle.std.proofs.Common.{◌≡◌, ◌<◌, ◌+◌, ◌++◌, ℕ, Bool, List, [], ◌∷◌, All, length, get_or}
use Rattle.std.proofs.Common.{drop, take, sym, subst, true, ⊎_elim}
use Rattle.std.specs.List.{AllByRecursion, AllZip}
use Rattle.std.specs.Map.{keys_of}
use Rattle.std.specs.Ordering.{eq_by_cmp}
use Rattle.std.proofs.lemmas.Cmp.{eq_by_cmp_equiv}
use Rattle.std.proofs.lemmas.List.Elements.{All-contains, All-from_recursion, recursion_from_All}
use Rattle.std.proofs.lemmas.Map.Views.{All-keys_from_lookup, Contains-keys_from_lookup}
use Rattle.agg_values.specs.Tuple.{KeyTuple}
use Rattle.agg_heap_map.proofs.InsertionTurns.{tied}
use Rattle.agg_composite.specs.accessor.Decoded.{IsEncoded}
use Rattle.agg_composite.specs.accessor.Encoding.{EncodedTuple, StandsForTuple, encoded_tuple_order}
use Rattle.agg_composite.specs.declared.accessor.request_data.CompositeAggReqData.{
  CompositeAggReqData,
}
use Rattle.agg_composite.proofs.lemmas.accessor.EncodedOrder.{tuple-exact, tuple_order-total}
use Rattle.agg_composite.proofs.lemmas.accessor.StartRanges.{in_front}
use Rattle.agg_composite.specs.buckets.Node.{HoldsAtMost, Node}
use Rattle.agg_composite.specs.HeldTuples.{KeepTuples}
use Rattle.agg_composite.specs.Walk.{walked}
use Rattle.agg_composite.specs.declared.walk.choice.Choice.{Choice}
use Rattle.agg_composite.proofs.PartsInRow.{Appends, gives-all}
use Rattle.agg_composite.proofs.WalkSteps.{choices-append}

-- tuples that a test finds alike are the same
exact : (t q : EncodedTuple) → eq_by_cmp encoded_tuple_order t q ≡ true → t ≡ q
exact t q same = tuple-exact t q (tied (encoded_tuple_order t q) same)

-- a visit of a tuple keeps them
pub visit-keeps : (t : EncodedTuple) (old new : Node EncodedTuple)
    → HoldsAtMost encoded_tuple_order t old new → KeepTuples (t ∷ []) old new
visit-keeps t old new holds req all held parent =
    let before = get_or old.parents parent [] in
    All-keys_from_lookup (eq_by_cmp_equiv tuple_order-total) (IsEncoded req)
    (get_or new.parents parent [])
    (λ q has. ⊎_elim
    (λ was. All-contains (IsEncoded req) (keys_of before) q (held parent)
    (Contains-keys_from_lookup exact q before was))
    (λ same. subst (IsEncoded req) (exact t q same)
    (recursion_from_All (IsEncoded req) (t ∷ []) all).0)
    (holds parent q has))

-- what holds of what all give holds of what one gives
one-of : {X : Type 0} (P : EncodedTuple → Type 0) (f : List X → List EncodedTuple) → Appends f
    → (xs : List X) (i : ℕ) (d : X) → i < length xs → All P (f xs)
    → All P (f (get_or xs i d ∷ []))
one-of P f h xs i d l all =
    let one = f (get_or xs i d ∷ []) in
    let front = f (take i xs) in
    let rest = f (drop (i + 1) xs) in
    let both = in_front P (front ++ one) rest
    (recursion_from_All P ((front ++ one) ++ rest) (subst (All P) (gives-all f h xs i d l) all)) in
    All-from_recursion P one (in_front P front one both.0).1

-- one choice more keeps them
pub choice-keeps : (rest : List (List Choice)) (front : EncodedTuple) (above : Bool)
    (own : List Choice) (i : ℕ) (d : Choice) → i < length own
    → (start now after : Node EncodedTuple) → KeepTuples (walked (own ∷ rest) front above) start now
    → (part : List EncodedTuple) → part ≡ walked ((get_or own i d ∷ []) ∷ rest) front above
    → KeepTuples part now after → KeepTuples (walked (own ∷ rest) front above) start after
choice-keeps rest front above own i d l start now after before part is keeps req all held =
    keeps req
    (subst (All (IsEncoded req)) (sym is)
    (one-of (IsEncoded req) (λ choices. walked (choices ∷ rest) front above)
    (choices-append rest front above) own i d l all))
    (before req all held)

-- tuples that stand for others are encoded
stand-encoded : (req : CompositeAggReqData) (tuples : List EncodedTuple) (keys : List KeyTuple)
    → AllZip (StandsForTuple req) tuples keys → AllByRecursion (IsEncoded req) tuples
stand-encoded req [] keys stand = tt
stand-encoded req (t ∷ tuples) [] stand = absurd stand
stand-encoded req (t ∷ tuples) (k ∷ keys) stand =
    ((k, stand.0), stand-encoded req tuples keys stand.1)

pub all-encoded : (req : CompositeAggReqData) (tuples : List EncodedTuple) (keys : List KeyTuple)
    → AllZip (StandsForTuple req) tuples keys → All (IsEncoded req) tuples
all-encoded req tuples keys stand =
    All-from_recursion (IsEncoded req) tuples (stand-encoded req tuples keys stand)
