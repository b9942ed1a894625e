-- Faults of requests: what is found so far, aggregation by aggregation.
use Rattle.std.proofs.Common.{◌≡◌, ◌≤◌, ◌+◌, ℕ, zero, suc, List, [], ◌∷◌, ◌++◌, length}
use Rattle.std.proofs.Common.{Result, Ok, Err, IfErr}
use Rattle.std.proofs.Common.{sym, ◌∙◌, subst, arith}
use Rattle.std.specs.List.{All, Any}
use Rattle.std.specs.List.Sorted.{IsStrictlySortedBy}
use Rattle.std.specs.Map.{keys_of}
use Rattle.std.proofs.lemmas.List.{get_or-append-add, get_or_append_left, length-append}
use Rattle.std.proofs.lemmas.List.Elements.{All-append, All-cons, All-nil}
use Rattle.agg_values.specs.Names.{name_cmp}
use Rattle.agg_values.specs.declared.request_error.RequestError.{RequestError}
use Rattle.agg_request_tree.specs.Faults.{CompositeHasCause, HasCause, IsSound, IsSoundRequest}
use Rattle.agg_request_tree.specs.Names.{NamesAscend}
use Rattle.agg_request_tree.specs.Request.{Request, agg_of, below_of, composites_in, composites_of}
use Rattle.agg_request_tree.specs.Request.{own_composite}
use Rattle.agg_request_tree.specs.declared.aggregation.Aggregation.{Aggregation}
use Rattle.agg_request_tree.proofs.RequestTrees.{composites-out, levels}

-- what holds of one of the first holds of one of all
pub Any-front : {X : Type 0} (P : X → Type 0) (xs ys : List X) → Any P xs → Any P (xs ++ ys)
Any-front P xs ys (k, x, within, at, has) = (
  k,
  x,
  omega (arith, length-append xs ys, within),
  get_or_append_left xs ys x k within ∙ at,
  has,
)

-- what holds of one of the last holds of one of all
pub Any-back : {X : Type 0} (P : X → Type 0) (xs ys : List X) → Any P ys → Any P (xs ++ ys)
Any-back P xs ys (k, x, within, at, has) = (
  length xs + k,
  x,
  omega (arith, length-append xs ys, within),
  get_or-append-add xs ys k x ∙ at,
  has,
)

-- the names below each aggregation ascend
abbrev pub EachAscends : {B : Type 0} → Request B → Type 0
EachAscends request = All (λ a. NamesAscend (below_of a.1)) request

-- the names of a request ascend, where they do and where those below each aggregation do
pub NamesAscend-whole : {B : Type 0} (request : Request B)
    → IsStrictlySortedBy name_cmp (keys_of request) → EachAscends request → NamesAscend request
NamesAscend-whole request up each zero = tt
NamesAscend-whole request up each (suc depth) = (up, λ k d within. each k d within depth)

-- no fault is found before the aggregations that are left, which have no more levels than all
pub record IsCheckedUpTo {B : Type 0} (all left : Request B) : Type 0 where
  pub sound : IsSoundRequest left → IsSoundRequest all
  pub names : EachAscends left → EachAscends all
  pub cause : (refusal : RequestError) → HasCause left refusal → HasCause all refusal
  pub lower : levels left ≤ levels all

-- none is checked yet
pub IsCheckedUpTo-none : {B : Type 0} (all left : Request B) → left ≡ all
    → IsCheckedUpTo all left
IsCheckedUpTo-none {B = B} all left e = record {
  sound = subst (λ (r : Request B). IsSoundRequest r) e;
  names = subst (λ (r : Request B). EachAscends r) e;
  cause = λ refusal. subst (λ (r : Request B). HasCause r refusal) e;
  lower = subst (λ (r : Request B). levels left ≤ levels r) e (omega arith);
}

-- one more has no fault
pub IsCheckedUpTo-more : {B : Type 0} (all left : Request B) (name : List ℕ) (a : Aggregation B)
    (later : Request B) → IsCheckedUpTo all left → left ≡ (name, a) ∷ later
    → All IsSound (composites_in a) → NamesAscend (below_of a) → IsCheckedUpTo all later
IsCheckedUpTo-more {B = B} all left name a later h e is up =
    let here : IsCheckedUpTo all ((name, a) ∷ later) =
    subst (λ (r : Request B). IsCheckedUpTo all r) e h in
    record {
      sound = λ rest.
          here.sound (All-append IsSound (composites_in a) (composites_of later) is rest);
      names = λ rest.
          here.names (All-cons (λ (b : List ℕ × Aggregation B). NamesAscend (below_of b.1))
          (name, a) later up rest);
      cause = λ refusal has.
          here.cause refusal (Any-back (λ c. CompositeHasCause c refusal) (composites_in a)
          (composites_of later) has);
      lower = omega (arith, here.lower);
    }

-- the refusal of one refuses the request
pub IsCheckedUpTo-refused : {B : Type 0} (all left : Request B) (name : List ℕ)
    (a : Aggregation B) (later : Request B) (refusal : RequestError) → IsCheckedUpTo all left
    → left ≡ (name, a) ∷ later → Any (λ c. CompositeHasCause c refusal) (composites_in a)
    → HasCause all refusal
IsCheckedUpTo-refused {B = B} all left name a later refusal h e has =
    let here : IsCheckedUpTo all ((name, a) ∷ later) =
    subst (λ (r : Request B). IsCheckedUpTo all r) e h in
    here.cause refusal (Any-front (λ c. CompositeHasCause c refusal) (composites_in a)
    (composites_of later) has)

-- all are checked
pub IsCheckedUpTo-all : {B : Type 0} (all left : Request B) → IsCheckedUpTo all left
    → left ≡ [] → IsSoundRequest all
IsCheckedUpTo-all {B = B} all left h e =
    h.sound (subst (λ (r : Request B). IsSoundRequest r) (sym e) (All-nil IsSound))

pub NamesAscend-all : {B : Type 0} (all left : Request B) → IsCheckedUpTo all left
    → left ≡ [] → IsStrictlySortedBy name_cmp (keys_of all) → NamesAscend all
NamesAscend-all {B = B} all left h e up =
    NamesAscend-whole all up
    (h.names (subst (λ (r : Request B). EachAscends r) (sym e)
    (All-nil (λ (a : List ℕ × Aggregation B). NamesAscend (below_of a.1)))))

-- ---- one aggregation

-- an aggregation without a fault of its own, over sound ones
pub sound-aggregation : {B : Type 0} (a : Aggregation B) → All IsSound (own_composite (agg_of a))
    → IsSoundRequest (below_of a) → All IsSound (composites_in a)
sound-aggregation a own below =
    subst (All IsSound) (sym (composites-out a))
    (All-append IsSound (own_composite (agg_of a)) (composites_of (below_of a)) own below)

-- a fault below it refuses it
pub below-cause : {B : Type 0} (a : Aggregation B) (refusal : RequestError)
    → HasCause (below_of a) refusal → Any (λ c. CompositeHasCause c refusal) (composites_in a)
below-cause a refusal has =
    subst (Any (λ c. CompositeHasCause c refusal)) (sym (composites-out a))
    (Any-back (λ c. CompositeHasCause c refusal) (own_composite (agg_of a))
    (composites_of (below_of a)) has)

-- what every refusal has is that of an answer
pub each-refusal : {A : Type 0} (P Q : RequestError → Type 0) (result : Result A RequestError)
    → ((refusal : RequestError) → P refusal → Q refusal) → IfErr result P → IfErr result Q
each-refusal P Q (Ok x) each has = tt
each-refusal P Q (Err e) each has = each e has
