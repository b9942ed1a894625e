-- Requests in which what has a name is changed, and those with a page.
use Rattle.std.proofs.Common.{◌≡◌, ◌≢◌, ℕ, List, [], ◌∷◌, ◌++◌, Bool, true, false, cond}
use Rattle.std.proofs.Common.{refl, sym, subst, ap, ◌∙◌}
use Rattle.std.specs.Prelude.{option_map}
use Rattle.std.specs.BTreeMap.{is_at}
use Rattle.std.specs.List.{All}
use Rattle.std.specs.List.Sorted.{IsStrictlySortedBy}
use Rattle.std.specs.Map.{keys_of}
use Rattle.std.proofs.lemmas.List.Elements.{All-append, All-from_recursion}
use Rattle.agg_values.specs.Names.{Named, name_cmp}
use Rattle.agg_values.specs.declared.after_key.AfterKey.{AfterKey}
use Rattle.agg_values.specs.declared.error.InvalidArgument.TheVariants.{NoSource, TooManySources}
use Rattle.agg_values.specs.declared.request_error.RequestError.TheVariants.{Invalid}
use Rattle.agg_segment.proofs.EncodedColumns.{back_all, front_all}
use Rattle.agg_request_tree.specs.Faults.{IsSound, IsSoundRequest}
use Rattle.agg_request_tree.specs.Request.{Request, agg_of, aggregation_of, below_of, composites_in}
use Rattle.agg_request_tree.specs.Request.{composites_of, own_composite}
use Rattle.agg_request_tree.specs.declared.aggregation.Aggregation.{Aggregation}
use Rattle.agg_request_tree.specs.declared.aggregation.AggregationVariants as variants
use variants.{AggregationVariants}
use variants.TheVariants.{Filter, Composite, Count, Max, Min, Sum}
use Rattle.agg_request_tree.specs.declared.aggregation.CompositeAggregation.{CompositeAggregation}
use Rattle.agg_request_tree.proofs.Faults.{IsSound-names, IsSound-parts}
use Rattle.agg_request_tree.proofs.PageKeys.{AllByRecursion-weaker}
use Rattle.agg_request_tree.proofs.RequestTrees.{agg-made, below-made, composites-out}
use Rattle.agg_request_tree.proofs.RequestTrees.{made-of_parts}
use Rattle.agg_request_tree.specs.ChangedRequest.{changed, request_after, request_at_size}
use Rattle.agg_request_tree.specs.ChangedRequest.{request_changed_at, with_after, with_size}
use Rattle.agg_engine.specs.NamedComposite.{IsCompositeNamed}
use Rattle.agg_engine.specs.PageAnswers.{MayGoOnFrom}
use Rattle.agg_engine.proofs.NamedPlaces.{AtName, named-changed, only-named, sound-named}

-- an entry of a request
abbrev Entry : Type 0 → Type 0
Entry B = List ℕ × Aggregation B

module _ {B : Type 0} (name : List ℕ) where
  -- two changes are one
  pub changed-twice : (f g : AggregationVariants B → AggregationVariants B) (request : Request B)
      → request_changed_at f name (request_changed_at g name request)
      ≡ request_changed_at (λ agg. f (g agg)) name request
  changed-twice f g [] = refl
  changed-twice f g (e ∷ request) =
      λ i. by (is_at (name_cmp name) e.0) refl i ∷ changed-twice f g request i
    where
      by : (b : Bool) → is_at (name_cmp name) e.0 ≡ b
          → let x : Entry B = cond b (e.0, changed g e.1) e in
          cond (is_at (name_cmp name) x.0) (x.0, changed f x.1) x
          ≡ cond b (e.0, changed (λ agg. f (g agg)) e.1) e
      by true is =
          ap (λ (t : Bool). cond t (e.0, changed f (changed g e.1)) (e.0, changed g e.1)) is
          ∙ (λ i. (
            e.0,
            aggregation_of (f (agg-made (g (agg_of e.1)) (below_of e.1) i))
                (below-made (g (agg_of e.1)) (below_of e.1) i),
          ))
      by false is = ap (λ (t : Bool). cond t (e.0, changed f e.1) e) is

  -- one that changes nothing of what has the name changes nothing
  pub changed-none : (f : AggregationVariants B → AggregationVariants B) (request : Request B)
      → AtName name (λ agg. f agg ≡ agg) request → request_changed_at f name request ≡ request
  changed-none f [] same = refl
  changed-none f (e ∷ request) same =
      λ i. by (is_at (name_cmp name) e.0) refl i ∷ changed-none f request same.1 i
    where
      by : (b : Bool) → is_at (name_cmp name) e.0 ≡ b
          → let x : Entry B = cond b (e.0, changed f e.1) e in x ≡ e
      by true is =
          ap (λ (a : Aggregation B). (e.0, a))
          (sym (made-of_parts e.1 (f (agg_of e.1)) (below_of e.1) (sym (same.0 is)) refl))
      by false is = refl

  -- one that leaves sound what has the name leaves the request sound
  pub changed-sound : (f : AggregationVariants B → AggregationVariants B) (request : Request B)
      → IsSoundRequest request → AtName name (λ agg. All IsSound (own_composite (f agg))) request
      → IsSoundRequest (request_changed_at f name request)
  changed-sound f [] sound each = sound
  changed-sound f (e ∷ request) sound each =
      let x : Entry B = cond (is_at (name_cmp name) e.0) (e.0, changed f e.1) e in
      All-append IsSound (composites_in x.1) (composites_of (request_changed_at f name request))
      (by (is_at (name_cmp name) e.0) refl)
      (changed-sound f request (back_all IsSound (composites_in e.1) (composites_of request) sound)
      each.1)
    where
      own : All IsSound (composites_in e.1)
      own = front_all IsSound (composites_in e.1) (composites_of request) sound

      by : (b : Bool) → is_at (name_cmp name) e.0 ≡ b
          → let x : Entry B = cond b (e.0, changed f e.1) e in All IsSound (composites_in x.1)
      by true is =
          subst (All IsSound)
          (sym (composites-out (changed f e.1)
          ∙ (λ i. own_composite (agg-made (f (agg_of e.1)) (below_of e.1) i)
          ++ composites_of (below-made (f (agg_of e.1)) (below_of e.1) i))))
          (All-append IsSound (own_composite (f (agg_of e.1))) (composites_of (below_of e.1))
          (each.0 is)
          (back_all IsSound (own_composite (agg_of e.1)) (composites_of (below_of e.1))
          (subst (All IsSound) (composites-out e.1) own)))
      by false is = own

  -- ---- after keys and sizes

  later-agg : (after later : Named AfterKey) (agg : AggregationVariants B)
      → with_after later (with_after after agg) ≡ with_after later agg
  later-agg after later (Composite c) = refl
  later-agg after later (Filter a) = refl
  later-agg after later (Count a) = refl
  later-agg after later (Max a) = refl
  later-agg after later (Min a) = refl
  later-agg after later (Sum a) = refl

  -- a request that went on goes on from a later key as if it hadn't
  pub later-key : (request : Request B) (after next : Named AfterKey)
      → request_after name next (request_after name after request)
      ≡ request_after name next request
  later-key request after next =
      changed-twice (with_after next) (with_after after) request
      ∙ (λ i. request_changed_at (λ agg. later-agg after next agg i) name request)

  module _ (request : Request B) (c : CompositeAggregation)
      (names : IsStrictlySortedBy name_cmp (keys_of request))
      (named : IsCompositeNamed name request c) where
    -- one that goes on from its own after key is itself
    pub after-own : request ≡ request_after name c.after request
    after-own =
        sym (changed-none (with_after c.after) request
        (AllByRecursion-weaker
        (λ (e : Entry B). is_at (name_cmp name) e.0 ≡ true → agg_of e.1 ≡ Composite c)
        (λ (e : Entry B). is_at (name_cmp name) e.0 ≡ true
        → with_after c.after (agg_of e.1) ≡ agg_of e.1)
        (λ e is at. ap (with_after c.after) (is at) ∙ sym (is at))
        request (only-named name c request names named)))

    module _ (size : ℕ) (after : Named AfterKey) where
      -- the composite with a size and an after key
      abbrev pub sized : CompositeAggregation
      sized = record c { size = size; after = after }

      -- the request with them, which is sound where it may go on
      abbrev pub here : Request B
      here = request_at_size name size (request_after name after request)

      pub sized-sound : IsSound c → size ≢ 0 → MayGoOnFrom c.sources after → IsSound sized
      sized-sound sound room goes_on =
          IsSound-parts sized (sound (Invalid NoSource)) (sound (Invalid TooManySources)) room
          (IsSound-names c sound) goes_on

      pub here-sound : IsSoundRequest request → size ≢ 0 → MayGoOnFrom c.sources after
          → IsSoundRequest here
      here-sound sound room goes_on =
          let own = sized-sound (sound-named name c request named sound) room goes_on in
          let change : AggregationVariants B → AggregationVariants B =
          λ agg. with_size size (with_after after agg) in
          let all : All IsSound (own_composite (change (Composite c))) =
          All-from_recursion IsSound (sized ∷ []) (own, tt) in
          subst IsSoundRequest (sym (changed-twice (with_size size) (with_after after) request))
          (changed-sound change request sound
          (AllByRecursion-weaker
          (λ (e : Entry B). is_at (name_cmp name) e.0 ≡ true → agg_of e.1 ≡ Composite c)
          (λ (e : Entry B). is_at (name_cmp name) e.0 ≡ true
          → All IsSound (own_composite (change (agg_of e.1))))
          (λ e is at. subst (λ (agg : AggregationVariants B).
          All IsSound (own_composite (change agg))) (sym (is at)) all)
          request (only-named name c request names named)))

      -- the composite is that of its name
      pub here-named : IsCompositeNamed name here sized
      here-named =
          named-changed name (with_size size) (request_after name after request)
          ∙ ap (option_map (with_size size))
          (named-changed name (with_after after) request
          ∙ ap (option_map (with_after after)) named)
