-- What a request lists with the trees that its builders made in their place.
use Rattle.std.proofs.Common.{◌≡◌, ◌++◌, List, [], ◌∷◌, Bool, refl, sym, ap, ◌∙◌}
use Rattle.agg_segment.specs.storage.Document.{Fields}
use Rattle.agg_segment.specs.Query.{matches}
use Rattle.agg_segment.specs.declared.query.QueryTree.{QueryTree}
use Rattle.agg_request_tree.specs.Request.{Request, agg_of, below_of}
use Rattle.agg_request_tree.specs.Request.{with_builders, with_builders_in, with_own_builder}
use Rattle.agg_request_tree.specs.Uncut.{uncut, uncut_lists, uncut_lists_of}
use Rattle.agg_request_tree.specs.declared.aggregation.Aggregation.{Aggregation}
use Rattle.agg_request_tree.specs.declared.aggregation.AggregationVariants as variants
use variants.{AggregationVariants}
use variants.TheVariants.{Filter, Composite, Count, Max, Min, Sum}
use Rattle.agg_request_tree.proofs.UncutLists.{uncut_lists-out}
use Rattle.agg_engine_tree.proofs.lemmas.segment_context.Built.{agg-built, below-built}
use Rattle.agg_engine_tree.proofs.lemmas.segment_context.Levels.{OfEach, by_levels}
use Rattle.agg_engine.proofs.lemmas.collectors.BuiltRequests.{same-matching}

module _ {B : Type 0} (is_match : B → Fields → Bool) (of : B → QueryTree)
    (built : (b : B) (d : Fields) → is_match b d ≡ matches (of b) d) where
  pub uncut-built : (agg : AggregationVariants B) (documents : List Fields)
      → uncut matches (with_own_builder of agg) documents ≡ uncut is_match agg documents
  uncut-built (Filter a) documents = same-matching is_match of built a.query documents
  uncut-built (Composite c) documents = refl
  uncut-built (Count a) documents = refl
  uncut-built (Max a) documents = refl
  uncut-built (Min a) documents = refl
  uncut-built (Sum a) documents = refl

  -- the lists of an aggregation
  abbrev IsListed : Aggregation B → Type 0
  IsListed a =
      (documents : List Fields)
      → uncut_lists matches (with_builders_in of a) documents ≡ uncut_lists is_match a documents

  each_lists : (request : Request B) → OfEach IsListed request → (documents : List Fields)
      → uncut_lists_of matches (with_builders of request) documents
      ≡ uncut_lists_of is_match request documents
  each_lists [] listed documents = refl
  each_lists (e ∷ request) listed documents =
      λ i. listed.0 documents i ++ each_lists request listed.1 documents i

  lists_in-built : (a : Aggregation B) → IsListed a
  lists_in-built = by_levels IsListed (λ a below documents.
      uncut_lists-out matches (with_builders_in of a) documents
      ∙ (λ i. uncut matches (agg-built of a i) documents
      ∷ uncut_lists_of matches (below-built of a i) (uncut matches (agg-built of a i) documents))
      ∙ (λ i. uncut-built (agg_of a) documents i
      ∷ uncut_lists_of matches (with_builders of (below_of a))
      (uncut-built (agg_of a) documents i))
      ∙ ap (λ lists. uncut is_match (agg_of a) documents ∷ lists)
      (each_lists (below_of a) below (uncut is_match (agg_of a) documents))
      ∙ sym (uncut_lists-out is_match a documents))

  -- a request lists the same documents with its builders' trees
  pub lists-built : (request : Request B) (documents : List Fields)
      → uncut_lists_of matches (with_builders of request) documents
      ≡ uncut_lists_of is_match request documents
  lists-built [] documents = refl
  lists-built (e ∷ request) documents =
      λ i. lists_in-built e.1 documents i ++ lists-built request documents i
