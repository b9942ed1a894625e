-- What a Boolean query matches.
use Rattle.std.proofs.Common.{◌≡◌, ◌≢◌, ◌∙◌, refl, sym, ap, ◌&&◌, List, [], ◌∷◌, Bool}
use Rattle.std.proofs.Common.{not, map, length}
use Rattle.agg_segment.specs.storage.Document.{Fields}
use Rattle.agg_segment.specs.Query.{all_match, by_itself, matches, matches_by, some_matches}
use Rattle.agg_segment.specs.Query.{wanted_match}
use Rattle.agg_segment.specs.declared.query.QueryTree.{QueryTree}
use Rattle.agg_segment.specs.declared.query.QueryTree.TheVariants.{Boolean, rolls-Boolean}
use Rattle.agg_segment.specs.declared.query.QueryTree.TheOpen as layer
use Rattle.agg_segment.specs.declared.query.QueryTree.TheFolds.{fold-roll-QueryTree}

some_matches-map : (trees : List QueryTree) (document : Fields)
    → some_matches by_itself (map matches trees) document ≡ some_matches matches trees document
some_matches-map [] document = refl
some_matches-map (tree ∷ trees) document = rw (some_matches-map trees document) refl

all_match-map : (trees : List QueryTree) (document : Fields)
    → all_match by_itself (map matches trees) document ≡ all_match matches trees document
all_match-map [] document = refl
all_match-map (tree ∷ trees) document = rw (all_match-map trees document) refl

matches-Boolean : (must should must_not : List QueryTree) (document : Fields)
    → matches (Boolean must should must_not) document
    ≡ (wanted_match (map matches must) (map matches should) document && not
    (some_matches matches must_not document))
matches-Boolean must should must_not document =
    ap (λ tree. matches tree document) (sym (rolls-Boolean must should must_not))
    ∙ ap (λ f. f document) (fold-roll-QueryTree (Fields
    → Bool) matches_by (layer.Boolean must should must_not))
    ∙ ap (λ b. wanted_match (map matches must) (map matches should) document && not b)
    (some_matches-map must_not document)

-- where there is no must, some should and no must_not
pub matches-should : (must should must_not : List QueryTree) (document : Fields) → length must ≡ 0
    → matches (Boolean must should must_not) document
    ≡ (some_matches matches should document && not (some_matches matches must_not document))
matches-should [] should must_not document none =
    matches-Boolean [] should must_not document
    ∙ ap (λ b. b && not (some_matches matches must_not document)) (some_matches-map should document)
matches-should (tree ∷ must) should must_not document none = absurd (cc)

-- else every must and no must_not
pub matches-must : (must should must_not : List QueryTree) (document : Fields) → length must ≢ 0
    → matches (Boolean must should must_not) document
    ≡ (all_match matches must document && not (some_matches matches must_not document))
matches-must [] should must_not document some = absurd (some refl)
matches-must (tree ∷ must) should must_not document some =
    matches-Boolean (tree ∷ must) should must_not document
    ∙ ap (λ b. b && not (some_matches matches must_not document))
    (all_match-map (tree ∷ must) document)
