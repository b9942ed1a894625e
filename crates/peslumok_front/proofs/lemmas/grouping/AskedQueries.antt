-- The query of a grouping.
use Rattle.std.proofs.Common.{◌≡◌, ◌∙◌, refl, sym, ap, Bool, true, ◌&&◌, List, [], ◌∷◌, ◌++◌, ℕ}
use Rattle.std.proofs.Common.{Bor, Some, None}
use Rattle.std.proofs.lemmas.List.Folds.{list_all-append}
use Rattle.agg_segment.specs.storage.Document.{Fields}
use Rattle.agg_segment.specs.Query.{all_match, matches, matches_by}
use Rattle.agg_segment.specs.declared.query.QueryTree.{QueryTree}
use Rattle.agg_segment.specs.declared.query.QueryTree.TheVariants.{All, rolls-All}
use Rattle.agg_segment.specs.declared.query.QueryTree.TheOpen as layer
use Rattle.agg_segment.specs.declared.query.QueryTree.TheFolds.{fold-roll-QueryTree}
use Rattle.peslumok_front.specs.grouping.Query.{IsQueryOf, SaysQuery, meets_all}
use Rattle.peslumok_front.specs.declared.grouping.grouping.Grouping.{Grouping}
use Rattle.peslumok_front.proofs.lemmas.grouping.MatchedTerms.{and_true}

matches-All : (document : Fields) → matches All document ≡ true
matches-All document =
    ap (λ tree. matches tree document) (sym rolls-All)
    ∙ ap (λ f. f document) (fold-roll-QueryTree (Fields → Bool) matches_by layer.All)

-- the query of the conditions alone
pub no_text : (grouping : Grouping) (query : QueryTree) (trees : List QueryTree)
    → grouping.query ≡ None
    → ((document : Fields) → all_match matches trees document ≡ meets_all grouping document)
    → ((document : Fields) → matches query document ≡ all_match matches trees document)
    → IsQueryOf grouping query
no_text grouping query trees none met all = record {
  said = All;
  is_said = rw none refl;
  matched = λ document. all document ∙ met document
      ∙ sym (ap (λ b. meets_all grouping document && b) (matches-All document)
      ∙ and_true (meets_all grouping document));
}

-- the query of the conditions and of a text
pub with_text : (grouping : Grouping) (query : QueryTree) (text : Bor (List ℕ)) (said : QueryTree)
    (trees more : List QueryTree) → grouping.query ≡ Some text → SaysQuery text.now said
    → more ≡ trees ++ said ∷ []
    → ((document : Fields) → all_match matches trees document ≡ meets_all grouping document)
    → ((document : Fields) → matches query document ≡ all_match matches more document)
    → IsQueryOf grouping query
with_text grouping query text said trees more some says pushed met all = record {
  said = said;
  is_said = rw some says;
  matched = λ document. all document
      ∙ ap (λ list. all_match matches list document) pushed
      ∙ list_all-append (λ tree. matches tree document) trees (said ∷ [])
      ∙ ap (λ b. all_match matches trees document && b) (and_true (matches said document))
      ∙ ap (λ b. b && matches said document) (met document);
}
