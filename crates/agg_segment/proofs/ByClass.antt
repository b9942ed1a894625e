-- Putting a field's keys by class changes no match.
use Rattle.std.proofs.Common.{◌≡◌, ◌∙◌, refl, sym, ap, subst, ℕ, ◌||◌, Bool, true, false, List}
use Rattle.std.proofs.Common.{[], ◌∷◌, map}
use Rattle.std.proofs.lemmas.List.Folds.{list_any-append}
use Rattle.std.specs.List.{list_any}
use Rattle.agg_values.specs.TypedKey.{CompositeIntermediateKey}
use Rattle.agg_values.specs.declared.typed_key.CompositeIntermediateKey.TheVariants.{
  Bool as Truth,
  Str,
  I64,
  U64,
  DateTime,
  IpAddr,
  Null,
}
use Rattle.agg_segment.specs.storage.Document.{Fields, by_class, of_class}
use Rattle.agg_segment.specs.Query.{all_match, by_itself, matches, matches_by, some_matches}
use Rattle.agg_segment.specs.Query.{wanted_match}
use Rattle.agg_segment.specs.Query.{is_value, is_between, is_any, put_by_class}
use Rattle.agg_segment.specs.declared.query.QueryTree.{QueryTree}
use Rattle.agg_segment.specs.declared.query.QueryTree.TheOpen as layer
use Rattle.agg_segment.specs.declared.query.QueryTree.TheOpen.{QueryTree-F}
use Rattle.agg_segment.specs.declared.query.QueryTree.TheViews.{roll-QueryTree}
use Rattle.agg_segment.specs.declared.query.QueryTree.TheFolds.{fold-roll-QueryTree}
use Rattle.agg_segment.specs.declared.query.QueryTree.TheFolds.{ind-QueryTree, map-QueryTree}

or_in : (p a r : Bool) → (p || (a || r)) ≡ ((p || a) || r)
or_in true a r = refl
or_in false a r = refl

or_past : (p a r s : Bool) → (p || r) ≡ s → (p || (a || r)) ≡ (a || s)
or_past true true r s h = refl
or_past true false r s h = h
or_past false true r s h = refl
or_past false false r s h = h

move1 : (p a b r : Bool) → (p || (a || (b || r))) ≡ (a || ((p || b) || r))
move1 p a b r = or_past p a (b || r) ((p || b) || r) (or_in p b r)

move2 : (p a b c r : Bool) → (p || (a || (b || (c || r)))) ≡ (a || (b || ((p || c) || r)))
move2 p a b c r = or_past p a (b || (c || r)) (b || ((p || c) || r)) (move1 p b c r)

move3 : (p a b c d r : Bool) → (p || (a || (b || (c || (d || r)))))
    ≡ (a || (b || (c || ((p || d) || r))))
move3 p a b c d r = or_past p a (b || (c || (d || r))) (b || (c || ((p || d) || r)))
    (move2 p b c d r)

move4 : (p a b c d e r : Bool) → (p || (a || (b || (c || (d || (e || r))))))
    ≡ (a || (b || (c || (d || ((p || e) || r)))))
move4 p a b c d e r = or_past p a (b || (c || (d || (e || r)))) (b || (c || (d || ((p || e) || r))))
    (move3 p b c d e r)

move5 : (p a b c d e f r : Bool) → (p || (a || (b || (c || (d || (e || (f || r)))))))
    ≡ (a || (b || (c || (d || (e || ((p || f) || r))))))
move5 p a b c d e f r = or_past p a (b || (c || (d || (e || (f || r)))))
    (b || (c || (d || (e || ((p || f) || r))))) (move4 p b c d e f r)

module _ (p : CompositeIntermediateKey → Bool) where
  -- whether a key of a class passes
  abbrev among : List CompositeIntermediateKey → ℕ → Bool
  among ks rank = list_any p (of_class ks rank)

  abbrev any_rank : List CompositeIntermediateKey → Bool
  any_rank ks =
      among ks 0
      || (among ks 1 || (among ks 2 || (among ks 3 || (among ks 4 || (among ks 5 || false)))))

  -- a key of a list is a key of one of its classes
  any_by_ranks : (ks : List CompositeIntermediateKey) → list_any p ks ≡ any_rank ks
  any_by_ranks [] = refl
  any_by_ranks (Null ∷ ks) = ap (λ c. p Null || c) (any_by_ranks ks)
      ∙ or_in (p Null) (among ks 0)
      (among ks 1 || (among ks 2 || (among ks 3 || (among ks 4 || (among ks 5 || false)))))
  any_by_ranks (Truth b ∷ ks) = ap (λ c. p (Truth b) || c) (any_by_ranks ks)
      ∙ move1 (p (Truth b)) (among ks 0) (among ks 1)
      (among ks 2 || (among ks 3 || (among ks 4 || (among ks 5 || false))))
  any_by_ranks (Str text ∷ ks) = ap (λ c. p (Str text) || c) (any_by_ranks ks)
      ∙ move2 (p (Str text)) (among ks 0) (among ks 1) (among ks 2)
      (among ks 3 || (among ks 4 || (among ks 5 || false)))
  any_by_ranks (I64 n ∷ ks) = ap (λ c. p (I64 n) || c) (any_by_ranks ks)
      ∙ move3 (p (I64 n)) (among ks 0) (among ks 1) (among ks 2) (among ks 3)
      (among ks 4 || (among ks 5 || false))
  any_by_ranks (U64 n ∷ ks) = ap (λ c. p (U64 n) || c) (any_by_ranks ks)
      ∙ move3 (p (U64 n)) (among ks 0) (among ks 1) (among ks 2) (among ks 3)
      (among ks 4 || (among ks 5 || false))
  any_by_ranks (IpAddr a ∷ ks) = ap (λ c. p (IpAddr a) || c) (any_by_ranks ks)
      ∙ move4 (p (IpAddr a)) (among ks 0) (among ks 1) (among ks 2) (among ks 3) (among ks 4)
      (among ks 5 || false)
  any_by_ranks (DateTime ns ∷ ks) = ap (λ c. p (DateTime ns) || c) (any_by_ranks ks)
      ∙ move5 (p (DateTime ns)) (among ks 0) (among ks 1) (among ks 2) (among ks 3) (among ks 4)
      (among ks 5) false

-- a key of the list put by class is a key of the list
any_by_class : (p : CompositeIntermediateKey → Bool) (ks : List CompositeIntermediateKey)
    → list_any p (by_class ks) ≡ list_any p ks
unfolding by_class
any_by_class p ks =
    rw (
      list_any-append p (of_class ks 0),
      list_any-append p (of_class ks 1),
      list_any-append p
          (of_class ks 2),
      list_any-append p (of_class ks 3),
      list_any-append p (of_class ks 4),
      list_any-append p (of_class ks 5),
    ) (sym (any_by_ranks p ks))

abbrev MatchesByClass : QueryTree → Type 0
MatchesByClass tree = (document : Fields) → matches tree (put_by_class document)
    ≡ matches tree document

abbrev Proved : Type 0
Proved = (tree : QueryTree) × MatchesByClass tree

some_by_class : (es : List Proved) (document : Fields)
    → some_matches by_itself (map matches (map (λ e. e.0) es)) (put_by_class document)
    ≡ some_matches by_itself (map matches (map (λ e. e.0) es)) document
some_by_class [] document = refl
some_by_class (e ∷ es) document = rw (e.1 document, some_by_class es document) refl

all_by_class : (es : List Proved) (document : Fields)
    → all_match by_itself (map matches (map (λ e. e.0) es)) (put_by_class document)
    ≡ all_match by_itself (map matches (map (λ e. e.0) es)) document
all_by_class [] document = refl
all_by_class (e ∷ es) document = rw (e.1 document, all_by_class es document) refl

wanted_by_class : (must should : List Proved) (document : Fields)
    → wanted_match (map matches (map (λ e. e.0) must)) (map matches (map (λ e. e.0) should))
    (put_by_class document) ≡ wanted_match (map matches (map (λ e. e.0) must))
    (map matches (map (λ e. e.0) should)) document
wanted_by_class [] should document = some_by_class should document
wanted_by_class (e ∷ must) should document = all_by_class (e ∷ must) document

layer_by_class : (y : QueryTree-F Proved) (document : Fields)
    → matches_by (map-QueryTree QueryTree (Fields
    → Bool) matches (map-QueryTree Proved QueryTree (λ e. e.0) y)) (put_by_class document)
    ≡ matches_by (map-QueryTree QueryTree (Fields
    → Bool) matches (map-QueryTree Proved QueryTree (λ e. e.0) y)) document
layer_by_class layer.All document = refl
layer_by_class layer.Empty document = refl
layer_by_class (layer.Term field value) document = any_by_class (is_value value) (document field)
layer_by_class (layer.Range field lower upper) document = any_by_class (is_between lower upper)
    (document field)
layer_by_class (layer.Exists field) document = any_by_class is_any (document field)
layer_by_class (layer.Boolean must should must_not) document =
    rw (wanted_by_class must should document, some_by_class must_not document) refl

-- a query matches the document put by class where it matches the document
pub matches-by_class : (tree : QueryTree) → MatchesByClass tree
matches-by_class = ind-QueryTree MatchesByClass (λ x y is document.
    let rolled : (d : Fields)
    → matches (roll-QueryTree x) d ≡ matches_by (map-QueryTree QueryTree (Fields
    → Bool) matches x) d =
    λ d. ap (λ f. f d) (fold-roll-QueryTree (Fields → Bool) matches_by x) in
    rolled (put_by_class document)
    ∙ subst (λ z. matches_by (map-QueryTree QueryTree (Fields
    → Bool) matches z) (put_by_class document) ≡ matches_by (map-QueryTree QueryTree (Fields
    → Bool) matches z) document) is (layer_by_class y document)
    ∙ sym (rolled document))
