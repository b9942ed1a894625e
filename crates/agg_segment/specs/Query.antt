-- Which documents a query matches.
use Rattle.std.specs.Prelude.{◌==◌, ◌&&◌, ℕ, List, [], ◌∷◌, Bool, true, false, not}
use Rattle.std.specs.List.{list_any, list_all}
use Rattle.std.specs.Ordering.{is_eq, is_lt, is_le, is_gt, is_ge}
use Rattle.agg_values.specs.KeyOrder.{ascending_order}
use Rattle.agg_values.specs.Column.{class_rank}
use Rattle.agg_values.specs.TypedKey.{CompositeIntermediateKey}
use Rattle.agg_segment.specs.storage.Document.{Fields, key_of, by_class}
use Rattle.agg_segment.specs.declared.storage.document.FieldValue.{FieldValue}
use Rattle.agg_segment.specs.declared.query.RangeBound.{RangeBound}
use Rattle.agg_segment.specs.declared.query.RangeBound.TheVariants.{Unbounded, Included, Excluded}
use Rattle.agg_segment.specs.declared.query.QueryTree.{QueryTree}
use Rattle.agg_segment.specs.declared.query.QueryTree.TheOpen.{QueryTree-F, All, Empty, Term}
use Rattle.agg_segment.specs.declared.query.QueryTree.TheOpen.{Range, Exists, Boolean}
use Rattle.agg_segment.specs.declared.query.QueryTree.TheFolds.{fold-QueryTree}

-- whether a key is of the class of a value
abbrev pub is_of_class : FieldValue → CompositeIntermediateKey → Bool
is_of_class value key = class_rank key == class_rank (key_of value)

-- whether a key is that of a value, numbers by value
abbrev pub is_value : FieldValue → CompositeIntermediateKey → Bool
is_value value key = is_eq (ascending_order key (key_of value))

-- whether a key is on the side of a lower bound, and of its class
abbrev pub is_above : RangeBound → CompositeIntermediateKey → Bool
is_above Unbounded key = true
is_above (Included value) key = is_of_class value key && is_ge (ascending_order key (key_of value))
is_above (Excluded value) key = is_of_class value key && is_gt (ascending_order key (key_of value))

-- whether a key is on the side of an upper bound, and of its class
abbrev pub is_below : RangeBound → CompositeIntermediateKey → Bool
is_below Unbounded key = true
is_below (Included value) key = is_of_class value key && is_le (ascending_order key (key_of value))
is_below (Excluded value) key = is_of_class value key && is_lt (ascending_order key (key_of value))

-- whether a key is between two bounds
abbrev pub is_between : RangeBound → RangeBound → CompositeIntermediateKey → Bool
is_between lower upper key = is_above lower key && is_below upper key

-- every key
abbrev pub is_any : CompositeIntermediateKey → Bool
is_any key = true

-- whether a field holds such a key
abbrev pub holds : (CompositeIntermediateKey → Bool) → List ℕ → Fields → Bool
holds is_such field document = list_any is_such (document field)

-- whether all of these match, by what each matches
abbrev pub all_match : {Q : Type 0} → (Q → Fields → Bool) → List Q → Fields → Bool
all_match is_match queries document = list_all (λ query. is_match query document) queries

-- whether some of these matches, by what each matches
abbrev pub some_matches : {Q : Type 0} → (Q → Fields → Bool) → List Q → Fields → Bool
some_matches is_match queries document = list_any (λ query. is_match query document) queries

-- what a query matches that is its own test
abbrev pub by_itself : (Fields → Bool) → Fields → Bool
by_itself is_match = is_match

-- every must, and where there is none, some should
abbrev pub wanted_match : List (Fields → Bool) → List (Fields → Bool) → Fields → Bool
wanted_match [] should document = some_matches by_itself should document
wanted_match (query ∷ must) should document = all_match by_itself (query ∷ must) document

-- whether a query matches, where its parts say so
abbrev pub matches_by : QueryTree-F (Fields → Bool) → Fields → Bool
matches_by All document = true
matches_by Empty document = false
matches_by (Term field value) document = holds (is_value value) field document
matches_by (Range field lower upper) document = holds (is_between lower upper) field document
matches_by (Exists field) document = holds is_any field document
matches_by (Boolean must should must_not) document =
    wanted_match must should document && not (some_matches by_itself must_not document)

-- whether a query matches a document
abbrev pub matches : QueryTree → Fields → Bool
matches = fold-QueryTree (Fields → Bool) matches_by

-- a document with the keys of each field put by class
abbrev pub put_by_class : Fields → Fields
put_by_class document field = by_class (document field)
