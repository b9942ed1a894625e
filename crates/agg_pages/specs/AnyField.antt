-- The query for documents with a value in some field.
use Rattle.std.specs.Prelude.{ℕ, List, [], Option, None, Some, map}
use Rattle.agg_segment.specs.declared.query.QueryTree.{QueryTree}
use Rattle.agg_segment.specs.declared.query.QueryTree.TheVariants.{Boolean, Exists}

-- a value in one of these fields; there is no query for no fields
abbrev pub any_field : List (List ℕ) → Option QueryTree
any_field [] = None
any_field fields = Some (Boolean [] (map (λ field. Exists field) fields) [])
