-- Kinds of aggregations, by their names, and what they may have below them.
use Rattle.std.specs.Prelude.{◌∷◌, ◌&&◌, ◌||◌, ◌==◌, [], ℕ, List, Bool, codes, length, not}
use Rattle.std.specs.List.{list_any}
use Rattle.std.specs.Str.{bytes_eq}
use Rattle.agg_request.specs.json_values.Json.{is_among}

-- the kinds that are numbers over a field
abbrev pub metric_kinds : List (List ℕ)
metric_kinds = codes "value_count" ∷ codes "max" ∷ codes "min" ∷ codes "sum" ∷ []

-- whether none of these names is that of a member of a bucket
abbrev pub are_free : List (List ℕ) → Bool
are_free names =
    not (list_any (λ name. bytes_eq name (codes "key") || bytes_eq name (codes "doc_count")) names)

-- whether an aggregation of this kind may have aggregations of these names below it: a metric may
-- have none, and none may have the name of a member of a bucket
abbrev pub may_hold : List ℕ → List (List ℕ) → Bool
may_hold kind names =
    (not (is_among kind metric_kinds) || (length names == 0)) && are_free names
