use Rattle.std.proofs.Common.{◌≡◌, map, take}
use Rattle.agg_segment.specs.declared.query.QueryTree.TheVariants.{Exists}
use Rattle.agg_pages.proofs.any_field.AnyFieldQueryBuilder.build_query.Given as goal

abbrev pub invariant-loop-name : goal.invariant-loop-name
invariant-loop-name l =
    l.should ≡ map (λ field. Exists field) (take l.name-index l.name-items)
