use Rattle.std.proofs.Common.{rules}
use Rattle.std.specs.Ordering.{is_lt}
use Rattle.std.proofs.lemmas.List.Sorted.{answers_always}
use Rattle.agg_segment.specs.Gatherings.{column_cmp}
use Rattle.agg_segment.proofs.ColumnSort.{column_order, columns_stable, keys_alike, keys_sorted}
use Rattle.agg_segment.proofs.gatherings.columns.sort.Goals as goal

pub returns-clause-sorted : goal.returns-clause-sorted
returns-clause-sorted c =
    keys_sorted c.sort_by.new.self.items
    (c.in_ok-sort_by.ensures.sorted (λ x y. is_lt (column_cmp x y)) column_order
    (answers_always _ _ _ (λ f a r f' called. search rules)))

pub returns-clause-alike : goal.returns-clause-alike
returns-clause-alike c =
    keys_alike c.args.columns.now.items c.sort_by.new.self.items
    (c.in_ok-sort_by.ensures.stable (λ x y. is_lt (column_cmp x y)) column_order
    (answers_always _ _ _ (λ f a r f' called. search rules)))

pub returns-clause-stable : goal.returns-clause-stable
returns-clause-stable c =
    columns_stable c.args.columns.now.items c.sort_by.new.self.items
    (c.in_ok-sort_by.ensures.stable (λ x y. is_lt (column_cmp x y)) column_order
    (answers_always _ _ _ (λ f a r f' called. search rules)))
