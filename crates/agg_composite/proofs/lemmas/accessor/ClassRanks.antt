-- The classes of columns and keys compare as their ranks do.
use Rattle.std.proofs.Common.{◌≡◌, ◌<◌, ℕ, Option, Some, refl, sym, ap, ◌∙◌, arith}
use Rattle.std.specs.Option.{option_map_or}
use Rattle.std.specs.Ordering.{nat_cmp}
use Rattle.agg_values.specs.Column.{class_of, class_rank, order_rank}
use Rattle.agg_values.specs.TypedKey.{CompositeIntermediateKey}
use Rattle.agg_values.specs.contracts.column.ColumnPaginationOrderOrd.TheImpl.{ghosts}
use Rattle.agg_values.specs.declared.column.ColumnPaginationOrder.{ColumnPaginationOrder}
use Rattle.agg_values.specs.declared.column.ColumnPaginationOrder.TheVariants as class
use Rattle.agg_segment.specs.storage.Columns.{encoded_key, keys_rank}
use Rattle.agg_segment.specs.declared.storage.keys.ColumnKeys.{ColumnKeys}
use Rattle.agg_composite.proofs.lemmas.accessor.KeyClasses.{encoded-rank}

-- the rank of a class, 0 for none
abbrev rank_of : Option ColumnPaginationOrder → ℕ
rank_of class = option_map_or order_rank class 0

ranks-compare : (c d : ColumnPaginationOrder)
    → ghosts.cmp c d ≡ nat_cmp (order_rank c) (order_rank d)
ranks-compare class.Bool class.Bool = refl
ranks-compare class.Bool _ = refl
ranks-compare class.Str class.Bool = refl
ranks-compare class.Str _ = refl
ranks-compare class.Numeric class.Bool = refl
ranks-compare class.Numeric _ = refl
ranks-compare class.IpAddr class.Bool = refl
ranks-compare class.IpAddr _ = refl
ranks-compare class.DateTime class.Bool = refl
ranks-compare class.DateTime _ = refl

-- the class of a column compares with that of a key as their ranks do
pub classes-compare : (keys : ColumnKeys) (c d : ColumnPaginationOrder)
    → class_of (encoded_key keys 0) ≡ Some c → (k : CompositeIntermediateKey)
    → class_of k ≡ Some d → ghosts.cmp c d ≡ nat_cmp (keys_rank keys) (class_rank k)
classes-compare keys c d column_is k key_is =
    let column : order_rank c ≡ keys_rank keys =
    ap rank_of (sym column_is) ∙ encoded-rank keys 0 in
    let key : order_rank d ≡ class_rank k = ap rank_of (sym key_is) in
    ranks-compare c d ∙ (λ x. nat_cmp (column x) (key x))

some_rank_of : (d : ColumnPaginationOrder) → 0 < order_rank d
some_rank_of class.Bool = omega arith
some_rank_of _ = omega arith

-- a key of some class has a rank above that of Null
pub some_class : (k : CompositeIntermediateKey) (d : ColumnPaginationOrder)
    → class_of k ≡ Some d → 0 < class_rank k
some_class k d is =
    let here : class_rank k ≡ order_rank d = ap rank_of is in
    rw here (some_rank_of d)
