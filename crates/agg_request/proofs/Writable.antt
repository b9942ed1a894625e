-- Requests that may be written, level by level.
use Rattle.std.proofs.Common.{◌≡◌, ◌≤◌, ◌∷◌, [], ℕ, List, Bool, true, false, refl}
use Rattle.std.proofs.Common.{map, sym, subst, ◌∙◌, arith}
use Rattle.std.specs.Prelude.{◌&&◌}
use Rattle.std.specs.List.{list_all}
use Rattle.std.specs.Map.{keys_of}
use Rattle.std.proofs.lemmas.List.Folds.{list_all-map}
use Rattle.std.proofs.lemmas.Map.Made.{keys_of-map_values}
use Rattle.agg_values.specs.Names.{Named}
use Rattle.serde_json.specs.Data.{Data, Members, no_members, member}
use Rattle.agg_request.specs.json_values.Json.{EachNamedIs, names_in}
use Rattle.agg_request.specs.reading.RequestJson.{kind_word}
use Rattle.agg_request.specs.reading.Kinds.{may_hold}
use Rattle.agg_request_tree.specs.Request.{Request, agg_of, below_of}
use Rattle.agg_request.specs.Written.{all_may_be_written, has_no_null_min, may_be_written}
use Rattle.agg_request.specs.Written.{may_be_written_step}
use Rattle.agg_request_tree.specs.declared.aggregation.Aggregation.{Aggregation}
use Rattle.agg_request_tree.specs.declared.aggregation.Aggregation.TheFolds as folds
use folds.{fold_out-Aggregation}
use Rattle.agg_request_tree.proofs.RequestTrees.{levels}

-- where both hold, each does
both : (a b : Bool) → (a && b) ≡ true → (a ≡ true) × (b ≡ true)
both true true e = (refl, refl)
both true false e = absurd (cc)
both false b e = absurd (cc)

-- ---- what an aggregation may have below it

-- an aggregation may be written where no source of its own has Null as its least value, and it may
-- have what is below it, which may be written
pub writable-out : {B : Type 0} (a : Aggregation B)
    → may_be_written a
    ≡ (has_no_null_min (agg_of a)
    && (may_hold (kind_word (agg_of a)) (keys_of (below_of a)) && all_may_be_written (below_of a)))
writable-out {B = B} a =
    fold_out-Aggregation B Bool may_be_written_step a
    ∙ (λ i. has_no_null_min (agg_of a) && (may_hold (kind_word (agg_of a)) (names i) && each i))
  where
    -- the aggregations below, each with whether it may be written
    told : Named Bool
    told = map (λ e. (e.0, may_be_written e.1)) (below_of a)

    names : keys_of told ≡ keys_of (below_of a)
    names = keys_of-map_values (λ (b : Aggregation B). may_be_written b) (below_of a)

    each : list_all (λ e. e.1) told ≡ all_may_be_written (below_of a)
    each =
        list_all-map (λ (e : List ℕ × Bool). e.1)
        (λ (e : List ℕ × Aggregation B). (e.0, may_be_written e.1)) (below_of a)

-- what holds of an aggregation that may be written
record MayStand {B : Type 0} (a : Aggregation B) : Type 0 where
  own : has_no_null_min (agg_of a) ≡ true
  holds : may_hold (kind_word (agg_of a)) (keys_of (below_of a)) ≡ true
  below : all_may_be_written (below_of a) ≡ true

may-stand : {B : Type 0} (a : Aggregation B) → may_be_written a ≡ true → MayStand a
may-stand a may =
    let holds = may_hold (kind_word (agg_of a)) (keys_of (below_of a)) in
    let below = all_may_be_written (below_of a) in
    let outer = both (has_no_null_min (agg_of a)) (holds && below) (sym (writable-out a) ∙ may) in
    let inner = both holds below outer.1 in
    record { own = outer.0; holds = inner.0; below = inner.1 }

-- what may be written may have what is below it
pub may-hold : {B : Type 0} (a : Aggregation B) → may_be_written a ≡ true
    → may_hold (kind_word (agg_of a)) (keys_of (below_of a)) ≡ true
may-hold a may = (may-stand a may).holds

-- none of its own sources has Null as its least value
pub no-null-min : {B : Type 0} (a : Aggregation B) → may_be_written a ≡ true
    → has_no_null_min (agg_of a) ≡ true
no-null-min a may = (may-stand a may).own

-- what is below it may be written
pub may-below : {B : Type 0} (a : Aggregation B) → may_be_written a ≡ true
    → all_may_be_written (below_of a) ≡ true
may-below a may = (may-stand a may).below

-- ---- names

-- members that say these have their names
pub names-are : {A : Type 0} (Is : Data → A → Type 0) (ms : Members) (xs : Named A)
    → EachNamedIs Is ms xs → names_in ms ≡ keys_of xs
names-are Is no_members [] each = refl
names-are Is no_members (x ∷ xs) each = absurd each
names-are Is (member name d ms) [] each = absurd each
names-are Is (member name d ms) (x ∷ xs) each =
    let first : name ≡ x.0 = sym each.0 in
    let later = names-are Is ms xs each.2 in
    λ i. first i ∷ later i

-- ---- in a loop

-- those that are left have no more levels than all, and may be written
pub record AreWritable {B : Type 0} (all left : Request B) : Type 0 where
  pub lower : levels left ≤ levels all
  pub each : all_may_be_written left ≡ true

-- those after the first have no more levels than all, and may be written
pub AreWritable-more : {B : Type 0} (all left : Request B) (name : List ℕ) (a : Aggregation B)
    (later : Request B) → AreWritable all left → left ≡ (name, a) ∷ later → AreWritable all later
AreWritable-more {B = B} all left name a later h e =
    let here : AreWritable all ((name, a) ∷ later) =
    subst (λ (r : Request B). AreWritable all r) e h in
    record {
      lower = omega (arith, here.lower);
      each = (both (may_be_written a) (all_may_be_written later) here.each).1;
    }

-- ---- a test of each

-- whether all may be written is told by those that are left, which have no more levels than all
pub record AreUndecided {B : Type 0} (all left : Request B) : Type 0 where
  pub same : all_may_be_written all ≡ all_may_be_written left
  pub lower : levels left ≤ levels all
