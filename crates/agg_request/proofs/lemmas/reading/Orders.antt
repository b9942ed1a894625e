-- Orders of buckets as JSON.
use Rattle.std.proofs.Common.{◌≡◌, None, Some, Result, inl, inr, refl, subst, sym}
use Rattle.serde_json.specs.Data.{Data, null, boolean, number, string, array, object}
use Rattle.agg_request.specs.json_values.Json.{only_item, only_member}
use Rattle.agg_request.specs.reading.OrderJson.{IsOrderJson, IsPair, data_of_order, read_back}
use Rattle.agg_request.specs.json_values.Reading.{IsReading}
use Rattle.agg_request.specs.declared.reading.custom_order.CustomOrder.{CustomOrder}
use Rattle.agg_request.specs.declared.json_values.read_error.ReadError.{ReadError}
use Rattle.agg_request.proofs.lemmas.json_values.Readings.{read_as}

-- an array has no members
no-member : (d item : Data) → only_item d ≡ Some item → only_member d ≡ None
no-member null item is = refl
no-member (boolean b) item is = refl
no-member (number n) item is = refl
no-member (string s) item is = refl
no-member (array items) item is = refl
no-member (object ms) item is = absurd (cc)

-- what an array of one item says, its item says
pub order-of_item : (d item : Data) (result : Result CustomOrder ReadError)
    → only_item d ≡ Some item → IsReading (λ lenient. IsPair item) ⊥ result
    → IsReading (λ lenient. IsOrderJson d) ⊥ result
order-of_item d item result is told =
    read_as (λ lenient. IsPair item) ⊥ (λ lenient. IsOrderJson d) ⊥ result told
    (λ order pair. inr (item, is, pair)) (λ h. h) (λ lenient order. by_kind order)
  where
    none : only_member d ≡ None
    none = no-member d item is

    by_kind : (order : CustomOrder) → IsOrderJson d order → IsPair item order
    by_kind order (inl (text, value, found, word, target)) = absurd (cc (none, found))
    by_kind order (inr (other, same, pair)) =
        subst (λ x. IsPair x order) (other_is other same) pair
      where
        other_is : (other : Data) → only_item d ≡ Some other → other ≡ item
        other_is other same = cc (same, is)

-- what is no such array says what its pair says
pub order-of_pair : (d : Data) (result : Result CustomOrder ReadError) → only_item d ≡ None
    → IsReading (λ lenient. IsPair d) ⊥ result → IsReading (λ lenient. IsOrderJson d) ⊥ result
order-of_pair d result none told =
    read_as (λ lenient. IsPair d) ⊥ (λ lenient. IsOrderJson d) ⊥ result told
    (λ order pair. inl pair) (λ h. h) (λ lenient order. by_kind order)
  where
    by_kind : (order : CustomOrder) → IsOrderJson d order → IsPair d order
    by_kind order (inl pair) = pair
    by_kind order (inr (other, same, pair)) = absurd (cc (none, same))

-- what is written is read back
pub reads-back : (d : Data) (order : CustomOrder) → d ≡ data_of_order order
    → IsOrderJson d (read_back order)
reads-back d order is =
    subst (λ x. IsOrderJson x (read_back order)) (sym is) (inl (_, _, refl, refl, refl))
