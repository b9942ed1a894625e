-- The order of encoded keys and of tuples of them.
use Rattle.std.proofs.Common.{◌≡◌, [], ◌∷◌, refl}
use Rattle.std.specs.Cmp.{IsTotalOrder}
use Rattle.std.specs.Cmp.Lexicographic.{slice_cmp}
use Rattle.std.specs.Ordering.{nat_cmp}
use Rattle.std.specs.declared.cmp.Ordering.TheVariants.{Equal}
use Rattle.std.proofs.lemmas.Cmp.{lists_total, nat_cmp_total, on_total, then_total}
use Rattle.std.proofs.lemmas.Map.Lookups.{exact_unsigned}
use Rattle.agg_values.proofs.KeyOrder.{then_equal}
use Rattle.agg_composite.specs.accessor.Encoding.{EncodedTuple, encoded_order, encoded_tuple_order}
use Rattle.agg_composite.specs.declared.accessor.encoded.Encoded.{Encoded}

-- what stands beyond the end of a list of keys
abbrev pub nothing : Encoded
nothing = record { lane = 0; raw = 0 }

-- the laws of the order of keys
pub key_order-total : IsTotalOrder encoded_order
key_order-total = then_total (on_total (λ e. e.lane) nat_cmp_total)
    (on_total (λ e. e.raw) nat_cmp_total)

-- two keys are Equal only where they are the same
pub key-exact : (e f : Encoded) → encoded_order e f ≡ Equal → e ≡ f
key-exact e f h =
    let both = then_equal (nat_cmp e.lane f.lane) (nat_cmp e.raw f.raw) h in
    let lane = exact_unsigned e.lane f.lane both.0 in
    let raw = exact_unsigned e.raw f.raw both.1 in
    λ i. record { lane = lane i; raw = raw i }

-- the laws of the order of tuples
pub tuple_order-total : IsTotalOrder encoded_tuple_order
tuple_order-total = lists_total key_order-total

-- two tuples are Equal only where they are the same
pub tuple-exact : (es fs : EncodedTuple) → encoded_tuple_order es fs ≡ Equal → es ≡ fs
tuple-exact [] [] h = refl
tuple-exact [] (f ∷ fs) h = cc
tuple-exact (e ∷ es) [] h = cc
tuple-exact (e ∷ es) (f ∷ fs) h =
    let both = then_equal (encoded_order e f) (slice_cmp encoded_order es fs) h in
    let first = key-exact e f both.0 in
    let rest = tuple-exact es fs both.1 in
    λ i. first i ∷ rest i
