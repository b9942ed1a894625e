-- Lists of distinct values, ascending, and the places in them.
use Rattle.std.specs.Prelude.{◌≡◌, ◌<◌, ◌-◌, ℕ, List, [], get_or, length}
use Rattle.std.specs.declared.cmp.Ordering.{Ordering}
use Rattle.std.specs.declared.cmp.Ordering.TheVariants.{Less, Greater}
use Rattle.std.specs.Ordering.{nat_cmp, on}
use Rattle.std.specs.List.{HoldsAt}
use Rattle.std.specs.List.Sorted.{IsSortedByKey}
use Rattle.agg_values.specs.Names.{name_cmp}
use Rattle.agg_values.specs.declared.address.Address.{Address}
use Rattle.agg_segment.specs.declared.storage.hit.OrdHit.{OrdHit}
use Rattle.agg_segment.specs.declared.storage.hit.OrdHit.TheVariants.{Exact, Next, AfterLast}

-- the text at a place
abbrev pub text_at : List (List ℕ) → ℕ → List ℕ
text_at texts place = get_or texts place []

-- the last of texts
abbrev pub last_text : List (List ℕ) → List ℕ
last_text texts = text_at texts (length texts - 1)

-- places ascend by their texts
abbrev pub AreByText : List (List ℕ) → List ℕ → Type 0
AreByText texts places = IsSortedByKey (text_at texts) name_cmp places

-- the ordinal of a place is where its text is in a dictionary
abbrev pub HasOrdinal : List (List ℕ) → List (List ℕ) → List ℕ → ℕ → Type 0
HasOrdinal texts dictionary ordinals place =
    (get_or ordinals place 0 < length dictionary)
    × (text_at dictionary (get_or ordinals place 0) ≡ text_at texts place)

-- the address at a place
abbrev pub address_at : List Address → ℕ → Address
address_at addresses place = get_or addresses place (record { 0 = 0 })

-- addresses are ordered by their number
abbrev pub address_cmp : Address → Address → Ordering
address_cmp = on (λ a. a.0) nat_cmp

-- the items at two places compare as the places do
abbrev pub AreInPlaceOrder : {X : Type 0} → (X → X → Ordering) → List X → X → Type 0
AreInPlaceOrder cmp items d =
    (left right : ℕ) → left < length items → right < length items
    → cmp (get_or items left d) (get_or items right d) ≡ nat_cmp left right

-- all items before a place lie below a value
abbrev pub IsBelowUpTo : {X : Type 0} → (X → X → Ordering) → List X → X → ℕ → Type 0
IsBelowUpTo {X} cmp items x place =
    (i : ℕ) → i < place → HoldsAt (λ (y : X). cmp y x ≡ Less) items i

-- the first place whose item isn't below a value, exact where it is that value
abbrev pub IsHit : {X : Type 0} → (X → X → Ordering) → List X → X → OrdHit → Type 0
IsHit {X} cmp items x (Exact place) =
    (place < length items) × IsBelowUpTo cmp items x place
    × HoldsAt (λ (y : X). y ≡ x) items place
IsHit {X} cmp items x (Next place) =
    (place < length items) × IsBelowUpTo cmp items x place
    × HoldsAt (λ (y : X). cmp y x ≡ Greater) items place
IsHit {X} cmp items x AfterLast = IsBelowUpTo cmp items x (length items)
