-- The texts of `--where`: FIELD=VALUE, FIELD!=VALUE, FIELD<VALUE, FIELD<=VALUE, FIELD>VALUE,
-- FIELD>=VALUE or FIELD?
use Rattle.std.specs.Prelude.{◌≡◌, ◌<◌, ℕ, List, length, take, drop, codes, Bool, ◌==◌, ◌||◌}
use Rattle.std.specs.Prelude.{nat_eq, slice_get, IsSomeAnd}
use Rattle.std.specs.Prelude.{if◌then◌else◌, Option, Some, None, option_map, option_and_then}
use Rattle.std.specs.List.{position, starts_with}
use Rattle.std.specs.Str.{bytes_eq}
use Rattle.peslumok_texts.specs.declared.words.condition.Condition.{Condition}
use Rattle.peslumok_texts.specs.declared.words.condition.ConditionError.{ConditionError}
use Rattle.peslumok_texts.specs.declared.words.condition.ConditionError.TheVariants as error
use Rattle.peslumok_texts.specs.declared.words.condition.Test.{Test}
use Rattle.peslumok_texts.specs.declared.words.condition.Test.TheVariants.{Is, IsNot, Below, AtMost}
use Rattle.peslumok_texts.specs.declared.words.condition.Test.TheVariants.{Above, AtLeast, Exists}

-- what a value has to be
pub data Demand : Type 0 where
  is : List ℕ → Demand
  is_not : List ℕ → Demand
  below : List ℕ → Demand
  at_most : List ℕ → Demand
  above : List ℕ → Demand
  at_least : List ℕ → Demand
  exists : Demand

-- what a text stands for
pub record Parts : Type 0 where
  pub field : List ℕ
  pub test : Demand

-- a byte ends a field: `=`, `!`, `<`, `>` or `?`
abbrev pub is_sign : ℕ → Bool
is_sign b = b == 61 || b == 33 || b == 60 || b == 62 || b == 63

-- a text up to its first sign, and from there on
abbrev pub at_sign : List ℕ → Option (List ℕ × List ℕ)
at_sign text = option_map (λ i. (take i text, drop i text)) (position is_sign text)

-- what stands after a prefix
unfoldable pub after_prefix : List ℕ → List ℕ → Option (List ℕ)
after_prefix prefix text =
    if starts_with nat_eq text prefix then Some (drop (length prefix) text) else None

-- the demand on a value that is there, or else another
abbrev pub demand_or : Option (List ℕ) → (List ℕ → Demand) → Option Demand → Option Demand
demand_or (Some value) demand other = Some (demand value)
demand_or None demand other = other

-- what a text says from its sign on
abbrev pub test_of : List ℕ → Option Demand
test_of text =
    demand_or (after_prefix (codes "!=") text) is_not
    (demand_or (after_prefix (codes "<=") text) at_most
    (demand_or (after_prefix (codes ">=") text) at_least
    (demand_or (after_prefix (codes "=") text) is
    (demand_or (after_prefix (codes "<") text) below
    (demand_or (after_prefix (codes ">") text) above
    (if bytes_eq text (codes "?") then Some exists else None))))))

-- a field that is not empty, and the test after it
abbrev pub with_field : List ℕ × List ℕ → Option Parts
with_field (field, rest) =
    if length field == 0 then None
    else option_map (λ test. record { field = field; test = test }) (test_of rest)

-- what a text stands for, if it is one of `--where`
abbrev pub condition_of : List ℕ → Option Parts
condition_of text = option_and_then with_field (at_sign text)

-- after a field that is not empty stands this sign, and no test
pub record LacksTest (sign : ℕ) (parts : List ℕ × List ℕ) : Type 0 where
  pub some_field : 0 < length parts.0
  pub sign_after : slice_get parts.1 0 ≡ Some sign
  pub no_test : test_of parts.1 ≡ None

-- why a text is none of `--where`: it has no sign, or else no field before it, or else `!` or `?`
-- stands there and begins no test
abbrev pub IsConditionFault : List ℕ → ConditionError → Type 0
IsConditionFault text error.NoTest = at_sign text ≡ None
IsConditionFault text error.NoField = IsSomeAnd (at_sign text) (λ parts. length parts.0 ≡ 0)
IsConditionFault text error.LoneExclamation = IsSomeAnd (at_sign text) (LacksTest 33)
IsConditionFault text error.AfterQuestion = IsSomeAnd (at_sign text) (LacksTest 63)

-- what a contract sees of a test
abbrev pub demand : Test → Demand
demand (Is value) = is value.now
demand (IsNot value) = is_not value.now
demand (Below value) = below value.now
demand (AtMost value) = at_most value.now
demand (Above value) = above value.now
demand (AtLeast value) = at_least value.now
demand Exists = exists

-- what a contract sees of a condition
abbrev pub parts : Condition → Parts
parts condition = record { field = condition.field.now; test = demand condition.test }
