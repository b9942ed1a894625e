-- The items of an array, read one after the other.
use Rattle.std.proofs.Common.{◌≡◌, ◌<◌, ◌≤◌, ◌-◌, ℕ, List, [], ◌∷◌, ◌++◌, length, refl, ap, ◌∙◌}
use Rattle.std.proofs.Common.{arith}
use Rattle.std.specs.Prelude.{Option, Some, None}
use Rattle.json.specs.Json.{Items, Json, Parse, after_end_array, item, items, no_items, parse_map}
use Rattle.json.specs.Token.{Token}
use Rattle.json.specs.Value.{items_of}
use Rattle.json.proofs.Grammar.{items_end, items_more}

-- items with these before them
abbrev pub before : List Json → Items → Items
before [] rest = rest
before (j ∷ js) rest = item j (before js rest)

before-item : (js : List Json) (j : Json) (rest : Items)
    → before js (item j rest) ≡ before (js ++ j ∷ []) rest
before-item [] j rest = refl
before-item (k ∷ js) j rest = ap (item k) (before-item js j rest)

before-none : (js : List Json) → before js no_items ≡ items_of js
before-none [] = refl
before-none (j ∷ js) = ap (item j) (before-none js)

one_more : (js : List Json) (j : Json) (r : Option (Items × List Token))
    → parse_map (before js) (parse_map (item j) r) ≡ parse_map (before (js ++ j ∷ [])) r
one_more js j None = refl
one_more js j (Some p) = ap (λ js. Some (js, p.1)) (before-item js j p.0)

same_map : (r : Option (Items × List Token)) → r ≡ parse_map (before []) r
same_map None = refl
same_map (Some p) = refl

-- these items were read so far, each by this reading
pub record HasRead (p : Parse Json) (start now : List Token) (read : List Json) : Type 0 where
  pub turns : ℕ
  pub enough : length now ≤ turns
  pub is : items p (length start) start ≡ parse_map (before read) (items p turns now)

pub no_items_yet : (p : Parse Json) (start : List Token) → HasRead p start start []
no_items_yet p start = record {
  turns = length start;
  enough = omega arith;
  is = same_map (items p (length start) start);
}

pub one_item_more : (p : Parse Json) (start here next : List Token) (read : List Json) (j : Json)
    → after_end_array here ≡ None → p here ≡ Some (j, next) → length next < length here
    → HasRead p start here read → HasRead p start next (read ++ j ∷ [])
one_item_more p start here next read j going one shorter has =
    record {
      turns = has.turns - 1;
      enough = omega (arith, has.enough, shorter);
      is = has.is
          ∙ ap (parse_map (before read)) (items_more p has.turns here next j
          (omega (arith, has.enough, shorter)) going one)
          ∙ one_more read j (items p (has.turns - 1) next);
    }

-- all items, where the bracket comes next
pub all_items : (p : Parse Json) (start here rest : List Token) (read : List Json)
    → HasRead p start here read → after_end_array here ≡ Some rest
    → items p (length start) start ≡ Some (items_of read, rest)
all_items p start here rest read has closes =
    has.is ∙ ap (parse_map (before read)) (items_end p has.turns here rest has.enough closes)
    ∙ ap (λ js. Some (js, rest)) (before-none read)
