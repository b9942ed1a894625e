-- The texts of `--by`:
-- [NAME=]FIELD[:INTERVAL[OFFSET]][,desc][,missing|missing=first|missing=last][,min=VALUE]
use Rattle.std.specs.Prelude.{◌≡◌, ◌<◌, ℕ, List, [], ◌∷◌, ◌++◌, length, take, drop, codes, ⊤}
use Rattle.std.specs.Prelude.{Bool, IsTrue, IsFalse, true, false, ◌==◌, ◌&&◌, ◌||◌, not}
use Rattle.std.specs.Prelude.{Option, Some, None, IsSomeAnd, option_and_then, option_map}
use Rattle.std.specs.Prelude.{if◌then◌else◌, unwrap_or}
use Rattle.std.specs.List.{position}
use Rattle.std.specs.Option.{option_map_or}
use Rattle.std.specs.Str.{bytes_eq}
use Rattle.peslumok_texts.specs.words.Cut.{cut, cut_at, Lacks, LacksIfAny}
use Rattle.peslumok_texts.specs.declared.words.by.BySpec.{BySpec}
use Rattle.peslumok_texts.specs.declared.words.by.BySpecError.{BySpecError}
use Rattle.peslumok_texts.specs.declared.words.by.BySpecError.TheVariants as error
use Rattle.peslumok_texts.specs.declared.words.by.Missing.{Missing}
use Rattle.peslumok_texts.specs.declared.words.by.Missing.TheVariants.{NoGroup, ByOrder, First}
use Rattle.peslumok_texts.specs.declared.words.by.Missing.TheVariants.{Last}

-- what a text stands for
pub record Parts : Type 0 where
  pub name : Option (List ℕ)
  pub field : List ℕ
  pub interval : Option (List ℕ)
  pub offset : Option (List ℕ)
  pub is_descending : Bool
  pub missing : Missing
  pub min : Option (List ℕ)

-- what stands before a least value
abbrev pub min_word : List ℕ
min_word = codes ",min="

-- what the words after the first comma say
unfoldable pub words_of : List ℕ → Option (Bool × Missing)
words_of words =
    if bytes_eq words (codes "desc") then Some (true, NoGroup)
    else if bytes_eq words (codes "missing") then Some (false, ByOrder)
    else if bytes_eq words (codes "missing=first") then Some (false, First)
    else if bytes_eq words (codes "missing=last") then Some (false, Last)
    else if bytes_eq words (codes "desc,missing") then Some (true, ByOrder)
    else if bytes_eq words (codes "desc,missing=first") then Some (true, First)
    else if bytes_eq words (codes "desc,missing=last") then Some (true, Last)
    else None

-- a part is written, and empty
abbrev pub is_blank : Option (List ℕ) → Bool
is_blank part = option_map_or (λ text. length text == 0) part false

-- an offset is a sign alone
abbrev pub is_lone_sign : Option (List ℕ) → Bool
is_lone_sign offset = option_map_or (λ text. length text == 1) offset false

-- the field is not empty, nor is what else is written, but for a least value
abbrev pub is_filled : Parts → Bool
is_filled p =
    not (length p.field == 0) && (not (is_blank p.name)
    && (not (is_blank p.interval) && not (is_lone_sign p.offset)))

-- parts that stand for something
abbrev pub filled : Parts → Option Parts
filled p = if is_filled p then Some p else None

-- the name before an equals sign, where one stands there, and what stands after it
abbrev pub name_and_rest : List ℕ × Option (List ℕ) → Option (List ℕ) × List ℕ
name_and_rest (head, None) = (None, head)
name_and_rest (name, Some rest) = (Some name, rest)

-- a byte begins an offset: `+` or `-`
abbrev pub is_sign : ℕ → Bool
is_sign b = b == 43 || b == 45

-- an interval up to a sign, and the offset from there on
abbrev pub at_sign : List ℕ → Option ℕ → Option (List ℕ) × Option (List ℕ)
at_sign text None = (Some text, None)
at_sign text (Some i) = (Some (take i text), Some (drop i text))

-- an interval, and the offset that begins at its first sign
abbrev pub interval_and_offset : Option (List ℕ) → Option (List ℕ) × Option (List ℕ)
interval_and_offset None = (None, None)
interval_and_offset (Some text) = at_sign text (position is_sign text)

-- the parts of what stands before the first comma, with what the words say, and a least value
abbrev pub parts_of : Option (List ℕ) × List ℕ → Option (List ℕ) → Bool × Missing → Parts
parts_of named min words = record {
  name = named.0;
  field = (cut 58 named.1).0;
  interval = (interval_and_offset (cut 58 named.1).1).0;
  offset = (interval_and_offset (cut 58 named.1).1).1;
  is_descending = words.0;
  missing = words.1;
  min = min;
}

-- what stands after the first comma; nothing stands for the defaults
abbrev pub words_after : Option (List ℕ) → Option (Bool × Missing)
words_after None = Some (false, NoGroup)
words_after (Some words) = words_of words

-- the parts of a text before its least value, whose words are known; they may be empty
abbrev pub with_min : List ℕ × Option (List ℕ) → Option Parts
with_min (front, min) =
    option_map (parts_of (name_and_rest (cut 61 (cut 44 front).0)) min)
    (words_after (cut 44 front).1)

-- the parts of a text whose words are known; they may be empty
abbrev pub written : List ℕ → Option Parts
written text = with_min (cut_at min_word text)

-- what a text stands for, if it is one of `--by`
abbrev pub by_of : List ℕ → Option Parts
by_of text = option_and_then filled (written text)

-- what stands after the first comma are these words, and they are unknown
pub record AreUnknownWords (after_comma : Option (List ℕ)) (words : List ℕ) : Type 0 where
  pub written : after_comma ≡ Some words
  pub unknown : words_of words ≡ None

-- why a text is none of `--by`: its words are unknown, or else its field is empty, or else its
-- name is, or else its interval, or only its offset
abbrev pub IsByFault : List ℕ → BySpecError → Type 0
IsByFault text (error.UnknownWords words) =
    AreUnknownWords (cut 44 (cut_at min_word text).0).1 words.now
IsByFault text error.NoField = IsSomeAnd (written text) (λ p. length p.field ≡ 0)
IsByFault text error.NoName =
    IsSomeAnd (written text) (λ p. (0 < length p.field) × IsTrue (is_blank p.name))
IsByFault text error.NoInterval =
    IsSomeAnd (written text) (λ p.
    (0 < length p.field) × IsFalse (is_blank p.name) × IsTrue (is_blank p.interval))
IsByFault text error.NoOffset =
    IsSomeAnd (written text) (λ p.
    (0 < length p.field) × IsFalse (is_blank p.name) × IsFalse (is_blank p.interval)
    × IsTrue (is_lone_sign p.offset))

-- what a contract sees of a spec
abbrev pub parts : BySpec → Parts
parts by = record {
  name = option_map (λ name. name.now) by.name;
  field = by.field.now;
  interval = option_map (λ interval. interval.now) by.interval;
  offset = option_map (λ offset. offset.now) by.offset;
  is_descending = by.is_descending;
  missing = by.missing;
  min = option_map (λ min. min.now) by.min;
}

-- a text has no sign
abbrev pub LacksSigns : List ℕ → Type 0
LacksSigns text = Lacks 43 text × Lacks 45 text

-- a text begins with a sign
abbrev pub BeginsWithSign : List ℕ → Type 0
BeginsWithSign [] = ⊥
BeginsWithSign (b ∷ bs) = is_sign b ≡ true

-- an interval has no sign, and an offset stands only after one, and begins with its sign
abbrev pub CanBeDivided : Option (List ℕ) → Option (List ℕ) → Type 0
CanBeDivided None None = ⊤
CanBeDivided None (Some offset) = ⊥
CanBeDivided (Some interval) None = LacksSigns interval
CanBeDivided (Some interval) (Some offset) = LacksSigns interval × BeginsWithSign offset

-- parts that a text can stand for: none is empty, and none has a sign that ends it
pub record IsPlain (p : Parts) : Type 0 where
  pub filled : is_filled p ≡ true
  pub field_comma : Lacks 44 p.field
  pub field_equals : Lacks 61 p.field
  pub field_colon : Lacks 58 p.field
  pub name_comma : LacksIfAny 44 p.name
  pub name_equals : LacksIfAny 61 p.name
  pub interval_comma : LacksIfAny 44 p.interval
  pub interval_equals : LacksIfAny 61 p.interval
  pub offset_comma : LacksIfAny 44 p.offset
  pub offset_equals : LacksIfAny 61 p.offset
  pub divided : CanBeDivided p.interval p.offset

-- how a name is written
abbrev pub name_text : Option (List ℕ) → List ℕ
name_text None = []
name_text (Some name) = name ++ codes "="

-- how an interval and an offset are written
abbrev pub division_text : Option (List ℕ) → Option (List ℕ) → List ℕ
division_text None offset = []
division_text (Some interval) offset = 58 ∷ interval ++ unwrap_or offset []

-- how the order and the place of missing values are written
abbrev pub words_text : Bool → Missing → List ℕ
words_text false NoGroup = []
words_text true NoGroup = codes ",desc"
words_text false ByOrder = codes ",missing"
words_text false First = codes ",missing=first"
words_text false Last = codes ",missing=last"
words_text true ByOrder = codes ",desc,missing"
words_text true First = codes ",desc,missing=first"
words_text true Last = codes ",desc,missing=last"

-- how a least value is written
abbrev pub min_text : Option (List ℕ) → List ℕ
min_text None = []
min_text (Some value) = min_word ++ value

-- how a name, a field and what divides its values are written
abbrev pub head_text : Parts → List ℕ
head_text p = name_text p.name ++ (p.field ++ division_text p.interval p.offset)

-- how parts are written
abbrev pub by_text : Parts → List ℕ
by_text p = head_text p ++ (words_text p.is_descending p.missing ++ min_text p.min)
