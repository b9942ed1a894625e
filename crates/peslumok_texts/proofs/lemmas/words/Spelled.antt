-- What a text of `--by` is written from is what it stands for.
use Rattle.std.proofs.Common.{◌≡◌, ◌++◌, ◌==◌, ℕ, List, [], ◌∷◌, Bool, true, false, Some, None}
use Rattle.std.proofs.Common.{Option, refl, append-nil, codes, drop_at, length, option_map, take_at}
use Rattle.std.specs.Prelude.{unwrap_or}
use Rattle.std.proofs.lemmas.List.{append_assoc}
use Rattle.peslumok_texts.specs.words.Cut.{Lacks, LacksIfAny, cut}
use Rattle.peslumok_texts.specs.words.By.{Parts, IsPlain, words_of, words_after, words_text}
use Rattle.peslumok_texts.specs.words.By.{name_text, division_text, head_text, by_text, by_of}
use Rattle.peslumok_texts.specs.words.By.{CanBeDivided, interval_and_offset, name_and_rest}
use Rattle.peslumok_texts.specs.declared.words.by.Missing.{Missing}
use Rattle.peslumok_texts.specs.declared.words.by.Missing.TheVariants.{NoGroup, ByOrder, First}
use Rattle.peslumok_texts.specs.declared.words.by.Missing.TheVariants.{Last}
use Rattle.peslumok_texts.proofs.lemmas.words.Cuts.{lacks_append, cut-none, cut-at}
use Rattle.peslumok_texts.proofs.lemmas.words.Offsets.{first_sign, no_sign}
use Rattle.peslumok_texts.proofs.lemmas.words.WordCuts.{min_cut}

-- the words are cut off and read
words_cut : (head : List ℕ) (d : Bool) (m : Missing) → Lacks 44 head
    → ((cut 44 (head ++ words_text d m)).0 ≡ head)
    × (words_after (cut 44 (head ++ words_text d m)).1 ≡ Some (d, m))
unfolding words_of
words_cut head false NoGroup l = rw (append-nil head, cut-none 44 head l) (refl, refl)
words_cut head true NoGroup l = rw (cut-at 44 head (codes "desc") l) (refl, refl)
words_cut head false ByOrder l = rw (cut-at 44 head (codes "missing") l) (refl, refl)
words_cut head false First l = rw (cut-at 44 head (codes "missing=first") l) (refl, refl)
words_cut head false Last l = rw (cut-at 44 head (codes "missing=last") l) (refl, refl)
words_cut head true ByOrder l = rw (cut-at 44 head (codes "desc,missing") l) (refl, refl)
words_cut head true First l = rw (cut-at 44 head (codes "desc,missing=first") l) (refl, refl)
words_cut head true Last l = rw (cut-at 44 head (codes "desc,missing=last") l) (refl, refl)

-- what stands after a colon
abbrev after_colon : Option (List ℕ) → Option (List ℕ) → Option (List ℕ)
after_colon interval offset = option_map (λ i. i ++ unwrap_or offset []) interval

-- what divides a field is cut off
division_cut : (field : List ℕ) (interval offset : Option (List ℕ)) → Lacks 58 field
    → cut 58 (field ++ division_text interval offset) ≡ (field, after_colon interval offset)
division_cut field None offset l = let at = cut-none 58 field l in rw (append-nil field) at
division_cut field (Some text) offset l = cut-at 58 field (text ++ unwrap_or offset []) l

-- a part that is not there has no byte
lacks_rest : (c : ℕ) (offset : Option (List ℕ)) → LacksIfAny c offset
    → Lacks c (unwrap_or offset [])
lacks_rest c None l = tt
lacks_rest c (Some text) l = l

lacks_division : (c : ℕ) (interval offset : Option (List ℕ)) → ((58 == c) ≡ false)
    → LacksIfAny c interval → LacksIfAny c offset → Lacks c (division_text interval offset)
lacks_division c None offset colon l m = tt
lacks_division c (Some text) offset colon l m =
    (colon, lacks_append c text (unwrap_or offset []) l (lacks_rest c offset m))

lacks_name : (name : Option (List ℕ)) → LacksIfAny 44 name → Lacks 44 (name_text name)
lacks_name None l = tt
lacks_name (Some name) l = lacks_append 44 name (61 ∷ []) l (refl, tt)

-- the name is cut off
name_cut : (name : Option (List ℕ)) (rest : List ℕ)
    → LacksIfAny 61 name → Lacks 61 rest
    → name_and_rest (cut 61 (name_text name ++ rest)) ≡ (name, rest)
name_cut None rest n l = let at = cut-none 61 rest l in rw at refl
name_cut (Some name) rest n l =
    let shape = append_assoc name (61 ∷ []) rest in
    let at = cut-at 61 name rest n in
    rw (shape, at) refl

-- an offset is cut off
offset_cut : (interval offset : Option (List ℕ)) → CanBeDivided interval offset
    → interval_and_offset (after_colon interval offset) ≡ (interval, offset)
offset_cut None None divided = refl
offset_cut None (Some offset) divided = absurd divided
offset_cut (Some interval) None divided =
    let none = no_sign interval divided in rw (append-nil interval, none) refl
offset_cut (Some interval) (Some []) divided = absurd divided.1
offset_cut (Some interval) (Some (b ∷ bs)) divided =
    let place = first_sign interval b bs divided.0 divided.1 in
    let front = take_at interval (b ∷ bs) (length interval) refl in
    let back = drop_at interval (b ∷ bs) (length interval) refl in
    rw (place, front, back) refl

pub stands : (p : Parts) → IsPlain p → by_of (by_text p) ≡ Some p
stands p plain =
    let division = division_text p.interval p.offset in
    let rest = p.field ++ division in
    let rest_comma : Lacks 44 rest =
    lacks_append 44 p.field division plain.field_comma
    (lacks_division 44 p.interval p.offset refl plain.interval_comma plain.offset_comma) in
    let rest_equals : Lacks 61 rest =
    lacks_append 61 p.field division plain.field_equals
    (lacks_division 61 p.interval p.offset refl plain.interval_equals plain.offset_equals) in
    let head_comma : Lacks 44 (head_text p) =
    lacks_append 44 (name_text p.name) rest
    (lacks_name p.name plain.name_comma) rest_comma in
    let least = min_cut (head_text p) p.is_descending p.missing p.min head_comma in
    let words = words_cut (head_text p) p.is_descending p.missing head_comma in
    let named = name_cut p.name rest plain.name_equals rest_equals in
    let ends = division_cut p.field p.interval p.offset plain.field_colon in
    let divided = offset_cut p.interval p.offset plain.divided in
    rw (least, words.0, words.1, named, ends, divided, plain.filled) refl
