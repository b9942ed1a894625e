-- Items that are appended one after another, with a comma between each two.
use Rattle.std.proofs.Common.{◌≡◌, ℕ, List, [], ◌∷◌, ◌++◌, Bool, true, false, refl, sym, ap, ◌∙◌}
use Rattle.std.proofs.Common.{add-one, append_assoc, drop, drop-cons, get_or, length, suc, ◌+◌, ◌<◌}
use Rattle.std.proofs.lemmas.List.{append-nil}
use Rattle.std.specs.List.{join_with_byte}
use Rattle.json.specs.Print.{quoted}
use Rattle.agg_results.specs.final_results.Appending.{more_items}
use Rattle.agg_results.specs.final_results.ResultsText.{comma_unless, member_text}

-- items that are joined are all appended
pub joined : (items : List (List ℕ)) → join_with_byte 44 items ≡ more_items true items
joined [] = refl
joined (x ∷ []) = sym (append-nil x)
joined (x ∷ y ∷ items) = ap (λ t. x ++ (44 ∷ t)) (joined (y ∷ items))

-- the whole stays the same while one more item is appended
pub item-appended : (before after whole item : List ℕ) (items rest : List (List ℕ))
    (first next : Bool)
    → items ≡ item ∷ rest
    → after ≡ before ++ (comma_unless first ++ item)
    → next ≡ false
    → before ++ more_items first items ≡ whole
    → after ++ more_items next rest ≡ whole
item-appended before after whole item items rest first next i a n w =
    rw (a, n) (append_assoc before (comma_unless first ++ item) (more_items false rest)
    ∙ ap (λ t. before ++ t) (append_assoc (comma_unless first) item (more_items false rest))
    ∙ ap (λ xs. before ++ more_items first xs) (sym i) ∙ w)

member-parts : (before comma name value : List ℕ)
    → ((before ++ comma) ++ (name ++ 58 ∷ [])) ++ value ≡ before ++ (comma ++ (name ++ 58 ∷ value))
member-parts before comma name value = simp append_assoc

-- a member is appended as a comma, its name with a colon, and its value
pub member-appended : (before spaced named after shown name value : List ℕ) (first : Bool)
    → spaced ≡ before ++ comma_unless first
    → shown ≡ name
    → named ≡ spaced ++ (quoted shown ++ 58 ∷ [])
    → after ≡ named ++ value
    → after ≡ before ++ (comma_unless first ++ member_text name value)
member-appended before spaced named after shown name value first c s n a =
    rw (a, n, s, c) (member-parts before (comma_unless first) (quoted name) value)

-- the item at an index is the first of those that are left
pub left-at : {A : Type 0} (items : List A) (index : ℕ) (item : A) → index < length items
    → item ≡ get_or items index item → drop index items ≡ item ∷ drop (index + 1) items
left-at items index item less is =
    drop-cons items index item less
    ∙ ap (λ x. x ∷ drop (suc index) items) (sym is)
    ∙ ap (λ n. item ∷ drop n items) (sym (add-one index))

-- a byte is appended
pub byte-appended : (new old char : List ℕ) (byte : ℕ) → new ≡ old ++ char → char ≡ byte ∷ []
    → new ≡ old ++ byte ∷ []
byte-appended new old char byte n c = n ∙ ap (λ t. old ++ t) c

-- all items between an opening and a closing byte
pub all-appended : (start opened before closed : List ℕ) (items left : List (List ℕ)) (first : Bool)
    (left_byte right_byte : ℕ)
    → opened ≡ start ++ left_byte ∷ []
    → before ++ more_items first left ≡ opened ++ more_items true items
    → left ≡ []
    → closed ≡ before ++ right_byte ∷ []
    → closed ≡ start ++ left_byte ∷ (join_with_byte 44 items ++ right_byte ∷ [])
all-appended start opened before closed items left first left_byte right_byte o w l c =
    let whole : before ≡ start ++ left_byte ∷ join_with_byte 44 items =
    sym (append-nil before) ∙ ap (λ xs. before ++ more_items first xs) (sym l) ∙ w
    ∙ ap (λ t. t ++ more_items true items) o
    ∙ append_assoc start (left_byte ∷ []) (more_items true items)
    ∙ ap (λ t. start ++ left_byte ∷ t) (sym (joined items)) in
    c ∙ ap (λ t. t ++ right_byte ∷ []) whole
    ∙ append_assoc start (left_byte ∷ join_with_byte 44 items) (right_byte ∷ [])
