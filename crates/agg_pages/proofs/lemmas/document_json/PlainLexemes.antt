-- The lexemes that begin with given bytes.
use Rattle.std.proofs.Common.{◌≡◌, inl, inr, ℕ, ◌-◌, List, [], ◌∷◌, ◌++◌, length, take, drop, true}
use Rattle.std.proofs.Common.{false, cond, refl, sym, ap, ap₂, ◌∙◌, arith, take_all}
use Rattle.std.proofs.lemmas.List.{append-nil, drop_all}
use Rattle.json.specs.Token.{Token, begin_object, end_object, begin_array, end_array, key, string}
use Rattle.json.specs.Token.{number, boolean, null, bad}
use Rattle.json.specs.Text.{content, plain}
use Rattle.json.specs.Word.{ends_word, head, word}
use Rattle.json.specs.Lex.{Lexeme, lex, between, in_string, token, comma, colon, string_token}
use Rattle.json.specs.Lex.{begins_colon}
use Rattle.json.specs.Print.{IsNumber, escape, token_text}
use Rattle.json.proofs.Printed.Numbers.{in_word-ended, lex-number}
use Rattle.json.proofs.Printed.Strings.{content-escape, lex-escape, escape_to_stop}
use Rattle.agg_pages.specs.document_json.Plain.{EndsValue, IsPlain, IsWord}

-- ---- lexemes of one byte

pub lex-open_brace : (t : List ℕ) → lex between (123 ∷ t) ≡ token begin_object ∷ lex between t
unfolding lex
lex-open_brace t = refl

pub lex-close_brace : (t : List ℕ) → lex between (125 ∷ t) ≡ token end_object ∷ lex between t
unfolding lex
lex-close_brace t = refl

pub lex-open_bracket : (t : List ℕ) → lex between (91 ∷ t) ≡ token begin_array ∷ lex between t
unfolding lex
lex-open_bracket t = refl

pub lex-close_bracket : (t : List ℕ) → lex between (93 ∷ t) ≡ token end_array ∷ lex between t
unfolding lex
lex-close_bracket t = refl

pub lex-comma : (t : List ℕ) → lex between (44 ∷ t) ≡ comma ∷ lex between t
unfolding lex
lex-comma t = refl

pub lex-colon : (t : List ℕ) → lex between (58 ∷ t) ≡ colon ∷ lex between t
unfolding lex
lex-colon t = refl

pub lex_space : (t : List ℕ) → lex between (32 ∷ t) ≡ lex between t
unfolding lex
lex_space t = refl

pub lex-end : lex between [] ≡ []
unfolding lex
lex-end = refl

-- ---- names and texts

plain_escape : (s : List ℕ) → IsPlain s → escape s ≡ s
plain_escape s is =
    sym (append-nil (escape s))
    ∙ escape_to_stop s 0 (length s) [] (omega (arith, is))
    ∙ ap (λ l. take (length s - 0) s ++ (escape l ++ [])) (drop_all (length s) s (omega arith))
    ∙ append-nil (take (length s - 0) s)
    ∙ take_all (length s - 0) s (omega arith)

lex-quote : (xs : List ℕ)
    → lex between (34 ∷ xs) ≡ token (string_token (content plain xs)) ∷ lex in_string xs
unfolding lex
lex-quote xs = refl

pub lex-plain : (s r : List ℕ) → IsPlain s
    → lex between (34 ∷ (s ++ 34 ∷ r)) ≡ token (string s) ∷ lex between r
lex-plain s r is =
    let same = plain_escape s is in
    lex-quote (s ++ 34 ∷ r)
    ∙ ap (λ o. token (string_token o) ∷ lex in_string (s ++ 34 ∷ r))
    (ap (λ e. content plain (e ++ 34 ∷ r)) (sym same) ∙ content-escape s r)
    ∙ ap (λ l. token (string s) ∷ l)
    (ap (λ e. lex in_string (e ++ 34 ∷ r)) (sym same) ∙ lex-escape s r)

-- ---- the end of a value

starts : (t : List ℕ) (x : ℕ) → head t ≡ x → (x ≡ 32 → ⊥) → t ≡ x ∷ drop 1 t
starts [] x e other = absurd (other (sym e))
starts (y ∷ ys) x e other = ap (λ z. z ∷ ys) e

ends_by : (x : ℕ) (t : List ℕ) → head t ≡ x → ends_word (x ∷ []) ≡ true → ends_word t ≡ true
ends_by x t e h = ap (λ y. ends_word (y ∷ [])) e ∙ h

pub value_ends : (t : List ℕ) → EndsValue t → ends_word t ≡ true
value_ends t (inl e) = ends_by 44 t e refl
value_ends t (inr (inl e)) = ends_by 125 t e refl
value_ends t (inr (inr e)) = ends_by 93 t e refl

no_colon_by : (x : ℕ) (t : List ℕ) (l : Lexeme) → head t ≡ x → (x ≡ 32 → ⊥)
    → ((r : List ℕ) → lex between (x ∷ r) ≡ l ∷ lex between r) → begins_colon (l ∷ []) ≡ false
    → begins_colon (lex between t) ≡ false
no_colon_by x t l e other reads h =
    ap begins_colon (ap (lex between) (starts t x e other) ∙ reads (drop 1 t))
    ∙ first l (lex between (drop 1 t)) h
  where
    first : (k : Lexeme) (ls : List Lexeme) → begins_colon (k ∷ []) ≡ false
        → begins_colon (k ∷ ls) ≡ false
    first (token u) ls g = refl
    first comma ls g = refl
    first colon ls g = g

pub value_no_colon : (t : List ℕ) → EndsValue t → begins_colon (lex between t) ≡ false
value_no_colon t (inl e) = no_colon_by 44 t comma e (λ z. omega arith) lex-comma refl
value_no_colon t (inr (inl e)) =
    no_colon_by 125 t (token end_object) e (λ z. omega arith) lex-close_brace refl
value_no_colon t (inr (inr e)) =
    no_colon_by 93 t (token end_array) e (λ z. omega arith) lex-close_bracket refl

pub lex-whole : (s r : List ℕ) → IsNumber s → EndsValue r
    → lex between (s ++ r) ≡ token (number s) ∷ lex between r
lex-whole s r is ends = lex-number s r is (value_ends r ends)

-- ---- words

lex_true : (r : List ℕ) → ends_word r ≡ true
    → lex between (token_text (boolean true) ++ r) ≡ token (boolean true) ∷ lex between r
unfolding lex word
lex_true r ended =
    ap₂ (λ b l. token (cond b (boolean true) bad) ∷ l) ended (in_word-ended r ended)

lex_false : (r : List ℕ) → ends_word r ≡ true
    → lex between (token_text (boolean false) ++ r) ≡ token (boolean false) ∷ lex between r
unfolding lex word
lex_false r ended =
    ap₂ (λ b l. token (cond b (boolean false) bad) ∷ l) ended (in_word-ended r ended)

lex_null : (r : List ℕ) → ends_word r ≡ true
    → lex between (token_text null ++ r) ≡ token null ∷ lex between r
unfolding lex word
lex_null r ended = ap₂ (λ b l. token (cond b null bad) ∷ l) ended (in_word-ended r ended)

pub lex-word : (v : Token) (word r : List ℕ) → IsWord v word → EndsValue r
    → lex between (word ++ r) ≡ token v ∷ lex between r
lex-word (boolean true) word r is ends =
    ap (λ w. lex between (w ++ r)) (sym is) ∙ lex_true r (value_ends r ends)
lex-word (boolean false) word r is ends =
    ap (λ w. lex between (w ++ r)) (sym is) ∙ lex_false r (value_ends r ends)
lex-word null word r is ends =
    ap (λ w. lex between (w ++ r)) (sym is) ∙ lex_null r (value_ends r ends)
lex-word begin_object word r is ends = absurd is
lex-word end_object word r is ends = absurd is
lex-word begin_array word r is ends = absurd is
lex-word end_array word r is ends = absurd is
lex-word (key s) word r is ends = absurd is
lex-word (string s) word r is ends = absurd is
lex-word (number s) word r is ends = absurd is
lex-word bad word r is ends = absurd is
