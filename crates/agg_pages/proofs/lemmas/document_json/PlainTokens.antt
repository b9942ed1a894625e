-- The tokens that begin with given bytes, by the place where they stand.
use Rattle.std.proofs.Common.{◌≡◌, ℕ, List, [], ◌∷◌, ◌++◌, true, false, refl, sym, ap, ◌∙◌}
use Rattle.std.proofs.lemmas.Bool.{false≢true}
use Rattle.json.specs.Token.{Token, begin_object, end_object, begin_array, end_array, key, string}
use Rattle.json.specs.Token.{number, boolean, null, bad}
use Rattle.json.specs.Lex.{Lexeme, lex, between, token, comma, colon, Place, fresh, after_value}
use Rattle.json.specs.Lex.{after_comma, after_key, begins_colon, may_begin, may_close, punctuate}
use Rattle.agg_pages.specs.document_json.Plain.{EndsValue, IsWord}
use Rattle.agg_pages.proofs.lemmas.document_json.PlainLexemes.{lex-open_brace, lex-close_brace}
use Rattle.agg_pages.proofs.lemmas.document_json.PlainLexemes.{lex-open_bracket, lex-close_bracket}
use Rattle.agg_pages.proofs.lemmas.document_json.PlainLexemes.{lex-comma, lex-end, lex-word}
use Rattle.agg_pages.proofs.lemmas.document_json.PlainLexemes.{value_no_colon}

-- ---- tokens of lexemes

pub key_token : (p : Place) (s : List ℕ) (ls : List Lexeme) → may_begin p ≡ true
    → punctuate p (token (string s) ∷ colon ∷ ls) ≡ key s ∷ punctuate fresh ls
unfolding punctuate
key_token fresh s ls h = refl
key_token after_value s ls h = absurd (false≢true h)
key_token after_comma s ls h = refl
key_token after_key s ls h = absurd (false≢true h)

pub text_token : (p : Place) (s : List ℕ) (ls : List Lexeme) → may_begin p ≡ true
    → begins_colon ls ≡ false
    → punctuate p (token (string s) ∷ ls) ≡ string s ∷ punctuate after_value ls
unfolding punctuate
text_token fresh s ls h plain_next = rw plain_next
text_token after_value s ls h plain_next = absurd (false≢true h)
text_token after_comma s ls h plain_next = rw plain_next
text_token after_key s ls h plain_next = absurd (false≢true h)

pub number_token : (p : Place) (s : List ℕ) (ls : List Lexeme) → may_begin p ≡ true
    → punctuate p (token (number s) ∷ ls) ≡ number s ∷ punctuate after_value ls
unfolding punctuate
number_token fresh s ls h = refl
number_token after_value s ls h = absurd (false≢true h)
number_token after_comma s ls h = refl
number_token after_key s ls h = absurd (false≢true h)

word_token : (p : Place) (v : Token) (word : List ℕ) (ls : List Lexeme) → may_begin p ≡ true
    → IsWord v word → punctuate p (token v ∷ ls) ≡ v ∷ punctuate after_value ls
unfolding punctuate
word_token fresh (boolean b) word ls h is = refl
word_token fresh null word ls h is = refl
word_token after_comma (boolean b) word ls h is = refl
word_token after_comma null word ls h is = refl
word_token after_value v word ls h is = absurd (false≢true h)
word_token after_key v word ls h is = absurd (false≢true h)
word_token p begin_object word ls h is = absurd is
word_token p end_object word ls h is = absurd is
word_token p begin_array word ls h is = absurd is
word_token p end_array word ls h is = absurd is
word_token p (key s) word ls h is = absurd is
word_token p (string s) word ls h is = absurd is
word_token p (number s) word ls h is = absurd is
word_token p bad word ls h is = absurd is

pub begin_object_token : (p : Place) (ls : List Lexeme) → may_begin p ≡ true
    → punctuate p (token begin_object ∷ ls) ≡ begin_object ∷ punctuate fresh ls
unfolding punctuate
begin_object_token fresh ls h = refl
begin_object_token after_value ls h = absurd (false≢true h)
begin_object_token after_comma ls h = refl
begin_object_token after_key ls h = absurd (false≢true h)

pub begin_array_token : (p : Place) (ls : List Lexeme) → may_begin p ≡ true
    → punctuate p (token begin_array ∷ ls) ≡ begin_array ∷ punctuate fresh ls
unfolding punctuate
begin_array_token fresh ls h = refl
begin_array_token after_value ls h = absurd (false≢true h)
begin_array_token after_comma ls h = refl
begin_array_token after_key ls h = absurd (false≢true h)

pub end_object_token : (p : Place) (ls : List Lexeme) → may_close p ≡ true
    → punctuate p (token end_object ∷ ls) ≡ end_object ∷ punctuate after_value ls
unfolding punctuate
end_object_token fresh ls h = refl
end_object_token after_value ls h = refl
end_object_token after_comma ls h = absurd (false≢true h)
end_object_token after_key ls h = absurd (false≢true h)

pub end_array_token : (p : Place) (ls : List Lexeme) → may_close p ≡ true
    → punctuate p (token end_array ∷ ls) ≡ end_array ∷ punctuate after_value ls
unfolding punctuate
end_array_token fresh ls h = refl
end_array_token after_value ls h = refl
end_array_token after_comma ls h = absurd (false≢true h)
end_array_token after_key ls h = absurd (false≢true h)

pub comma_passed : (ls : List Lexeme)
    → punctuate after_value (comma ∷ ls) ≡ punctuate after_comma ls
unfolding punctuate
comma_passed ls = refl

pub over : (p : Place) → may_close p ≡ true → punctuate p [] ≡ []
unfolding punctuate
over fresh h = refl
over after_value h = refl
over after_comma h = absurd (false≢true h)
over after_key h = absurd (false≢true h)

-- ---- tokens of bytes

module _ (p : Place) (old new : List ℕ) where
  pub begin_object_at : may_begin p ≡ true → old ≡ 123 ∷ new
      → punctuate p (lex between old) ≡ begin_object ∷ punctuate fresh (lex between new)
  begin_object_at h is =
      ap (λ t. punctuate p (lex between t)) is ∙ ap (punctuate p) (lex-open_brace new)
      ∙ begin_object_token p (lex between new) h

  pub begin_array_at : may_begin p ≡ true → old ≡ 91 ∷ new
      → punctuate p (lex between old) ≡ begin_array ∷ punctuate fresh (lex between new)
  begin_array_at h is =
      ap (λ t. punctuate p (lex between t)) is ∙ ap (punctuate p) (lex-open_bracket new)
      ∙ begin_array_token p (lex between new) h

  pub end_object_at : may_close p ≡ true → old ≡ 125 ∷ new
      → punctuate p (lex between old) ≡ end_object ∷ punctuate after_value (lex between new)
  end_object_at h is =
      ap (λ t. punctuate p (lex between t)) is ∙ ap (punctuate p) (lex-close_brace new)
      ∙ end_object_token p (lex between new) h

  pub end_array_at : may_close p ≡ true → old ≡ 93 ∷ new
      → punctuate p (lex between old) ≡ end_array ∷ punctuate after_value (lex between new)
  end_array_at h is =
      ap (λ t. punctuate p (lex between t)) is ∙ ap (punctuate p) (lex-close_bracket new)
      ∙ end_array_token p (lex between new) h

  pub key_at : (s : List ℕ) → may_begin p ≡ true
      → lex between old ≡ token (string s) ∷ colon ∷ lex between new
      → punctuate p (lex between old) ≡ key s ∷ punctuate fresh (lex between new)
  key_at s h is = ap (punctuate p) is ∙ key_token p s (lex between new) h

  pub text_at : (s : List ℕ) → may_begin p ≡ true → EndsValue new
      → lex between old ≡ token (string s) ∷ lex between new
      → punctuate p (lex between old) ≡ string s ∷ punctuate after_value (lex between new)
  text_at s h ends is =
      ap (punctuate p) is ∙ text_token p s (lex between new) h (value_no_colon new ends)

  pub number_at : (s : List ℕ) → may_begin p ≡ true
      → lex between old ≡ token (number s) ∷ lex between new
      → punctuate p (lex between old) ≡ number s ∷ punctuate after_value (lex between new)
  number_at s h is = ap (punctuate p) is ∙ number_token p s (lex between new) h

  pub word_at : (v : Token) (word : List ℕ) → may_begin p ≡ true → IsWord v word
      → EndsValue new → old ≡ word ++ new
      → punctuate p (lex between old) ≡ v ∷ punctuate after_value (lex between new)
  word_at v word h is ends begins =
      ap (punctuate p) (ap (lex between) begins ∙ lex-word v word new is ends)
      ∙ word_token p v word (lex between new) h is

  pub comma_at : p ≡ after_value → (mid : List ℕ) → old ≡ 44 ∷ mid
      → lex between new ≡ lex between mid
      → punctuate after_comma (lex between new) ≡ punctuate p (lex between old)
  comma_at at mid is spaces =
      ap (punctuate after_comma) spaces ∙ sym (comma_passed (lex between mid))
      ∙ ap (punctuate after_value) (sym (lex-comma mid))
      ∙ ap (λ t. punctuate after_value (lex between t)) (sym is)
      ∙ ap (λ q. punctuate q (lex between old)) (sym at)

pub end_at : (p : Place) (old : List ℕ) → may_close p ≡ true → old ≡ []
    → punctuate p (lex between old) ≡ []
end_at p old h is = ap (λ t. punctuate p (lex between t)) is ∙ ap (punctuate p) lex-end ∙ over p h
