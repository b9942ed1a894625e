-- Cutting texts at the first of a word.
use Rattle.std.proofs.Common.{◌≡◌, ◌≢◌, ◌<◌, ◌≤◌, ◌∙◌, ◌++◌, ◌==◌, ℕ, List, [], ◌∷◌, true, false}
use Rattle.std.proofs.Common.{Some, None, Option, Bool, Bor, suc, zero, arith, length, take, drop}
use Rattle.std.proofs.Common.{refl, ap, codes, drop_at}
use Rattle.std.specs.Prelude.{MatchOption, nat_eq}
use Rattle.std.specs.List.{starts_with}
use Rattle.std.specs.Str.Pattern.{FindsText, LacksTextAt, SplitsAroundMatch}
use Rattle.std.proofs.lemmas.Bool.Decides.{Decides-eqb, nat_tests}
use Rattle.std.proofs.lemmas.Slice.Eq.{starts_is}
use Rattle.std.proofs.lemmas.Str.Pattern.{starts_text}
use Rattle.peslumok_texts.specs.words.Cut.{Lacks, cut_at}
use Rattle.peslumok_texts.specs.words.By.{min_text, min_word, words_text}
use Rattle.peslumok_texts.specs.declared.words.by.Missing.{Missing}
use Rattle.peslumok_texts.specs.declared.words.by.Missing.TheVariants.{NoGroup, ByOrder, First}
use Rattle.peslumok_texts.specs.declared.words.by.Missing.TheVariants.{Last}

-- a word that stands nowhere in a text cuts none
at_none : (word text : List ℕ) → ((i : ℕ) → i ≤ length text → LacksTextAt word text i)
    → cut_at word text ≡ (text, None)
at_none word [] lacks = refl
at_none word (b ∷ bs) lacks =
    let no : false ≡ starts_with nat_eq (b ∷ bs) word =
    starts_text false word (b ∷ bs) (lacks 0 (omega arith)) in
    let more = at_none word bs (λ i within. lacks (suc i) (omega (arith, within))) in
    rw (← no, more) refl

-- a text is cut at the first place of a word
at_some : (word text rest : List ℕ) (i : ℕ) → word ≢ []
    → ((k : ℕ) → k < i → LacksTextAt word text k) → drop i text ≡ word ++ rest
    → cut_at word text ≡ (take i text, Some rest)
at_some [] text rest i some lacks at = absurd (some refl)
at_some (w ∷ ws) [] rest zero some lacks at = absurd (cc at)
at_some (w ∷ ws) [] rest (suc i) some lacks at = absurd (cc at)
at_some (w ∷ ws) (b ∷ bs) rest zero some lacks at =
    let yes : starts_with nat_eq (b ∷ bs) (w ∷ ws) ≡ true =
    (starts_is Decides-eqb (b ∷ bs) (w ∷ ws) _ refl).1 rest at in
    let left : drop (length (w ∷ ws)) (b ∷ bs) ≡ rest =
    ap (drop (length (w ∷ ws))) at ∙ drop_at (w ∷ ws) rest (length (w ∷ ws)) refl in
    rw (yes, left) refl
at_some (w ∷ ws) (b ∷ bs) rest (suc i) some lacks at =
    let no : false ≡ starts_with nat_eq (b ∷ bs) (w ∷ ws) =
    starts_text false (w ∷ ws) (b ∷ bs) (lacks 0 (omega arith)) in
    let more = at_some (w ∷ ws) bs rest i some
    (λ k below. lacks (suc k) (omega (arith, below))) at in
    rw (← no, more) refl

-- `split_once` cuts a text at a word
pub cut_at-splits : (word text : List ℕ) (r : Option (Bor (List ℕ) × Bor (List ℕ))) → word ≢ []
    → MatchOption r (FindsText word text None)
    (λ x. SplitsAroundMatch (FindsText word) text x.0.now x.1.now)
    → MatchOption r (cut_at word text ≡ (text, None))
    (λ x. cut_at word text ≡ (x.0.now, Some x.1.now))
cut_at-splits word text None some h = at_none word text h
cut_at-splits word text (Some x) some h =
    rw (h.3, h.4) (at_some word text (drop h.1 text) h.0 some h.2.0 h.2.1.split)

-- a word that begins with a comma is cut off after what has none
past_lacking : (word front rest : List ℕ) → Lacks 44 front
    → cut_at (44 ∷ word) (front ++ rest)
    ≡ (front ++ (cut_at (44 ∷ word) rest).0, (cut_at (44 ∷ word) rest).1)
past_lacking word [] rest lacks = refl
past_lacking word (b ∷ bs) rest lacks =
    let other : (44 == b) ≡ false = grind (arith, nat_tests, lacks.0) in
    let more = past_lacking word bs rest lacks.1 in
    rw (other, more) refl

-- a least value is cut off after the words before it
after_words : (d : Bool) (m : Missing) (min : Option (List ℕ))
    → cut_at min_word (words_text d m ++ min_text min) ≡ (words_text d m, min)
after_words false NoGroup None = refl
after_words false NoGroup (Some value) = refl
after_words true NoGroup None = refl
after_words true NoGroup (Some value) = refl
after_words false ByOrder None = refl
after_words false ByOrder (Some value) = refl
after_words false First None = refl
after_words false First (Some value) = refl
after_words false Last None = refl
after_words false Last (Some value) = refl
after_words true ByOrder None = refl
after_words true ByOrder (Some value) = refl
after_words true First None = refl
after_words true First (Some value) = refl
after_words true Last None = refl
after_words true Last (Some value) = refl

-- a least value is cut off after the parts before it
pub min_cut : (head : List ℕ) (d : Bool) (m : Missing) (min : Option (List ℕ)) → Lacks 44 head
    → cut_at min_word (head ++ (words_text d m ++ min_text min)) ≡ (head ++ words_text d m, min)
min_cut head d m min lacks =
    let words = after_words d m min in
    past_lacking (codes "min=") head (words_text d m ++ min_text min) lacks ∙ rw words refl
