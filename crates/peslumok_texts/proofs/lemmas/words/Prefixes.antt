-- What stands after a prefix.
use Rattle.std.proofs.Common.{◌≡◌, ℕ, List, Option, Some, None, refl, true, false, option_map, Bor}
use Rattle.std.specs.Prelude.{MatchOption}
use Rattle.std.specs.Str.Pattern.{FindsTextPrefix, StripsPrefix}
use Rattle.std.proofs.lemmas.Str.Pattern.{starts_text}
use Rattle.peslumok_texts.specs.words.Condition.{after_prefix}

-- `strip_prefix` gives what stands after a prefix
pub after_prefix-strips : (n s : List ℕ) (r : Option (Bor (List ℕ)))
    → MatchOption r (FindsTextPrefix n s None) (λ x. StripsPrefix (FindsTextPrefix n) s x.now)
    → option_map (λ x. x.now) r ≡ after_prefix n s
unfolding after_prefix
after_prefix-strips n s None h = rw (← starts_text false n s h) refl
after_prefix-strips n s (Some x) h =
    rw (← starts_text true n s (h.0, h.1, rw h.1.0 h.1.2), h.2, h.1.0) refl
