-- The seed that arguments give, of which there is one.
use Rattle.std.proofs.Common.{◌≡◌, ◌∙◌, ℕ, List, [], get_or, sym, ap}
use Rattle.std.specs.Str.Parse.{digits_value}
use Rattle.agg_pages.specs.Commands.{IsSeed, make_arguments, walk_arguments}

pub IsSeed-unique : (arguments : List (List ℕ)) (digits others : List ℕ) (seed other : ℕ)
    → arguments ≡ make_arguments digits → IsSeed digits seed
    → arguments ≡ make_arguments others → IsSeed others other → seed ≡ other
IsSeed-unique arguments digits others seed other are is so also =
    let same : digits ≡ others = ap (λ words. get_or words 1 []) (sym are ∙ so) in
    is.value ∙ ap (digits_value 10) same ∙ sym also.value

-- no arguments ask both for a walk and for an input to be made
pub no_walk_made : (digits : List ℕ) → walk_arguments ≡ make_arguments digits → ⊥
no_walk_made digits same = cc
