-- Documents that match under a parent.
use Rattle.std.proofs.Common.{◌≡◌, ◌∙◌, ◌==◌, refl, sym, ap, ℕ, List, ◌++◌, Bool, true, false}
use Rattle.std.specs.Prelude.{filter}
use Rattle.std.proofs.lemmas.List.Elements.{filter-append}
use Rattle.agg_cache.specs.Waiting.{docs_of, is_id, under}
use Rattle.agg_cache.proofs.UnderIds.{docs_of-append, docs_of-under, if_so}
use Rattle.agg_filter.specs.Filter.{matching_under}

if_so-filter : (is_match : ℕ → Bool) (b : Bool) (docs : List ℕ)
    → filter is_match (if_so b docs) ≡ if_so b (filter is_match docs)
if_so-filter is_match true docs = refl
if_so-filter is_match false docs = refl

-- those that match under a parent are the parent's of those that match
pub matching-under : (is_match : ℕ → Bool) (id bucket : ℕ) (docs : List ℕ)
    → matching_under is_match id (under bucket docs)
    ≡ docs_of (is_id id) (under bucket (filter is_match docs))
matching-under is_match id bucket docs =
    ap (filter is_match) (docs_of-under id bucket docs)
    ∙ if_so-filter is_match (bucket == id) docs
    ∙ sym (docs_of-under id bucket (filter is_match docs))

pub matching-append : (is_match : ℕ → Bool) (parent : ℕ) (xs ys : List (ℕ × ℕ))
    → matching_under is_match parent (xs ++ ys)
    ≡ matching_under is_match parent xs ++ matching_under is_match parent ys
matching-append is_match parent xs ys =
    ap (filter is_match) (docs_of-append parent xs ys)
    ∙ filter-append is_match (docs_of (is_id parent) xs) (docs_of (is_id parent) ys)
