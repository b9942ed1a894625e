-- What may be asked of records.
use Rattle.std.specs.Prelude.{◌≡◌, [], ℕ, List, Option, None, Some, option_map}
use Rattle.agg_values.specs.Names.{Named}
use Rattle.agg_values.specs.declared.after_key.AfterKey.{AfterKey}
use Rattle.agg_segment.specs.declared.query.QueryTree.{QueryTree}
use Rattle.peslumok_front.specs.grouping.Query.{IsQueryOf}
use Rattle.peslumok_front.specs.declared.grouping.grouping.Grouping.{Grouping}
use Rattle.peslumok_front.specs.after_text.After.{IsAfterText}
use Rattle.peslumok_front.specs.front.Columns.{HaveOwnHeaders, columns_asked}
use Rattle.peslumok_front.specs.declared.front.asked.Asked.{Asked}

-- the text of the key after which the first page begins, if there is one
abbrev pub after_asked : Asked → Option (List ℕ)
after_asked asked = option_map (λ text. text.now) asked.pages.after

-- the key after which the first page begins: that of the text, and none where there is no text
abbrev pub BeginsAfter : Grouping → Option (List ℕ) → Named AfterKey → Type 0
BeginsAfter grouping None after = after ≡ []
BeginsAfter grouping (Some text) after = IsAfterText grouping text after

-- there are the query that is asked, the key after which the first page begins, and columns of
-- names of their own
pub record MayBeAsked (asked : Asked) : Type 0 where
  pub query : QueryTree
  pub is_query : IsQueryOf asked.grouping query
  pub after : Named AfterKey
  pub begins : BeginsAfter asked.grouping (after_asked asked) after
  pub apart : HaveOwnHeaders (columns_asked asked.grouping)
