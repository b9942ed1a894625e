-- What a tree is asked: documents under parents, as pairs.
use Rattle.std.specs.Prelude.{ℕ, List, [], ◌∷◌, Bool, true, false}
use Rattle.agg_cache.specs.Waiting.{under}
use Rattle.agg_engine_tree.specs.declared.collector_tree.call.Call as call
use call.{Call}
use call.TheVariants.{Collect, Flush}

-- the documents that it is to take, each with its parent
abbrev pub pairs_in : Call → List (ℕ × ℕ)
pairs_in (Collect parent docs) = under parent docs.now
pairs_in Flush = []

-- the parents under which there may be documents
abbrev pub parents_in : Call → List ℕ
parents_in (Collect parent docs) = parent ∷ []
parents_in Flush = []

-- whether it is to hand down all that waits
abbrev pub is_flush : Call → Bool
is_flush (Collect parent docs) = false
is_flush Flush = true
