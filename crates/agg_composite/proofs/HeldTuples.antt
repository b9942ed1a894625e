-- What buckets hold: tuples of request data.
use Rattle.std.proofs.Common.{ℕ, zero, suc, List, [], ◌∷◌, All, get_or, sym, subst}
use Rattle.std.specs.Map.{keys_of}
use Rattle.std.proofs.lemmas.List.Elements.{All-from_recursion}
use Rattle.agg_composite.specs.accessor.Decoded.{IsEncoded}
use Rattle.agg_composite.specs.accessor.Encoding.{EncodedTuple}
use Rattle.agg_composite.specs.declared.accessor.request_data.CompositeAggReqData.{
  CompositeAggReqData,
}
use Rattle.agg_composite.specs.buckets.Node.{IsNew, Node, Prepares}
use Rattle.agg_composite.specs.buckets.Page.{Page}
use Rattle.agg_composite.specs.HeldTuples.{AreTuplesOf}

module _ (req : CompositeAggReqData) where
  -- one parent without buckets has no other tuple
  none-held : (parent : ℕ)
      → All (IsEncoded req) (keys_of (get_or {A = Page EncodedTuple} ([] ∷ []) parent []))
  none-held zero = All-from_recursion (IsEncoded req) [] tt
  none-held (suc n) = All-from_recursion (IsEncoded req) [] tt

  -- a new node has none
  pub new-holds : (node : Node EncodedTuple) → IsNew node → AreTuplesOf req node
  new-holds node new parent =
      subst (λ (ps : List (Page EncodedTuple)). All (IsEncoded req) (keys_of (get_or ps parent [])))
      (sym new.parents) (none-held parent)

  -- prepared parents have none
  pub prepared-holds : (old new : Node EncodedTuple) → Prepares old new → AreTuplesOf req old
      → AreTuplesOf req new
  prepared-holds old new prepares held parent =
      subst (λ (p : Page EncodedTuple). All (IsEncoded req) (keys_of p))
      (sym (prepares.buckets parent)) (held parent)
