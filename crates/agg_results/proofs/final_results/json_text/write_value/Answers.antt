use Rattle.std.proofs.Common.{◌≡◌, ◌++◌, ◌∷◌, [], List, ℕ, arith, append_assoc}
use Rattle.std.specs.Prelude.{codes}
use Rattle.json.specs.Print.{escape_byte}
use Rattle.agg_results.specs.final_results.ResultsText.{braced, member_text}
use Rattle.agg_results.proofs.lemmas.final_results.AppendedItems.{byte-appended}
use Rattle.agg_results.proofs.final_results.json_text.write_value.Goals as goal

-- the name, then the value, then the brace
value-written : (before opened valued after value : List ℕ)
    → opened ≡ before ++ codes "{\"value\":"
    → valued ≡ opened ++ value
    → after ≡ valued ++ 125 ∷ []
    → after ≡ before ++ braced (member_text (codes "value") value ∷ [])
unfolding escape_byte
value-written before opened valued after value o v a = rw (a, v, o) (simp append_assoc)

pub returns : goal.returns
returns c =
    value-written _ _ _ _ _ c.in_ok-push_str.ensures.bytes c.in_ok-write_number_or_null.ensures
    (byte-appended _ _ _ 125 c.in_ok-push.ensures.bytes (c.in_ok-push.ensures.ascii (omega arith)))
