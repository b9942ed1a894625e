use Rattle.std.proofs.Common.{◌≡◌, ◌++◌, ◌∷◌, [], List, ℕ, arith, append_assoc}
use Rattle.std.specs.Prelude.{codes}
use Rattle.json.specs.Print.{escape_byte}
use Rattle.agg_results.specs.final_results.ResultsText.{braced, member_text}
use Rattle.agg_results.proofs.lemmas.final_results.AppendedItems.{byte-appended}
use Rattle.agg_results.proofs.final_results.result_text.write_plain_bucket.Goals as goal

-- the number of occurrences, then the key, then the brace
bucket-written : (before opened counted named keyed after count key : List ℕ)
    → opened ≡ before ++ codes "{\"doc_count\":"
    → counted ≡ opened ++ count
    → named ≡ counted ++ codes ",\"key\":"
    → keyed ≡ named ++ key
    → after ≡ keyed ++ 125 ∷ []
    → after ≡ before ++ braced (member_text (codes "doc_count") count ∷ member_text (codes "key")
    key ∷ [])
unfolding escape_byte
bucket-written before opened counted named keyed after count key o c n k a =
    rw (a, k, n, c, o, append_assoc count (44 ∷ member_text (codes "key") key) (125 ∷ []))
    (simp append_assoc)

pub returns : goal.returns
returns c =
    bucket-written _ _ _ _ _ _ _ _ c.in_ok-push_str.ensures.bytes c.in_ok-write_to.ensures
    c.in_ok-push_str-2.ensures.bytes c.in_ok-write_to-2.ensures
    (byte-appended _ _ _ 125 c.in_ok-push.ensures.bytes (c.in_ok-push.ensures.ascii (omega arith)))
