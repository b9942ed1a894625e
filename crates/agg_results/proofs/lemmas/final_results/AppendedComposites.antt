-- The text of a composite that is appended part by part.
use Rattle.std.proofs.Common.{◌≡◌, ℕ, List, [], ◌∷◌, ◌++◌, append_assoc}
use Rattle.std.proofs.lemmas.List.{append-nil}
use Rattle.std.specs.Prelude.{codes}
use Rattle.json.specs.Print.{escape_byte}
use Rattle.agg_values.specs.Names.{Named}
use Rattle.agg_values.specs.declared.after_key.AfterKey.{AfterKey}
use Rattle.agg_results.specs.final_results.Appending.{after_key_member}
use Rattle.agg_results.specs.final_results.ResultsText.{braced, bracketed, composite_members}
use Rattle.agg_results.specs.final_results.ResultsText.{member_text, members_text, object_text}
use Rattle.agg_results.specs.final_results.ResultsText.{quoted_after_key}

-- the buckets alone
last-written : (before listed : List ℕ)
    → (((before ++ 123 ∷ []) ++ codes "\"buckets\":") ++ listed) ++ 125 ∷ []
    ≡ before ++ braced (member_text (codes "buckets") listed ∷ [])
unfolding escape_byte
last-written before listed = simp append_assoc

-- the after key, and after it the buckets
full-written : (before keys listed : List ℕ)
    → ((((before ++ 123 ∷ []) ++ (codes "\"after_key\":" ++ (keys ++ 44 ∷ [])))
    ++ codes "\"buckets\":") ++ listed) ++ 125 ∷ []
    ≡ before ++ braced (member_text (codes "after_key") keys ∷ member_text (codes "buckets") listed
    ∷ [])
unfolding escape_byte
full-written before keys listed =
    rw (append_assoc keys (44 ∷ member_text (codes "buckets") listed) (125 ∷ []))
    (simp append_assoc)

-- the page of a composite
pub composite-appended : (before opened keyed named listed closed : List ℕ)
    (buckets : List (List ℕ)) (after : Named AfterKey)
    → opened ≡ before ++ 123 ∷ []
    → keyed ≡ opened ++ after_key_member after
    → named ≡ keyed ++ codes "\"buckets\":"
    → listed ≡ named ++ bracketed buckets
    → closed ≡ listed ++ 125 ∷ []
    → closed ≡ before ++ members_text (composite_members buckets after)
composite-appended before opened keyed named listed closed buckets [] o k n l c =
    rw (c, l, n, k, o) (rw (append-nil (before ++ 123 ∷ [])) (last-written before
    (bracketed buckets)))
composite-appended before opened keyed named listed closed buckets (first ∷ others) o k n l c =
    rw (c, l, n, k, o) (full-written before (object_text quoted_after_key (first ∷ others))
    (bracketed buckets))
