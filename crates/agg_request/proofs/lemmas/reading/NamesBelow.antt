-- The names of the members below an aggregation, and how many members there are.
use Rattle.std.proofs.Common.{◌≡◌, ◌≢◌, ℕ, List, Bool, true, false, refl, codes}
use Rattle.std.proofs.Common.{sym, ap, ◌∙◌, arith, not}
use Rattle.std.specs.Prelude.{◌==◌, ◌&&◌, ◌||◌, length, nat_lt}
use Rattle.std.specs.Str.{bytes_eq}
use Rattle.std.specs.declared.cmp.Ordering.{Ordering}
use Rattle.std.specs.declared.cmp.Ordering.TheVariants.{Less, Equal, Greater}
use Rattle.std.proofs.lemmas.Bool.Decides.{nat_tests}
use Rattle.std.proofs.lemmas.Cmp.{nat_list_cmp_total, tied_itself}
use Rattle.std.proofs.lemmas.Map.Lookups.{exact_bytes}
use Rattle.std.proofs.lemmas.Slice.Eq.{bytes_eq-Decides}
use Rattle.agg_values.specs.Names.{name_cmp}
use Rattle.serde_json.specs.Data.{Data, Members, no_members, member}
use Rattle.serde_json.specs.Events.{members_len}
use Rattle.agg_request.specs.json_values.Json.{has_member, is_among, names_in}
use Rattle.agg_request.specs.reading.Kinds.{are_free, may_hold, metric_kinds}

-- an object has a member of a name where the first has it, or another
has-next : (name other : List ℕ) (d : Data) (ms : Members)
    → has_member name (member other d ms) ≡ (bytes_eq other name || has_member name ms)
has-next name other d ms = by_order (name_cmp name other) refl
  where
    apart : (o : Ordering) → name_cmp name other ≡ o → (o ≢ Equal) → bytes_eq other name ≡ false
    apart o is not_same = by_test (bytes_eq other name) refl
      where
        by_test : (b : Bool) → bytes_eq other name ≡ b → b ≡ false
        by_test false e = refl
        by_test true e =
            let same : other ≡ name = (bytes_eq-Decides other name).0 e in
            absurd (not_same (sym is ∙ ap (name_cmp name) same
            ∙ tied_itself nat_list_cmp_total name))

    by_order : (o : Ordering) → name_cmp name other ≡ o
        → has_member name (member other d ms) ≡ (bytes_eq other name || has_member name ms)
    by_order Less is = rw (is, apart Less is (λ e. cc)) refl
    by_order Equal is =
        rw (is, (bytes_eq-Decides other name).1 (sym (exact_bytes name other is))) refl
    by_order Greater is = rw (is, apart Greater is (λ e. cc)) refl

-- names are free where no member has the name of a member of a bucket
free-names : (ms : Members)
    → are_free (names_in ms)
    ≡ (not (has_member (codes "key") ms) && not (has_member (codes "doc_count") ms))
free-names no_members = refl
free-names (member name d ms) =
    by_first (bytes_eq name (codes "key")) (bytes_eq name (codes "doc_count")) _
    (has_member (codes "key") ms) (has_member (codes "doc_count") ms) (free-names ms)
    ∙ sym (λ i. not (has-next (codes "key") name d ms i)
    && not (has-next (codes "doc_count") name d ms i))
  where
    by_first : (key count later has_key has_count : Bool)
        → not later ≡ (not has_key && not has_count)
        → not ((key || count) || later) ≡ (not (key || has_key) && not (count || has_count))
    by_first true count later has_key has_count e = refl
    by_first false true later true has_count e = refl
    by_first false true later false has_count e = refl
    by_first false false later has_key has_count e = e

-- there are as many names as members
names-length : (ms : Members) → length (names_in ms) ≡ members_len ms
names-length no_members = refl
names-length (member name d ms) = rw (names-length ms) refl

-- what members an aggregation may have is told by their number and by two names
pub holds-members : (kind : List ℕ) (ms : Members)
    → may_hold kind (names_in ms)
    ≡ ((not (is_among kind metric_kinds) || not (nat_lt 0 (members_len ms)))
    && (not (has_member (codes "key") ms) && not (has_member (codes "doc_count") ms)))
holds-members kind ms =
    λ i. (not (is_among kind metric_kinds) || none i) && free-names ms i
  where
    by_number : (n : ℕ) → (n == 0) ≡ not (nat_lt 0 n)
    by_number n = grind (arith, nat_tests)

    none : (length (names_in ms) == 0) ≡ not (nat_lt 0 (members_len ms))
    none = ap (λ n. n == 0) (names-length ms) ∙ by_number (members_len ms)
