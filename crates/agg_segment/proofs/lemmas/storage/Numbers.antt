-- The numbers of names.
use Rattle.std.proofs.Common.{◌≡◌, ℕ, List, [], ◌∷◌, Some, map, cond, refl, sym, ap}
use Rattle.std.proofs.Common.{◌∙◌}
use Rattle.std.specs.Prelude.{String}
use Rattle.std.specs.BTreeMap.{BTreeMap, is_at, get_by_text, UpdatesBy}
use Rattle.std.specs.String.{string_bytes, string_cmp}
use Rattle.std.specs.Str.{bytes_eq}
use Rattle.std.specs.Map.{lookup}
use Rattle.std.specs.Ordering.{nat_cmp}
use Rattle.std.specs.Cmp.Lexicographic.{slice_cmp}
use Rattle.std.proofs.lemmas.Map.Text.{btree_map_updates_text}
use Rattle.agg_values.specs.Names.{name_cmp}
use Rattle.agg_segment.specs.storage.Cells.{number_of}
use Rattle.agg_segment.specs.storage.Names.{numbered_names}

-- a number is found by the bytes of the name
pub number_is : {Y : Type 0} (names : BTreeMap (String Y) ℕ) (name : List ℕ)
    → number_of (numbered_names names) name ≡ get_by_text names name
number_is {Y} names name = in_entries names.entries
  where
    in_entries : (es : List (String Y × ℕ))
        → lookup (is_at (name_cmp name)) (map (λ e. (string_bytes e.0, e.1)) es)
        ≡ lookup (is_at (λ k. slice_cmp nat_cmp name (string_bytes k))) es
    in_entries [] = refl
    in_entries (e ∷ es) = ap (λ r. cond (is_at (name_cmp name) (string_bytes e.0)) (Some e.1) r)
        (in_entries es)

pub number_set : {Y : Type 0} (old new : BTreeMap (String Y) ℕ) (name : List ℕ) (number : ℕ)
    → UpdatesBy string_cmp (λ k. slice_cmp nat_cmp name (string_bytes k)) old new (Some number)
    → (other : List ℕ) → number_of (numbered_names new) other ≡ cond (bytes_eq name other)
    (Some number) (number_of (numbered_names old) other)
number_set old new name number updates other =
    number_is new other ∙ btree_map_updates_text name old new (Some number) updates other
    ∙ ap (λ o. cond (bytes_eq name other) (Some number) o) (sym (number_is old other))
