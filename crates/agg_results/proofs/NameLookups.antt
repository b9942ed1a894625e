-- What looking names up tells.
use Rattle.std.proofs.Common.{◌≡◌, ℕ, inl, inr, List, [], ◌∷◌, Some, refl}
use Rattle.std.specs.List.{All, Contains}
use Rattle.std.specs.List.Sorted.{IsStrictlySortedBy}
use Rattle.std.specs.Map.{keys_of}
use Rattle.std.specs.Prelude.{IsSome}
use Rattle.std.proofs.lemmas.Cmp.{eq_by_cmp_equiv, nat_list_cmp_total}
use Rattle.std.proofs.lemmas.Map.Keys.{IsDistinct-from_sorted}
use Rattle.std.proofs.lemmas.Map.Lookups.{exact_bytes}
use Rattle.std.proofs.lemmas.Map.Views.{All-keys_from_lookup, Contains-keys_from_lookup}
use Rattle.std.proofs.lemmas.Map.Views.{Contains-from_lookup, IsSome-lookup_from_Contains}
use Rattle.std.proofs.lemmas.Map.Views.{lookup-from_Contains, tells_apart}
use Rattle.agg_values.specs.Names.{Named, name_cmp, value_of}
use Rattle.agg_request_tree.proofs.Lists.{Contains-from_Has, Has, Has-from_Contains}

module _ {T : Type 0} where
  entry-named : (es : Named T) (name : List ℕ) → Has name (keys_of es)
      → (e : List ℕ × T) × Has e es × (e.0 ≡ name)
  entry-named [] name has = absurd has
  entry-named (e ∷ es) name (inl is) = (e, inl refl, is)
  entry-named (e ∷ es) name (inr has) =
      let rest = entry-named es name has in
      (rest.0, inr rest.1, rest.2)

  -- a name among the names has an entry
  pub entry_of_name : (es : Named T) (name : List ℕ) → Contains (keys_of es) name
      → (e : List ℕ × T) × Contains es e × (e.0 ≡ name)
  entry_of_name es name c =
      let e = entry-named es name (Has-from_Contains (keys_of es) name c) in
      (e.0, Contains-from_Has es e.0 e.1, e.2)

  -- a name that is found is among the names
  pub name-found : (es : Named T) (name : List ℕ) → IsSome (value_of name es)
      → Contains (keys_of es) name
  name-found es name found = Contains-keys_from_lookup (tells_apart exact_bytes) name es found

  -- what holds of each name that is found holds of each name
  pub names-found : (P : List ℕ → Type 0) (es : Named T)
      → ((name : List ℕ) → IsSome (value_of name es) → P name) → All P (keys_of es)
  names-found P es each = All-keys_from_lookup (eq_by_cmp_equiv nat_list_cmp_total) P es each

  -- the value of an entry is found, where the names ascend
  pub value-found : (es : Named T) (e : List ℕ × T) → IsStrictlySortedBy name_cmp (keys_of es)
      → Contains es e → value_of e.0 es ≡ Some e.1
  value-found es e up c =
      lookup-from_Contains (eq_by_cmp_equiv nat_list_cmp_total) e.0 e.1 es
      (IsDistinct-from_sorted name_cmp (keys_of es) up) c

  -- a name among the names is found
  pub found-name : (es : Named T) (name : List ℕ) → Contains (keys_of es) name
      → IsSome (value_of name es)
  found-name es name c =
      IsSome-lookup_from_Contains (eq_by_cmp_equiv nat_list_cmp_total) name es c

  -- what is found is an entry
  pub entry-found : (es : Named T) (name : List ℕ) (value : T) → value_of name es ≡ Some value
      → Contains es (name, value)
  entry-found es name value found =
      Contains-from_lookup (tells_apart exact_bytes) name value es found
