-- A map that is made of another, name by name, in the order of the names.
use Rattle.std.proofs.Common.{◌≡◌, ℕ, List, [], ◌∷◌, ◌++◌, map, sym, ap, ◌∙◌, subst, refl}
use Rattle.std.proofs.Common.{append_assoc, append-nil}
use Rattle.std.specs.List.Sorted.{IsStrictlySortedBy}
use Rattle.std.specs.Map.{keys_of}
use Rattle.agg_values.specs.Names.{Named, name_cmp, put}
use Rattle.agg_values.proofs.NameOrder.{Ascends, put-last}

module _ {A T : Type 0} (f : List ℕ × A → T) where
  -- each name with what is made of its entry
  abbrev pub by_name : Named A → Named T
  by_name entries = map (λ e. (e.0, f e)) entries

  keys-by_name : (entries : Named A) → keys_of (by_name entries) ≡ keys_of entries
  keys-by_name [] = refl
  keys-by_name (e ∷ entries) = ap (λ names. e.0 ∷ names) (keys-by_name entries)

  -- the next name goes to the end
  pub by_name-more : (all left : Named A) (made more : Named T) (name : List ℕ) (a : A)
      (later : Named A) (value : T) → Ascends all → made ++ by_name left ≡ by_name all
      → left ≡ (name, a) ∷ later → more ≡ put name value made → value ≡ f (name, a)
      → more ++ by_name later ≡ by_name all
  by_name-more all left made more name a later value ascends so_far e put_in is =
      let whole : made ++ (name, value) ∷ by_name later ≡ by_name all =
      rw is (ap (λ l. made ++ by_name l) (sym e) ∙ so_far) in
      let ordered : Ascends (made ++ (name, value) ∷ by_name later) =
      subst (IsStrictlySortedBy name_cmp) (sym (ap keys_of whole ∙ keys-by_name all)) ascends in
      rw (put_in, put-last made name value (by_name later) ordered)
      (append_assoc made ((name, value) ∷ []) (by_name later) ∙ whole)

  -- nothing is left
  pub by_name-all : (all left : Named A) (made : Named T) → made ++ by_name left ≡ by_name all
      → left ≡ [] → made ≡ by_name all
  by_name-all all left made so_far e =
      sym (append-nil made) ∙ ap (λ l. made ++ by_name l) (sym e) ∙ so_far
