-- Names that are put into a map one by one.
use Rattle.std.proofs.Common.{◌≡◌, ℕ, List, [], ◌∷◌, ◌++◌, ◌⊎◌, inl, inr, refl, sym, subst, ap, ◌∙◌}
use Rattle.std.proofs.Common.{◌≤◌, arith}
use Rattle.std.proofs.Common.{append_assoc, append-nil}
use Rattle.std.specs.Prelude.{⊤}
use Rattle.std.specs.Ordering.{match_ordering}
use Rattle.std.specs.List.{Contains}
use Rattle.std.specs.Map.{keys_of}
use Rattle.std.specs.declared.cmp.Ordering.{Ordering}
use Rattle.std.specs.declared.cmp.Ordering.TheVariants.{Less, Equal, Greater}
use Rattle.std.proofs.lemmas.Map.Lookups.{exact_bytes}
use Rattle.std.proofs.lemmas.List.Elements.{Contains-append_cases, Contains-append_left}
use Rattle.std.proofs.lemmas.List.Elements.{Contains-append_right}
use Rattle.agg_values.specs.Names.{Named, name_cmp, put}
use Rattle.agg_request_tree.specs.FieldNames.{HasJust, HasMore}
use Rattle.agg_request_tree.specs.Request.{Request, agg_of, below_of, fields_of, listed_in}
use Rattle.agg_request_tree.specs.Request.{own_fields}
use Rattle.agg_request_tree.specs.declared.aggregation.Aggregation.{Aggregation}
use Rattle.agg_request_tree.proofs.RequestTrees.{levels, listed-out}
use Rattle.agg_request_tree.proofs.Lists.{Contains-from_Has, Has, Has-from_Contains}

-- where a name is put, by how it compares with the first
abbrev put_by : Ordering → List ℕ → List ℕ × ⊤ → Named ⊤ → Named ⊤ → Named ⊤
put_by o name e names later =
    match_ordering o ((name, tt) ∷ e ∷ names) ((e.0, tt) ∷ names) (e ∷ later)

-- a name that is put is a name, and so are those before
put-keeps : (names : Named ⊤) (name x : List ℕ) → (name ≡ x) ⊎ Has x (keys_of names)
    → Has x (keys_of (put name tt names))
put-keeps [] name x (inl is) = inl is
put-keeps [] name x (inr has) = absurd has
put-keeps (e ∷ names) name x has =
    by_order (name_cmp name e.0) refl (put name tt names) (λ told. put-keeps names name x told) has
  where
    by_order : (o : Ordering) → name_cmp name e.0 ≡ o → (later : Named ⊤)
        → ((name ≡ x) ⊎ Has x (keys_of names) → Has x (keys_of later))
        → (name ≡ x) ⊎ Has x (keys_of (e ∷ names)) → Has x (keys_of (put_by o name e names later))
    by_order Less is later more (inl same) = inl same
    by_order Less is later more (inr has) = inr has
    by_order Equal is later more (inl same) = inl (sym (exact_bytes name e.0 is) ∙ same)
    by_order Equal is later more (inr has) = has
    by_order Greater is later more (inl same) = inr (more (inl same))
    by_order Greater is later more (inr (inl same)) = inl same
    by_order Greater is later more (inr (inr has)) = inr (more (inr has))

-- no other name is one
put-adds : (names : Named ⊤) (name x : List ℕ) → Has x (keys_of (put name tt names))
    → (name ≡ x) ⊎ Has x (keys_of names)
put-adds [] name x (inl is) = inl is
put-adds [] name x (inr has) = absurd has
put-adds (e ∷ names) name x has =
    by_order (name_cmp name e.0) (put name tt names) (λ told. put-adds names name x told) has
  where
    one_further : (name ≡ x) ⊎ Has x (keys_of names) → (name ≡ x) ⊎ Has x (keys_of (e ∷ names))
    one_further (inl same) = inl same
    one_further (inr has) = inr (inr has)

    by_order : (o : Ordering) (later : Named ⊤)
        → (Has x (keys_of later) → (name ≡ x) ⊎ Has x (keys_of names))
        → Has x (keys_of (put_by o name e names later))
        → (name ≡ x) ⊎ Has x (keys_of (e ∷ names))
    by_order Less later more (inl same) = inl same
    by_order Less later more (inr has) = inr has
    by_order Equal later more has = inr has
    by_order Greater later more (inl same) = inr (inl same)
    by_order Greater later more (inr has) = one_further (more has)

-- ---- fields so far

-- none more
pub HasMore-none : (names : Named ⊤) → HasMore names names []
HasMore-none names x = (λ c. inl c, kept)
  where
    kept : Contains (keys_of names) x ⊎ Contains [] x → Contains (keys_of names) x
    kept (inl c) = c
    kept (inr c) = absurd (Has-from_Contains [] x c)

-- one more
pub HasMore-put : (names : Named ⊤) (name : List ℕ) → HasMore names (put name tt names) (name ∷ [])
HasMore-put names name x = (
  λ c. turned (put-adds names name x (Has-from_Contains (keys_of (put name tt names)) x c)),
  λ c. Contains-from_Has (keys_of (put name tt names)) x (put-keeps names name x (told c)),
)
  where
    turned : (name ≡ x) ⊎ Has x (keys_of names)
        → Contains (keys_of names) x ⊎ Contains (name ∷ []) x
    turned (inl is) = inr (Contains-from_Has (name ∷ []) x (inl is))
    turned (inr has) = inl (Contains-from_Has (keys_of names) x has)

    alone : Has x (name ∷ []) → (name ≡ x) ⊎ Has x (keys_of names)
    alone (inl is) = inl is
    alone (inr has) = absurd has

    told : Contains (keys_of names) x ⊎ Contains (name ∷ []) x
        → (name ≡ x) ⊎ Has x (keys_of names)
    told (inl c) = inr (Has-from_Contains (keys_of names) x c)
    told (inr c) = alone (Has-from_Contains (name ∷ []) x c)

-- some, and then some others
pub HasMore-then : (before mid now : Named ⊤) (fields others : List (List ℕ))
    → HasMore before mid fields → HasMore mid now others → HasMore before now (fields ++ others)
HasMore-then before mid now fields others first then x =
    (λ c. by_last ((then x).0 c), kept)
  where
    by_first : Contains (keys_of before) x ⊎ Contains fields x
        → Contains (keys_of before) x ⊎ Contains (fields ++ others) x
    by_first (inl c) = inl c
    by_first (inr c) = inr (Contains-append_left fields others x c)

    by_last : Contains (keys_of mid) x ⊎ Contains others x
        → Contains (keys_of before) x ⊎ Contains (fields ++ others) x
    by_last (inl c) = by_first ((first x).0 c)
    by_last (inr c) = inr (Contains-append_right fields others x c)

    by_side : Contains fields x ⊎ Contains others x → Contains (keys_of now) x
    by_side (inl c) = (then x).1 (inl ((first x).1 (inr c)))
    by_side (inr c) = (then x).1 (inr c)

    kept : Contains (keys_of before) x ⊎ Contains (fields ++ others) x → Contains (keys_of now) x
    kept (inl c) = (then x).1 (inl ((first x).1 (inl c)))
    kept (inr c) = by_side (Contains-append_cases fields others x c)

-- names that had none before have just these fields
pub has-just : (names : Named ⊤) (fields : List (List ℕ)) → HasMore [] names fields
    → HasJust fields names
has-just names fields more x = (λ c. those ((more x).0 c), λ c. (more x).1 (inr c))
  where
    those : Contains {X = List ℕ} [] x ⊎ Contains fields x → Contains fields x
    those (inl c) = absurd (Has-from_Contains [] x c)
    those (inr c) = c

-- ---- of a list

-- fields but for those that are left
pub record AreTakenUpTo (all left : List (List ℕ)) (before now : Named ⊤) : Type 0 where
  pub done : List (List ℕ)
  pub more : HasMore before now done
  pub rest : done ++ left ≡ all

-- none yet
pub AreTakenUpTo-none : (all left : List (List ℕ)) (names : Named ⊤) → left ≡ all
    → AreTakenUpTo all left names names
AreTakenUpTo-none all left names e = record { done = []; more = HasMore-none names; rest = e }

-- one more
pub AreTakenUpTo-more : (all left : List (List ℕ)) (before mid now : Named ⊤) (field : List ℕ)
    (later : List (List ℕ)) → AreTakenUpTo all left before mid → left ≡ field ∷ later
    → now ≡ put field tt mid → AreTakenUpTo all later before now
AreTakenUpTo-more all left before mid now field later h e is = record {
  done = h.done ++ field ∷ [];
  more = HasMore-then before mid now h.done (field ∷ []) h.more
      (subst (λ n. HasMore mid n (field ∷ [])) (sym is) (HasMore-put mid field));
  rest = append_assoc h.done (field ∷ []) later ∙ ap (λ xs. h.done ++ xs) (sym e) ∙ h.rest;
}

-- all of them
pub AreTakenUpTo-all : (all left : List (List ℕ)) (before now : Named ⊤)
    → AreTakenUpTo all left before now → left ≡ [] → HasMore before now all
AreTakenUpTo-all all left before now h e =
    subst (HasMore before now)
    (sym (append-nil h.done) ∙ ap (λ xs. h.done ++ xs) (sym e) ∙ h.rest) h.more

-- ---- of a request

-- the fields of a request but for those of the aggregations that are left
pub record AreAddedUpTo {B : Type 0} (all left : Request B) (before now : Named ⊤)
    : Type 0 where
  pub done : List (List ℕ)
  pub more : HasMore before now done
  pub rest : done ++ fields_of left ≡ fields_of all
  pub lower : levels left ≤ levels all

-- none yet
pub AreAddedUpTo-none : {B : Type 0} (all left : Request B) (names : Named ⊤) → left ≡ all
    → AreAddedUpTo all left names names
AreAddedUpTo-none {B = B} all left names e = record {
  done = [];
  more = HasMore-none names;
  rest = ap (λ (r : Request B). fields_of r) e;
  lower = subst (λ (r : Request B). levels left ≤ levels r) e (omega arith);
}

-- those of one more
pub AreAddedUpTo-more : {B : Type 0} (all left : Request B) (before mid now : Named ⊤)
    (name : List ℕ) (a : Aggregation B) (later : Request B) → AreAddedUpTo all left before mid
    → left ≡ (name, a) ∷ later → HasMore mid now (listed_in own_fields a)
    → AreAddedUpTo all later before now
AreAddedUpTo-more {B = B} all left before mid now name a later h e added =
    let here : AreAddedUpTo all ((name, a) ∷ later) before mid =
    subst (λ (r : Request B). AreAddedUpTo all r before mid) e h in
    record {
      done = here.done ++ listed_in own_fields a;
      more = HasMore-then before mid now here.done (listed_in own_fields a) here.more added;
      rest = append_assoc here.done (listed_in own_fields a) (fields_of later) ∙ here.rest;
      lower = omega (arith, here.lower);
    }

-- all of them
pub AreAddedUpTo-all : {B : Type 0} (all left : Request B) (before now : Named ⊤)
    → AreAddedUpTo all left before now → left ≡ [] → HasMore before now (fields_of all)
AreAddedUpTo-all {B = B} all left before now h e =
    subst (HasMore before now)
    (sym (append-nil h.done) ∙ ap (λ (r : Request B). h.done ++ fields_of r) (sym e) ∙ h.rest)
    h.more

-- an aggregation's own fields, and then those below it
pub adds-aggregation : {B : Type 0} (a : Aggregation B) (before mid now : Named ⊤)
    → HasMore before mid (own_fields (agg_of a)) → HasMore mid now (fields_of (below_of a))
    → HasMore before now (listed_in own_fields a)
adds-aggregation a before mid now own below =
    subst (HasMore before now) (sym (listed-out own_fields a))
    (HasMore-then before mid now (own_fields (agg_of a)) (fields_of (below_of a)) own below)
