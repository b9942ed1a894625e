-- Members that are put over others by their names, one after another.
use Rattle.std.proofs.Common.{◌≡◌, ℕ, List, [], ◌∷◌, ◌++◌, Ordering, Less, Equal, Greater, refl, ap}
use Rattle.std.proofs.Common.{◌∙◌, sym, subst}
use Rattle.std.specs.List.{AllByRecursion}
use Rattle.std.specs.List.Sorted.{IsStrictlySortedBy}
use Rattle.std.specs.Map.{keys_of}
use Rattle.std.specs.Ordering.{match_ordering, ordering_reverse}
use Rattle.std.proofs.lemmas.Cmp.{nat_list_cmp_total}
use Rattle.std.proofs.lemmas.Map.Lookups.{exact_bytes}
use Rattle.agg_values.specs.Names.{name_cmp, put}
use Rattle.agg_results.specs.final_results.Appending.{above, below}
use Rattle.agg_results.specs.final_results.ResultsText.{Texts, put_all}

-- the name comes before those of the members
abbrev IsBefore : List ℕ → Texts → Type 0
IsBefore name members = AllByRecursion (λ other. name_cmp name other ≡ Less) (keys_of members)

-- likewise a name that comes before it
before-weaker : (first name : List ℕ) (members : Texts) → name_cmp first name ≡ Less
    → IsBefore name members → IsBefore first members
before-weaker first name [] l h = tt
before-weaker first name (m ∷ members) l h =
    (nat_list_cmp_total.trans first name m.0 l h.0, before-weaker first name members l h.1)

-- a name that comes before all is put first
put-first : (name value : List ℕ) (members : Texts) → IsBefore name members
    → put name value members ≡ (name, value) ∷ members
put-first name value [] h = refl
put-first name value (m ∷ members) h = rw h.0 refl

before-put-by : (o : Ordering) (first name value : List ℕ) (m : List ℕ × List ℕ) (members : Texts)
    → name_cmp first name ≡ Less → IsBefore first (m ∷ members)
    → IsBefore first (put name value members)
    → IsBefore first (match_ordering o ((name, value) ∷ m ∷ members) ((m.0, value) ∷ members)
    (m ∷ put name value members))
before-put-by Less first name value m members l h more = (l, h)
before-put-by Equal first name value m members l h more = h
before-put-by Greater first name value m members l h more = (h.0, more)

before-put : (first name value : List ℕ) (members : Texts) → name_cmp first name ≡ Less
    → IsBefore first members → IsBefore first (put name value members)
before-put first name value [] l h = (l, tt)
before-put first name value (m ∷ members) l h =
    before-put-by (name_cmp name m.0) first name value m members l h
    (before-put first name value members l h.1)

before-put_all : (first : List ℕ) (over members : Texts) → IsBefore first over
    → IsBefore first members → IsBefore first (put_all over members)
before-put_all first [] members o h = h
before-put_all first (m ∷ over) members o h =
    before-put first m.0 m.1 (put_all over members) o.0 (before-put_all first over members o.1 h)

is-greater : (first name : List ℕ) → name_cmp first name ≡ Less → name_cmp name first ≡ Greater
is-greater first name l = nat_list_cmp_total.antisymm name first ∙ ap ordering_reverse l

-- a member that comes before all that is put stays first
put_all-first : (m : List ℕ × List ℕ) (over members : Texts) → IsBefore m.0 over
    → put_all over (m ∷ members) ≡ m ∷ put_all over members
put_all-first m [] members h = refl
put_all-first m (o ∷ over) members h =
    ap (put o.0 o.1) (put_all-first m over members h.1) ∙ rw (is-greater m.0 o.0 h.0) refl

-- none of the members comes before a name that comes before all
below-none : (name : List ℕ) (members : Texts) → IsBefore name members → below name members ≡ []
below-none name [] h = refl
below-none name (m ∷ members) h = rw h.0 (below-none name members h.1)

above-every : (name : List ℕ) (members : Texts) → IsBefore name members
    → above name members ≡ members
above-every name [] h = refl
above-every name (m ∷ members) h = rw h.0 (ap (λ ms. m ∷ ms) (above-every name members h.1))

-- what is put over ascending members, from the first name on
abbrev Splits : List ℕ → List ℕ → Texts → Texts → Type 0
Splits name value over members =
    put name value (put_all over members)
    ≡ below name members ++ (name, value) ∷ put_all over (above name members)

splits-before : (name value : List ℕ) (over members : Texts) → IsBefore name over
    → IsBefore name members → Splits name value over members
splits-before name value over members o h =
    rw (below-none name members h, above-every name members h)
    (put-first name value (put_all over members) (before-put_all name over members o h))

splits-by : (order : Ordering) (name value : List ℕ) (m : List ℕ × List ℕ) (over members : Texts)
    → name_cmp name m.0 ≡ order → IsBefore name over → IsBefore m.0 members
    → Splits name value over members → Splits name value over (m ∷ members)
splits-by Less name value m over members is o h more =
    splits-before name value over (m ∷ members) o (is, before-weaker name m.0 members is h)
splits-by Equal name value m over members is o h more =
    let same : name ≡ m.0 = exact_bytes name m.0 is in
    let others : IsBefore name members = subst (λ n. IsBefore n members) (sym same) h in
    let first : IsBefore m.0 over = subst (λ n. IsBefore n over) same o in
    rw (put_all-first m over members first, is, below-none name members others)
    (ap (λ ms. (m.0, value) ∷ put_all over ms) (sym (above-every name members others))
    ∙ ap (λ n. (n, value) ∷ put_all over (above name members)) (sym same))
splits-by Greater name value m over members is o h more =
    let less : name_cmp m.0 name ≡ Less =
    nat_list_cmp_total.antisymm m.0 name ∙ ap ordering_reverse is in
    rw (put_all-first m over members (before-weaker m.0 name over less o), is)
    (ap (λ ms. m ∷ ms) more)

-- a name that comes before all that is put after it comes between the members below and above it
pub put_all-splits : (name value : List ℕ) (over members : Texts) → IsBefore name over
    → IsStrictlySortedBy name_cmp (keys_of members)
    → put_all ((name, value) ∷ over) members
    ≡ below name members ++ (name, value) ∷ put_all over (above name members)
unfolding IsStrictlySortedBy
put_all-splits name value over [] o h = splits-before name value over [] o tt
put_all-splits name value over (m ∷ members) o h =
    splits-by (name_cmp name m.0) name value m over members refl o h.0
    (put_all-splits name value over members o h.1)

-- ascending members that are put over none are themselves
pub put_all-none : (members : Texts) → IsStrictlySortedBy name_cmp (keys_of members)
    → put_all members [] ≡ members
unfolding IsStrictlySortedBy
put_all-none [] h = refl
put_all-none (m ∷ members) h =
    ap (put m.0 m.1) (put_all-none members h.1) ∙ put-first m.0 m.1 members h.0
