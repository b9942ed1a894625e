-- The keys of a document, and documents of equal keys.
use Rattle.std.proofs.Common.{◌≡◌, ◌≢◌, ◌+◌, ◌<◌, ℕ, zero, suc, List, [], ◌∷◌, ◌++◌}
use Rattle.std.proofs.Common.{Some, None, map, true, false}
use Rattle.std.proofs.Common.{refl, ap, ◌∙◌, arith}
use Rattle.std.specs.Prelude.{Bool, Option, ◌==◌, ◌&&◌, filter}
use Rattle.std.specs.Option.{option_map_or}
use Rattle.std.specs.List.{All, range_with_len}
use Rattle.std.proofs.lemmas.Bool.{eq-eqb, ne_eqb}
use Rattle.std.proofs.lemmas.List.{map-append}
use Rattle.std.proofs.lemmas.List.Elements.{filter-append, All-tail, All-head}
use Rattle.agg_segment.specs.storage.Document.{Fields, by_class}
use Rattle.agg_segment.specs.storage.Cells.{Placed, is_at, keys_at, number_of, named_keys}
use Rattle.agg_segment.specs.Segment.{gathered_fields}
use Rattle.agg_segment.specs.Segment.{no_fields}
use Rattle.agg_segment.proofs.lemmas.storage.Classes.{by_class_nil}

pub keys_split : (xs ys : List Placed) (field doc : ℕ)
    → keys_at (xs ++ ys) field doc ≡ keys_at xs field doc ++ keys_at ys field doc
keys_split xs ys field doc = ap (map (λ (p : Placed). p.key)) (filter-append (is_at field doc) xs
    ys) ∙ map-append (λ (p : Placed). p.key) (filter (is_at field doc) xs) (filter (is_at field doc)
    ys)

and_no : (b : Bool) → b && false ≡ false
and_no true = refl
and_no false = refl

pub keys_none : (cells : List Placed) (field doc : ℕ) → All (λ p. p.doc ≢ doc) cells
    → keys_at cells field doc ≡ []
keys_none [] field doc none = refl
keys_none (p ∷ cells) field doc none =
    rw (
      ne_eqb p.doc doc (All-head (λ (q : Placed). q.doc ≢ doc) p cells none),
      and_no (p.field ==
          field),
    ) (keys_none cells field doc (All-tail (λ (q : Placed). q.doc ≢ doc) p cells none))

pub keys_no_field : (cells : List Placed) (field doc : ℕ) → All (λ p. p.field ≢ field) cells
    → keys_at cells field doc ≡ []
keys_no_field [] field doc none = refl
keys_no_field (p ∷ cells) field doc none =
    rw (ne_eqb p.field field (All-head (λ (q : Placed). q.field ≢ field) p cells none))
    (keys_no_field cells field doc (All-tail (λ (q : Placed). q.field ≢ field) p cells none))

pub keys_one : (p : Placed) (field doc : ℕ) → p.field ≡ field → p.doc ≡ doc
    → keys_at (p ∷ []) field doc ≡ p.key ∷ []
keys_one p field doc f d = rw (eq-eqb p.field field f, eq-eqb p.doc doc d) refl

-- ---- documents of equal keys

named_same : (names : List (List ℕ × ℕ)) (cells others : List Placed) (doc : ℕ)
    → ((field : ℕ) → keys_at cells field doc ≡ keys_at others field doc)
    → named_keys names cells doc ≡ named_keys names others doc
named_same names cells others doc same = λ i n. by_number (number_of names n) i
  where
    by_number : (o : Option ℕ) → option_map_or (λ field. keys_at cells field doc) o []
        ≡ option_map_or (λ field. keys_at others field doc) o []
    by_number None = refl
    by_number (Some f) = same f

pub fields_same : (names : List (List ℕ × ℕ)) (cells others : List Placed) (count new doc : ℕ)
    → ((field : ℕ) → keys_at cells field doc ≡ keys_at others field doc)
    → gathered_fields (record { count = count; names = names; cells = cells }) doc
    ≡ gathered_fields (record { count = new; names = names; cells = others }) doc
fields_same names cells others count new doc same = ap (λ (f : Fields). let g : Fields = λ n.
    by_class (f n) in g) (named_same names cells others doc same)

pub map_same : {X : Type 0} (f g : ℕ → X) (a n : ℕ) → ((d : ℕ) → d < a + n → f d ≡ g d)
    → map f (range_with_len a n) ≡ map g (range_with_len a n)
map_same f g a zero same = refl
map_same f g a (suc n) same = ap (λ x. x ∷ map f (range_with_len (a + 1) n)) (same a (omega arith))
    ∙ ap (λ r. g a ∷ r) (map_same f g (a + 1) n (λ d l. same d (omega (arith, l))))

pub no_keys_open : (names : List (List ℕ × ℕ)) (cells : List Placed) (count doc : ℕ)
    → ((field : ℕ) → keys_at cells field doc ≡ [])
    → gathered_fields (record { count = count; names = names; cells = cells }) doc ≡ no_fields
no_keys_open names cells count doc none = λ i n. (ap by_class (by_number (number_of names n))
    ∙ by_class_nil) i
  where
    by_number : (o : Option ℕ) → option_map_or (λ field. keys_at cells field doc) o [] ≡ []
    by_number None = refl
    by_number (Some f) = none f

pub nothing_gathered : (names : List (List ℕ × ℕ)) (count doc : ℕ)
    → gathered_fields (record { count = count; names = names; cells = [] }) doc ≡ no_fields
nothing_gathered names count doc = no_keys_open names [] count doc (λ field. refl)
