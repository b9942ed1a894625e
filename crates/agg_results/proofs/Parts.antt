-- Lists with some elements left out, and the documents of a tuple.
use Rattle.std.proofs.Common.{◌≡◌, ◌+◌, ◌≤◌, inl, inr, List, [], ◌∷◌, ◌++◌, length}
use Rattle.std.proofs.Common.{length-append, replicate, cond, refl, sym, ◌∙◌, subst, arith}
use Rattle.std.proofs.Common.{Equal}
use Rattle.std.specs.List.{count_by, flat_map}
use Rattle.std.proofs.lemmas.List.{length-replicate}
use Rattle.std.proofs.lemmas.List.Concat.{flat_map-append}
use Rattle.std.proofs.lemmas.List.Sums.{sum_by-append}
use Rattle.agg_values.proofs.TupleOrder.{tuple_order-total}
use Rattle.agg_values.specs.KeyOrder.{tuple_order}
use Rattle.agg_values.specs.Tuple.{KeyTuple}
use Rattle.agg_segment.specs.storage.Document.{Fields}
use Rattle.agg_request_tree.specs.Occurrences.{occurrences, occurrences_in, same_tuple}
use Rattle.agg_request_tree.specs.Page.{count_in, documents_with}
use Rattle.agg_request_tree.specs.Source.{Sources, rules_of}
use Rattle.agg_results.specs.StandsFor.{IsPart}
use Rattle.agg_results.proofs.JoinedGroups.{count-tied}

-- ---- parts

module _ {X : Type 0} where
  pub part-longer : (y : X) (xs ys : List X) → IsPart xs ys → IsPart xs (y ∷ ys)
  part-longer y [] ys part = tt
  part-longer y (x ∷ xs) ys part = inr part

  pub part-itself : (xs : List X) → IsPart xs xs
  part-itself [] = tt
  part-itself (x ∷ xs) = inl (refl, part-itself xs)

  pub part-left : (xs ys zs : List X) → IsPart xs ys → IsPart xs (ys ++ zs)
  part-left [] ys zs part = tt
  part-left (x ∷ xs) [] zs part = absurd part
  part-left (x ∷ xs) (y ∷ ys) zs (inl p) = inl (p.0, part-left xs ys zs p.1)
  part-left (x ∷ xs) (y ∷ ys) zs (inr p) = inr (part-left (x ∷ xs) ys zs p)

  pub part-right : (xs ys zs : List X) → IsPart xs zs → IsPart xs (ys ++ zs)
  part-right xs [] zs part = part
  part-right xs (y ∷ ys) zs part = part-longer y xs (ys ++ zs) (part-right xs ys zs part)

  pub part-append : (xs ys us vs : List X) → IsPart xs ys → IsPart us vs
      → IsPart (xs ++ us) (ys ++ vs)
  part-append [] ys us vs p q = part-right us ys vs q
  part-append (x ∷ xs) [] us vs p q = absurd p
  part-append (x ∷ xs) (y ∷ ys) us vs (inl p) q = inl (p.0, part-append xs ys us vs p.1 q)
  part-append (x ∷ xs) (y ∷ ys) us vs (inr p) q = inr (part-append (x ∷ xs) ys us vs p q)

  pub part-length : (xs ys : List X) → IsPart xs ys → length xs ≤ length ys
  part-length [] ys part = omega arith
  part-length (x ∷ xs) [] part = absurd part
  part-length (x ∷ xs) (y ∷ ys) (inl p) = let h = part-length xs ys p.1 in omega arith
  part-length (x ∷ xs) (y ∷ ys) (inr p) = let h = part-length (x ∷ xs) ys p in omega arith

  -- a part that leaves nothing out
  pub part-whole : (xs ys : List X) → IsPart xs ys → length xs ≡ length ys → xs ≡ ys
  part-whole [] [] part same = refl
  part-whole [] (y ∷ ys) part same = absurd (omega arith)
  part-whole (x ∷ xs) [] part same = absurd part
  part-whole (x ∷ xs) (y ∷ ys) (inl p) same =
      let rest = part-whole xs ys p.1 (omega arith) in λ i. p.0 i ∷ rest i
  part-whole (x ∷ xs) (y ∷ ys) (inr p) same =
      let h = part-length (x ∷ xs) ys p in absurd (omega arith)

-- what is listed of a part is a part of what is listed
pub part-flat_map : {X Y : Type 0} (f : X → List Y) (xs ys : List X) → IsPart xs ys
    → IsPart (flat_map f xs) (flat_map f ys)
part-flat_map f [] ys part = tt
part-flat_map f (x ∷ xs) [] part = absurd part
part-flat_map f (x ∷ xs) (y ∷ ys) (inl p) =
    subst (λ z. IsPart (flat_map f (x ∷ xs)) (f z ++ flat_map f ys)) p.0
    (part-append (f x) (f x) (flat_map f xs) (flat_map f ys) (part-itself (f x))
    (part-flat_map f xs ys p.1))
part-flat_map f (x ∷ xs) (y ∷ ys) (inr p) =
    part-right (flat_map f (x ∷ xs)) (f y) (flat_map f ys) (part-flat_map f (x ∷ xs) ys p)

-- ---- the documents of a tuple

module _ (sources : Sources) where
  pub with-append : (documents others : List Fields) (tuple : KeyTuple)
      → documents_with sources (documents ++ others) tuple
      ≡ documents_with sources documents tuple ++ documents_with sources others tuple
  with-append documents others tuple =
      flat_map-append (λ (d : Fields). replicate
      (count_by (same_tuple (rules_of sources) tuple) (occurrences sources d)) d) documents others

  pub with-tied : (documents : List Fields) (t u : KeyTuple)
      → tuple_order (rules_of sources) t u ≡ Equal
      → documents_with sources documents t ≡ documents_with sources documents u
  with-tied [] t u tied = refl
  with-tied (d ∷ documents) t u tied =
      λ i. replicate (count-tied (tuple_order (rules_of sources))
      (tuple_order-total (rules_of sources)) t u (occurrences sources d) tied i) d
      ++ with-tied documents t u tied i

  -- they are as many as the tuple occurs
  pub length-with : (documents : List Fields) (tuple : KeyTuple)
      → length (documents_with sources documents tuple) ≡ count_in sources documents tuple
  length-with [] tuple = refl
  length-with (d ∷ documents) tuple =
      length-append (replicate
      (count_by (same_tuple (rules_of sources) tuple) (occurrences sources d)) d)
      (documents_with sources documents tuple)
      ∙ (λ i. length-replicate
      (count_by (same_tuple (rules_of sources) tuple) (occurrences sources d)) d i
      + length-with documents tuple i)
      ∙ sym (sum_by-append (λ x. cond (same_tuple (rules_of sources) tuple x) 1 0)
      (occurrences sources d) (occurrences_in sources documents))
