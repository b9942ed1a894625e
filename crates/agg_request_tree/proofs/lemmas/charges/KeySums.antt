-- The keys of elements, each once, and sums over the elements of each key.
use Rattle.std.proofs.Common.{◌≡◌, ◌≤◌, ◌*◌, ℕ, Bool, true, cond, List, map, length, replicate}
use Rattle.std.proofs.Common.{refl, sym, ap, ◌∙◌, arith, [], ◌∷◌}
use Rattle.std.specs.Cmp.{IsEquivalence}
use Rattle.std.specs.List.{All, AllByRecursion, Contains, count_by, filter, flat_map, list_all}
use Rattle.std.specs.List.{list_any, sum_by}
use Rattle.std.proofs.lemmas.List.Elements.{recursion_from_All}
use Rattle.std.proofs.Math.Nat.{mul-le-mul_right}
use Rattle.std.proofs.lemmas.List.Folds.{sum_by-replicate}
use Rattle.agg_request_tree.specs.charges.Distinct.{distinct}
use Rattle.agg_request_tree.specs.charges.Within.{Within}
use Rattle.agg_request_tree.proofs.lemmas.charges.Distinct.{any-counted, any-distinct}
use Rattle.agg_request_tree.proofs.lemmas.charges.Distinct.{count_by-some, distinct-apart, Alike}
use Rattle.agg_request_tree.proofs.lemmas.charges.Distinct.{Apart, any-contained, any-held}
use Rattle.agg_request_tree.proofs.lemmas.charges.Distinct.{list_all-each, passes-any, sum_by-apart}
use Rattle.agg_request_tree.proofs.lemmas.charges.Distinct.{sum_by-exchanged, sum_by-places}
use Rattle.agg_request_tree.proofs.lemmas.charges.Sums.{sum_by-at_most, sum_by-constant}
use Rattle.agg_request_tree.proofs.lemmas.charges.Sums.{sum_by-copies, sum_by-flat_map, sum_by-same}
use Rattle.agg_request_tree.proofs.lemmas.charges.Sums.{sum_by-swap, sum_by-times}
use Rattle.agg_request_tree.proofs.lemmas.charges.WithinLists.{Within-filter, Within-flat_map}
use Rattle.agg_request_tree.proofs.lemmas.charges.WithinLists.{Within-length, Within-passing}

-- the elements have keys, of which a test says which are the same, and some keys pass
module _ {X K : Type 0} (same : K → K → Bool) (laws : IsEquivalence same) (keys : X → List K)
    (passes : K → Bool) where
  -- the elements with a key, each once for each time that it has it
  abbrev pub with_key : List X → K → List X
  with_key xs k = flat_map (λ x. replicate (count_by (same k) (keys x)) x) xs

  -- each once for each of its keys
  abbrev pub with_each : List X → List X
  with_each xs = flat_map (λ x. map (λ k. x) (keys x)) xs

  -- the keys that pass
  abbrev pub passing : List X → List K
  passing xs = filter passes (flat_map keys xs)

  -- each once
  abbrev pub keys_of : List X → List K
  keys_of xs = distinct same (passing xs)

  -- ---- elements with a key

  sum_by-with_key : (f : X → ℕ) (xs : List X) (k : K)
      → sum_by f (with_key xs k) ≡ sum_by (λ x. count_by (same k) (keys x) * f x) xs
  sum_by-with_key f xs k =
      sum_by-flat_map f (λ x. replicate (count_by (same k) (keys x)) x) xs
      ∙ sum_by-same (λ x. sum_by f (replicate (count_by (same k) (keys x)) x))
      (λ x. count_by (same k) (keys x) * f x) xs
      (λ x. sum_by-replicate f (count_by (same k) (keys x)) x)

  -- the elements of each key together have at most the sum of each once for each of its keys
  pub sum_by-each_key : (f : X → ℕ) (xs : List X)
      → sum_by (λ k. sum_by f (with_key xs k)) (keys_of xs) ≤ sum_by f (with_each xs)
  sum_by-each_key f xs =
      let ks = keys_of xs in
      omega (
        arith,
        sum_by-same (λ k. sum_by f (with_key xs k))
            (λ k. sum_by (λ x. count_by (same k) (keys x) * f x) xs) ks (sum_by-with_key f xs),
        sum_by-swap (λ k x. count_by (same k) (keys x) * f x) ks xs,
        sum_by-same (λ x. sum_by (λ k. count_by (same k) (keys x) * f x) ks)
            (λ x. sum_by (λ k. count_by (same k) (keys x)) ks * f x) xs
            (λ x. sum_by-times (λ k. count_by (same k) (keys x)) (f x) ks),
        sum_by-at_most (λ x. sum_by (λ k. count_by (same k) (keys x)) ks * f x)
            (λ x. length (keys x) * f x) xs
            (λ x.
            mul-le-mul_right (f x)
            (sum_by-places same laws ks (keys x) (distinct-apart same laws (passing xs)))),
        sum_by-same (λ x. sum_by f (map (λ k. x) (keys x))) (λ x. length (keys x) * f x) xs
            (λ x. sum_by-copies f x (keys x)),
        sum_by-flat_map f (λ x. map (λ k. x) (keys x)) xs,
      )

  -- keys that are the same have the same elements
  pub with_key-alike : {Y : Type 0} (g : List X → Y) (xs : List X) (k l : K) → same k l ≡ true
      → g (with_key xs k) ≡ g (with_key xs l)
  with_key-alike g xs k l is =
      ap (λ test. g (flat_map (λ x. replicate (count_by test (keys x)) x) xs))
      (λ i z. laws.congr k l z is i)

  -- keys that are apart, and are those that pass, have the sums of the keys that do
  pub sum_by-other_keys : (f : K → ℕ) → Alike same laws f → (xs : List X) (ks : List K)
      → Apart same laws ks → All (Contains (passing xs)) ks → All (Contains ks) (passing xs)
      → sum_by f (keys_of xs) ≡ sum_by f ks
  sum_by-other_keys f alike xs ks apart occurring complete =
      sum_by-exchanged same laws f alike (keys_of xs) ks
      (distinct-apart same laws (passing xs)) apart
      (λ k has.
      any-held same laws k (passing xs) ks (each (passing xs) ks complete)
      (sym (any-distinct same laws k (passing xs)) ∙ has))
      (λ k has.
      any-distinct same laws k (passing xs)
      ∙ any-held same laws k ks (passing xs) (each ks (passing xs) occurring) has)
    where
      held : (ls ms : List K) → AllByRecursion (Contains ms) ls
          → AllByRecursion (λ l. list_any (same l) ms ≡ true) ls
      held [] ms all = tt
      held (l ∷ ls) ms all = (any-contained same laws l ms all.0, held ls ms all.1)

      each : (ls ms : List K) → All (Contains ms) ls
          → AllByRecursion (λ l. list_any (same l) ms ≡ true) ls
      each ls ms all = held ls ms (recursion_from_All (Contains ms) ls all)

  -- ---- how many keys

  -- a list has at most as many as it has places
  pub length-keys_of : (xs : List X) → length (keys_of xs) ≤ length (with_each xs)
  length-keys_of xs = omega (
    arith,
    sum_by-constant 1 (keys_of xs),
    sum_by-apart same laws (λ k. 1) (λ k l is. refl) (keys_of xs) (passing xs)
        (distinct-apart same laws (passing xs))
        (λ k has. sym (any-distinct same laws k (passing xs)) ∙ has),
    sum_by-constant 1 (passing xs),
    Within-length (passing xs) (flat_map keys xs) (Within-passing passes (flat_map keys xs)),
    sum_by-constant 1 (flat_map keys xs),
    sum_by-flat_map (λ k. 1) keys xs,
    sum_by-same (λ x. sum_by (λ k. 1) (keys x)) (λ x. sum_by (λ y. 1) (map (λ k. x) (keys x))) xs
        (λ x. sum_by-constant 1 (keys x) ∙ times_one (length (keys x))
        ∙ sym (sum_by-copies (λ y. 1) x (keys x))),
    sum_by-flat_map (λ y. 1) (λ x. map (λ k. x) (keys x)) xs,
    sum_by-constant 1 (with_each xs),
  )
    where
      times_one : (n : ℕ) → 1 * n ≡ n * 1
      times_one n = omega arith

  -- ---- lists within others

  module _ (xs ys : List X) (inside : Within xs ys) where
    pub Within-with_key : (k : K) → Within (with_key xs k) (with_key ys k)
    Within-with_key k =
        Within-flat_map xs ys inside (λ x. replicate (count_by (same k) (keys x)) x)

    pub Within-with_each : Within (with_each xs) (with_each ys)
    Within-with_each = Within-flat_map xs ys inside (λ x. map (λ k. x) (keys x))

    Within-passing_keys : Within (passing xs) (passing ys)
    Within-passing_keys =
        Within-filter (flat_map keys xs) (flat_map keys ys) (Within-flat_map xs ys inside keys)
        passes

    -- each key of the one is a key of the other
    any-within : (k : K) → list_any (same k) (keys_of xs) ≡ true
        → list_any (same k) (keys_of ys) ≡ true
    any-within k has =
        let places = count_by-some same laws k (passing xs)
        (sym (any-distinct same laws k (passing xs)) ∙ has) in
        any-distinct same laws k (passing ys)
        ∙ any-counted same laws k (passing ys)
        (omega (arith, places, Within-passing_keys.lighter (λ l. cond (same k l) 1 0)))

    -- a list has at most as many keys as one that it is within
    pub length-keys_within : length (keys_of xs) ≤ length (keys_of ys)
    length-keys_within = omega (
      arith,
      sum_by-constant 1 (keys_of xs),
      sum_by-apart same laws (λ k. 1) (λ k l is. refl) (keys_of xs) (keys_of ys)
          (distinct-apart same laws (passing xs)) any-within,
      sum_by-constant 1 (keys_of ys),
    )

    -- what is at most as much for each key is at most as much over all keys
    pub sum_by-keys_within : (g : List X → ℕ)
        → ((k : K) → g (with_key xs k) ≤ g (with_key ys k))
        → sum_by (λ k. g (with_key xs k)) (keys_of xs)
        ≤ sum_by (λ k. g (with_key ys k)) (keys_of ys)
    sum_by-keys_within g rises = omega (
      arith,
      sum_by-at_most (λ k. g (with_key xs k)) (λ k. g (with_key ys k)) (keys_of xs) rises,
      sum_by-apart same laws (λ k. g (with_key ys k)) (with_key-alike g ys) (keys_of xs)
          (keys_of ys) (distinct-apart same laws (passing xs)) any-within,
    )

    -- what passes for each key of the other list, where it then does here, passes for each key
    pub list_all-keys_within : (test : List X → Bool)
        → ((k : K) → test (with_key ys k) ≡ true → test (with_key xs k) ≡ true)
        → list_all (λ k. test (with_key ys k)) (keys_of ys) ≡ true
        → list_all (λ k. test (with_key xs k)) (keys_of xs) ≡ true
    list_all-keys_within test here all =
        list_all-each same laws (λ k. test (with_key xs k)) (keys_of xs)
        (λ k has.
        here k
        (passes-any same laws (λ l. test (with_key ys l)) (with_key-alike test ys) k (keys_of ys)
        all (any-within k has)))
