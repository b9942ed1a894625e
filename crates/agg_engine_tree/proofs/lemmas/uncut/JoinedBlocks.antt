-- How many documents the aggregations of a request list over two blocks of documents.
use Rattle.std.proofs.Common.{◌≡◌, ◌↔◌, ◌∙◌, ℕ, zero, suc, ◌+◌, ◌-◌, ◌^◌, ◌<◌, ◌≤◌, List, [], ◌∷◌}
use Rattle.std.proofs.Common.{◌++◌, Any, get_or, length, length-append, map, refl, sym, ap, arith}
use Rattle.std.specs.Prelude.{zip}
use Rattle.std.specs.Io.Iter.{u64_saturate}
use Rattle.std.proofs.lemmas.List.{get_or-map, get_or_default, length-map}
use Rattle.agg_segment.specs.storage.Document.{Fields}
use Rattle.agg_segment.specs.Query.{matches}
use Rattle.agg_segment.specs.declared.query.QueryTree.{QueryTree}
use Rattle.agg_request_tree.specs.Request.{Request, agg_of, below_of}
use Rattle.agg_request_tree.specs.Uncut.{uncut, uncut_lists, uncut_lists_of}
use Rattle.agg_request_tree.specs.declared.aggregation.Aggregation.{Aggregation}
use Rattle.agg_request_tree.proofs.RequestTrees.{height, height-out, levels}
use Rattle.agg_request_tree.proofs.UncutLists.{uncut-append, uncut_lists-out}
use Rattle.agg_engine_tree.specs.uncut.Uncut.{lengths_of, uncut_lengths}
use Rattle.agg_engine_tree.proofs.lemmas.uncut.CutNumbers.{cut-sum}

-- ---- lists joined place by place

data AreJoined : List (List Fields) → List (List Fields) → List (List Fields) → Type 0 where
  none : AreJoined [] [] []
  more : {l m : List Fields} {ls ms ns : List (List Fields)} → AreJoined ls ms ns
      → AreJoined (l ∷ ls) (m ∷ ms) ((l ++ m) ∷ ns)

joined-append : {ls ms ns us vs ws : List (List Fields)} → AreJoined ls ms ns
    → AreJoined us vs ws → AreJoined (ls ++ us) (ms ++ vs) (ns ++ ws)
joined-append none others = others
joined-append (more joined) others = more (joined-append joined others)

-- they are as many
joined-long : {ls ms ns : List (List Fields)} → AreJoined ls ms ns
    → length (lengths_of ls) ≡ length (lengths_of ms)
joined-long none = refl
joined-long (more joined) = ap suc (joined-long joined)

-- the lengths of joined lists add up
joined-lengths : {ls ms ns : List (List Fields)} → AreJoined ls ms ns
    → lengths_of ns ≡ map (λ p. u64_saturate (p.0 + p.1)) (zip (lengths_of ls) (lengths_of ms))
joined-lengths none = refl
joined-lengths (more {l} {m} joined) =
    (λ j. (ap u64_saturate (length-append l m)
    ∙ sym (cut-sum (length l) (length m) (2 ^ 64 - 1))) j ∷ joined-lengths joined j)

-- ---- over two blocks end to end each aggregation lists those of the one and of the other

JoinsBlocks : Aggregation QueryTree → Type 0
JoinsBlocks a =
    (documents others : List Fields)
    → AreJoined (uncut_lists matches a documents) (uncut_lists matches a others)
    (uncut_lists matches a (documents ++ others))

below-joined : (n : ℕ) → ((a : Aggregation QueryTree) → height a ≤ n → JoinsBlocks a)
    → (request : Request QueryTree) → levels request ≤ n → (documents others : List Fields)
    → AreJoined (uncut_lists_of matches request documents) (uncut_lists_of matches request others)
    (uncut_lists_of matches request (documents ++ others))
unfolding JoinsBlocks
below-joined n each [] low documents others = none
below-joined n each (a ∷ request) low documents others =
    joined-append (each a.1 (omega arith) documents others)
    (below-joined n each request (omega arith) documents others)

node-joined : (n : ℕ) (a : Aggregation QueryTree) → height a ≤ n → JoinsBlocks a
unfolding JoinsBlocks
node-joined zero a low documents others = absurd (omega (arith, height-out a))
node-joined (suc n) a low documents others =
    let own = uncut-append matches (agg_of a) documents others in
    let below = below-joined n (node-joined n) (below_of a) (omega (arith, height-out a))
    (uncut matches (agg_of a) documents) (uncut matches (agg_of a) others) in
    rw (
      uncut_lists-out matches a documents,
      uncut_lists-out matches a others,
      uncut_lists-out matches a (documents ++ others),
      own,
    ) (more below)

request-joined : (request : Request QueryTree) (documents others : List Fields)
    → AreJoined (uncut_lists_of matches request documents) (uncut_lists_of matches request others)
    (uncut_lists_of matches request (documents ++ others))
request-joined request =
    below-joined (levels request) (node-joined (levels request)) request (omega arith)

-- a request has as many counts over one block as over another
pub uncut-long : (request : Request QueryTree) (documents others : List Fields)
    → length (uncut_lengths request documents) ≡ length (uncut_lengths request others)
uncut-long request documents others = joined-long (request-joined request documents others)

-- the counts over two blocks are those of both, added up
pub uncut-sums : (request : Request QueryTree) (documents others : List Fields)
    → uncut_lengths request (documents ++ others)
    ≡ map (λ p. u64_saturate (p.0 + p.1))
    (zip (uncut_lengths request documents) (uncut_lengths request others))
uncut-sums request documents others = joined-lengths (request-joined request documents others)

-- ---- sums place by place

pub zip-sums : (xs ys zs : List ℕ) → length xs ≡ length ys → length zs ≡ length xs
    → ((k : ℕ) → k < length xs → get_or zs k 0 ≡ u64_saturate (get_or xs k 0 + get_or ys k 0))
    → zs ≡ map (λ p. u64_saturate (p.0 + p.1)) (zip xs ys)
zip-sums [] ys [] same long at = refl
zip-sums [] ys (z ∷ zs) same long at = absurd (omega (arith, long))
zip-sums (x ∷ xs) [] zs same long at = absurd (omega (arith, same))
zip-sums (x ∷ xs) (y ∷ ys) [] same long at = absurd (omega (arith, long))
zip-sums (x ∷ xs) (y ∷ ys) (z ∷ zs) same long at =
    (λ j. at 0 (omega arith) j
    ∷ zip-sums xs ys zs (omega (arith, same)) (omega (arith, long))
    (λ k l. at (suc k) (omega (arith, l))) j)

-- ---- too many

module _ (lists : List (List Fields)) where
  -- a length, cut, is that of the list at its index
  length-at : (k : ℕ) (d : ℕ) → k < length lists
      → get_or (lengths_of lists) k d ≡ u64_saturate (length (get_or lists k []))
  length-at k d l =
      get_or-map u64_saturate (map length lists) k 0 d
      (omega (arith, l, length-map lists (length {A = Fields})))
      ∙ ap u64_saturate (get_or-map (length {A = Fields}) lists k [] 0 l)

  lengths-long : length (lengths_of lists) ≡ length lists
  lengths-long = length-map (map length lists) u64_saturate ∙ length-map lists (length {A = Fields})

  -- some list is so long where some length is so great
  long-list : Any (λ count. 2 ^ 32 ≤ count) (lengths_of lists)
      → Any (λ list. 2 ^ 32 ≤ length list) lists
  long-list some =
      let l : some.0 < length lists = omega (arith, some.2, lengths-long) in
      let list = get_or lists some.0 [] in
      let count = sym some.3 ∙ length-at some.0 some.1 l in
      let long : 2 ^ 32 ≤ length list = omega (arith, count, some.4) in
      (some.0, list, l, get_or_default lists some.0 list [] l, long)

  great-length : Any (λ list. 2 ^ 32 ≤ length list) lists
      → Any (λ count. 2 ^ 32 ≤ count) (lengths_of lists)
  great-length some =
      let list = get_or lists some.0 [] in
      let l : some.0 < length (lengths_of lists) = omega (arith, some.2, lengths-long) in
      let same = ap length (get_or_default lists some.0 [] some.1 some.2 ∙ some.3) in
      let count = u64_saturate (length list) in
      let great : 2 ^ 32 ≤ count = omega (arith, same, some.4) in
      (some.0, count, l, length-at some.0 count some.2, great)

  pub long-lists : Any (λ count. 2 ^ 32 ≤ count) (lengths_of lists)
      ↔ Any (λ list. 2 ^ 32 ≤ length list) lists
  long-lists = (long-list, great-length)
