-- How many buckets a collector has more than before.
use Rattle.std.proofs.Common.{◌≡◌, ◌≢◌, ◌==◌, ◌≤◌, ◌<◌, ◌+◌, ◌-◌, ◌*◌, ◌++◌, ℕ, zero, suc, List, []}
use Rattle.std.proofs.Common.{◌∷◌, false, length, get_or, refl, sym, ap, ◌∙◌, arith}
use Rattle.std.specs.List.{AllByRecursion, AllZip, sum_by}
use Rattle.std.specs.Prelude.{if◌then◌else◌}
use Rattle.std.proofs.lemmas.List.{length-map}
use Rattle.std.proofs.lemmas.List.Sums.{sum_by-cons}
use Rattle.agg_values.specs.Names.{Named}
use Rattle.agg_values.specs.declared.after_key.AfterKey.{AfterKey}
use Rattle.agg_cache.specs.Limits.{Limits, charged}
use Rattle.agg_segment.specs.Segment.{Stored}
use Rattle.agg_request_tree.specs.Source.{Sources}
use Rattle.agg_request_tree.specs.charges.Charges.{bucket_bytes}
use Rattle.agg_composite.specs.accessor.Encoding.{EncodedTuple, encoded_tuple_order}
use Rattle.agg_composite.specs.declared.accessor.request_data.CompositeAggReqData.{
  CompositeAggReqData,
}
use Rattle.agg_composite.proofs.lemmas.accessor.EncodedOrder.{tuple-exact, tuple_order-total}
use Rattle.agg_composite.specs.buckets.Cut.{counts_of, cut, spread, tuples_under}
use Rattle.agg_composite.specs.buckets.Node.{Prepares}
use Rattle.agg_composite.specs.buckets.Page.{Page}
use Rattle.agg_composite.specs.buckets.Visits.{Visit, visits_at}
use Rattle.agg_composite.proofs.lemmas.buckets.CutPages.{visits-cut}
use Rattle.agg_composite.proofs.lemmas.buckets.Labels.{is_id-other}
use Rattle.agg_composite.proofs.lemmas.buckets.StandingNodes.{stay-right}
use Rattle.agg_composite.specs.Charged.{OpenedBytes, more_bytes}
use Rattle.agg_composite.specs.Composite.{Composite, CompositeFor, CompositeTakes, num_buckets}
use Rattle.agg_composite.specs.Composite.{page_of}
use Rattle.agg_composite.specs.Visits.{StandsForVisit, TypedVisit, visits_past}
use Rattle.agg_composite.proofs.CollectorAnswers.{begun}
use Rattle.agg_composite.proofs.DocumentsInRow.{visits_compose}

-- ---- lists of lists

-- of which none is longer than its counterpart
sums-rise : {A : Type 0} (xs ys : List (List A)) → length xs ≤ length ys
    → ((p : ℕ) → length (get_or xs p []) ≤ length (get_or ys p []))
    → sum_by length xs ≤ sum_by length ys
sums-rise [] ys long each = omega arith
sums-rise (x ∷ xs) [] long each = absurd (omega (arith, long))
sums-rise (x ∷ xs) (y ∷ ys) long each =
    let first : length x ≤ length y = each 0 in
    let rest = sums-rise xs ys (omega (arith, long)) (λ p. each (suc p)) in
    omega (arith, sum_by-cons length x xs, sum_by-cons length y ys, first, rest)

-- of which only those at a place have different lengths
sums-apart : {A : Type 0} (xs ys : List (List A)) (i : ℕ) → length ys ≡ length xs → i < length xs
    → ((p : ℕ) → p ≢ i → length (get_or ys p []) ≡ length (get_or xs p []))
    → sum_by length ys + length (get_or xs i []) ≡ sum_by length xs + length (get_or ys i [])
sums-apart [] ys i long l same = absurd (omega (arith, l))
sums-apart (x ∷ xs) [] i long l same = absurd (cc long)
sums-apart (x ∷ xs) (y ∷ ys) zero long l same =
    let each : (p : ℕ) → length (get_or ys p []) ≡ length (get_or xs p []) =
    λ p. same (suc p) (λ e. cc e) in
    let tail : length ys ≡ length xs = omega (arith, long) in
    let up = sums-rise xs ys (omega (arith, tail)) (λ p. let e = each p in omega (arith, e)) in
    let down = sums-rise ys xs (omega (arith, tail)) (λ p. let e = each p in omega (arith, e)) in
    omega (arith, sum_by-cons length x xs, sum_by-cons length y ys, up, down)
sums-apart (x ∷ xs) (y ∷ ys) (suc i) long l same =
    let first : length y ≡ length x = same 0 (λ e. cc e) in
    let rest = sums-apart xs ys i (omega (arith, long)) (omega (arith, l))
    (λ p ne. same (suc p) (λ e. ne (cc e))) in
    omega (arith, sum_by-cons length x xs, sum_by-cons length y ys, first, rest)

-- ---- visits under one parent

-- a visit is under a parent
abbrev pub IsUnder : {S : Type 0} → ℕ → Visit S → Type 0
IsUnder parent visit = visit.0.0 ≡ parent

at-under : {S : Type 0} (parent doc : ℕ) (tuples : List S) (visits : List (Visit S))
    → AllByRecursion (IsUnder parent) visits
    → AllByRecursion (IsUnder parent) (visits_at parent doc tuples ++ visits)
at-under parent doc [] visits all = all
at-under parent doc (t ∷ tuples) visits all = (refl, at-under parent doc tuples visits all)

pub past-under : (sources : Sources) (segment : Stored) (after : Named AfterKey) (parent : ℕ)
    (docs : List ℕ)
    → AllByRecursion (IsUnder parent) (visits_past sources segment after parent docs)
past-under sources segment after parent [] = tt
past-under sources segment after parent (doc ∷ docs) =
    at-under parent doc _ (visits_past sources segment after parent docs)
    (past-under sources segment after parent docs)

-- visits that stand for them are not under another one
none-elsewhere : (req : CompositeAggReqData) (parent p : ℕ) → p ≢ parent
    → (visits : List (Visit EncodedTuple)) (typed : List TypedVisit)
    → AllZip (StandsForVisit req) visits typed → AllByRecursion (IsUnder parent) typed
    → tuples_under p visits ≡ []
none-elsewhere req parent p ne [] typed stand under = refl
none-elsewhere req parent p ne (v ∷ visits) [] stand under = absurd stand
none-elsewhere req parent p ne (v ∷ visits) (t ∷ typed) stand under =
    let apart : (p == v.0.0) ≡ false =
    is_id-other v.0.0 p (λ e. ne (sym e ∙ stand.0.0 ∙ under.0)) in
    ap (λ b. (if b then v.0.1 ∷ [] else []) ++ tuples_under p visits) apart
    ∙ none-elsewhere req parent p ne visits typed stand.1 under.1

-- ---- a collector

-- it has no fewer buckets where parents were prepared
pub prepared-no_fewer : {C : Type 0} (old new : Composite C) → Prepares old.node new.node
    → num_buckets old ≤ num_buckets new
prepared-no_fewer old new prepares =
    sums-rise old.node.parents new.node.parents prepares.more
    (λ p. omega (arith, ap length (prepares.buckets p)))

both-times : (b k n : ℕ) → b * k + b * n ≡ b * (k + n)
both-times b k n = grind arith

module _ {C : Type 0} (waiting : C → ℕ → List ℕ) (req : CompositeAggReqData)
    (typed : List TypedVisit) (old new : Composite C)
    (takes : CompositeTakes waiting req typed old new) where
  -- it has no fewer buckets
  pub no-fewer : num_buckets old ≤ num_buckets new
  no-fewer =
      sums-rise old.node.parents new.node.parents (omega (arith, takes.prepared)) takes.no_fewer

  module _ (before bytes : ℕ) (was : before ≡ num_buckets old)
      (are : bytes ≡ bucket_bytes req.req.now * (num_buckets new - before)) where
    more : bytes ≡ more_bytes req old new
    more = are ∙ ap (λ n. bucket_bytes req.req.now * (num_buckets new - n)) was

    -- a ledger with the bytes of those that it has more
    pub held-bytes : (limits limits_now : Limits) → limits_now ≡ charged bytes limits
        → limits_now.in_use + bucket_bytes req.req.now * num_buckets old
        ≡ limits.in_use + bucket_bytes req.req.now * num_buckets new
    held-bytes limits limits_now is =
        let bucket = bucket_bytes req.req.now in
        let ledger : limits_now.in_use ≡ limits.in_use + bytes = ap (λ l. l.in_use) is in
        let all : num_buckets new - num_buckets old + num_buckets old ≡ num_buckets new =
        omega (arith, no-fewer) in
        let both = both-times bucket (num_buckets new - num_buckets old) (num_buckets old)
        ∙ ap (λ n. bucket * n) all in
        omega (arith, ledger, more, both)

    module _ (parent : ℕ) (under : AllByRecursion (IsUnder parent) typed)
        (l : parent < length old.node.parents) (visited : List TypedVisit) (given : List (ℕ × ℕ))
        (f : CompositeFor waiting req old visited given) where
      -- what a parent had, with other tuples after it
      abbrev with_more : ℕ → List EncodedTuple → List (EncodedTuple × ℕ)
      with_more p tuples =
          cut encoded_tuple_order req.size (spread (counts_of (page_of old p)) ++ tuples)

      own-cut : (p : ℕ) → counts_of (page_of old p) ≡ with_more p []
      own-cut p =
          let node = begun req old.node parent in
          let right = (stay-right encoded_tuple_order).begun old.node parent req.size f.visits
          f.handed f.buckets in
          visits-cut encoded_tuple_order tuple_order-total tuple-exact node node f.visits []
          f.handed right (visits_compose.none node) p

      counts-long : (page : Page EncodedTuple) → length (counts_of page) ≡ length page
      counts-long page = length-map page (λ e. (e.0, e.1.count))

      same-elsewhere : (p : ℕ) → p ≢ parent → length (page_of new p) ≡ length (page_of old p)
      same-elsewhere p ne =
          let none = none-elsewhere req parent p ne takes.visits typed takes.stand under in
          sym (counts-long (page_of new p))
          ∙ ap length (takes.cut visited given f p ∙ ap (with_more p) none ∙ sym (own-cut p))
          ∙ counts-long (page_of old p)

      -- they are those of the buckets that the parent has more
      pub opened-bytes : OpenedBytes req parent (page_of old parent) typed bytes
      opened-bytes =
          let now = with_more parent (tuples_under parent takes.visits) in
          let all = sums-apart old.node.parents new.node.parents parent takes.prepared l
          same-elsewhere in
          let here : length now ≡ length (page_of new parent) =
          ap length (sym (takes.cut visited given f parent)) ∙ counts-long (page_of new parent) in
          let same : num_buckets new - num_buckets old ≡ length now - length (page_of old parent) =
          omega (arith, all, here, no-fewer, takes.no_fewer parent) in
          record {
            visits = takes.visits;
            stand = takes.stand;
            are = more ∙ ap (λ n. bucket_bytes req.req.now * n) same;
          }
