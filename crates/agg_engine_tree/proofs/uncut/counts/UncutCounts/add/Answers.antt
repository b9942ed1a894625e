use Rattle.std.proofs.Common.{◌≡◌, ◌+◌, ◌<◌, inl, inr, get_or, length, map, take, drop, ◌++◌, sym}
use Rattle.std.proofs.Common.{ap, ◌∙◌, refl, rules, arith, subst}
use Rattle.std.specs.Prelude.{slice_set, zip}
use Rattle.std.specs.Io.Iter.{u64_saturate}
use Rattle.std.proofs.Math.Seq.{take-append_seam}
use Rattle.std.proofs.lemmas.Bool.{cases_lt}
use Rattle.std.proofs.lemmas.List.{get_or-set_other, get_or-set_same}
use Rattle.agg_engine_tree.proofs.lemmas.uncut.JoinedBlocks.{uncut-long, uncut-sums, zip-sums}
use Rattle.agg_engine_tree.proofs.uncut.counts.UncutCounts.add.Goals as goal

pub loop-index-init : goal.loop-index-init
loop-index-init c = record {
  added = λ k l. absurd (omega (arith, l));
  rest = λ k l. refl;
}

pub loop-index-preserved : goal.loop-index-preserved
loop-index-preserved c =
    let items = c.loop-index.count-items in
    let i = c.loop-index.index in
    let l : i < length items = omega arith in
    let more : c.unwrap_or.result ≡ get_or c.args.counts.now i 0 = search rules in
    let own : c.saturating_add.result
    ≡ u64_saturate (get_or c.deref_mut-count-items.result.now i 0 + get_or c.args.counts.now i 0) =
    c.saturating_add.ensures
    ∙ (λ j. u64_saturate (c.loop-index.invariant.rest i (omega arith) j + more j)) in
    record {
      added = λ k below. elim (cases_lt k i) [
        | inl before ↦
            get_or-set_other items i k c.saturating_add.result 0 (λ e. omega (arith, e, before))
            ∙ c.loop-index.invariant.added k before
        | inr from ↦
            let here : i ≡ k = omega (arith, below, from) in
            subst (λ n. get_or (slice_set items i c.saturating_add.result) n 0
            ≡ u64_saturate
            (get_or c.deref_mut-count-items.result.now n 0 + get_or c.args.counts.now n 0))
            here (get_or-set_same items i c.saturating_add.result 0 l ∙ own)
      ];
      rest = λ k behind.
          get_or-set_other items i k c.saturating_add.result 0 (λ e. omega (arith, e, behind))
          ∙ c.loop-index.invariant.rest k (omega (arith, behind));
    }

-- what the vector holds at the return
returned : (c : goal.After-self-1)
    → take c.self.inside.counts.len (c.loop-index.count-items
    ++ drop (length c.loop-index.count-items) c.self.inside.counts.items) ≡ c.loop-index.count-items
returned c =
    let items = c.loop-index.count-items in
    let rest = drop (length items) c.self.inside.counts.items in
    let long : c.self.inside.counts.len ≡ length items = omega arith in
    ap (λ n. take n (items ++ rest)) long ∙ take-append_seam items rest

pub returns-clause-sums : goal.returns-clause-sums
returns-clause-sums c same =
    let items = c.loop-index.count-items in
    let before = c.deref_mut-count-items.ensures.value ∙ c.self.view_is in
    let before_long = ap length before in
    returned c
    ∙ zip-sums c.args.self.now c.args.counts.now items same (omega (arith, before_long))
    (λ k l. c.loop-index.invariant.added k (omega (arith, l, before_long))
    ∙ ap (λ ns. u64_saturate (get_or ns k 0 + get_or c.args.counts.now k 0)) before)

pub returns-clause-documents : goal.returns-clause-documents
returns-clause-documents c request documents others first second =
    let same = ap length first ∙ uncut-long request documents others ∙ sym (ap length second) in
    returns-clause-sums c same
    ∙ (λ j. map (λ p. u64_saturate (p.0 + p.1)) (zip (first j) (second j)))
    ∙ sym (uncut-sums request documents others)
