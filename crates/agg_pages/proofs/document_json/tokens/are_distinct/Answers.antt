use Rattle.std.proofs.Common.{◌≡◌, ◌==◌, length, ap, sym, ◌∙◌, subst, arith, rules}
use Rattle.std.proofs.lemmas.List.Filters.{dedup_is}
use Rattle.std.specs.List.{dedup}
use Rattle.std.specs.List.Sorted.{IsStrictlyIncreasing}
use Rattle.agg_pages.proofs.lemmas.document_json.DistinctNumbers.{distinct_numbers, rising_apart}
use Rattle.agg_pages.proofs.document_json.tokens.are_distinct.Goals as goal

pub returns-then-ascend : goal.returns-then-ascend
returns-then-ascend c = λ _.
    rising_apart c.args.numbers.now.items
    (subst IsStrictlyIncreasing c.deref.ensures.value (c.ascend.ensures (search rules)))

pub returns : goal.returns
returns c = λ all.
    let numbers = c.args.numbers.now.items in
    let sorted = c.sort_unstable.new.self.items in
    let left : c.dedup.new.self.items ≡ dedup (λ a b. a == b) sorted =
    dedup_is (λ a b. a == b) sorted c.dedup.new.self.items c.dedup.ensures.filtered in
    let kept : length c.dedup.new.self.items ≡ length numbers = grind arith in
    distinct_numbers numbers sorted c.sort_unstable.ensures.permutation
    c.sort_unstable.ensures.sorted (sym (ap length left) ∙ kept)
