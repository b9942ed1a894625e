use Rattle.std.proofs.Common.{◌≡◌, ◌++◌, ◌∙◌, ℕ, List, ap, append_assoc, codes, decimal, length}
use Rattle.std.proofs.Common.{refl, sum_by}
use Rattle.agg_results.specs.final_results.BucketCount.{results_buckets}
use Rattle.agg_pages.specs.Output.{buckets_of_walk, ended_text}
use Rattle.agg_pages.proofs.output.summary_text.Goals as goal

-- seven pieces, joined from the end or from the front
joined_from_front : (a b c d e f g : List ℕ)
    → a ++ (b ++ (c ++ (d ++ (e ++ (f ++ g))))) ≡ a ++ b ++ c ++ d ++ e ++ f ++ g
joined_from_front a b c d e f g = simp append_assoc refl

pub returns : goal.returns
returns c =
    let walk = c.args.walk.now in
    let buckets : c.in_ok-buckets.buckets ≡ buckets_of_walk walk =
    c.in_ok-buckets.ensures ∙ ap (sum_by results_buckets) c.as_slice-pages.ensures in
    let pages = ap length c.as_slice-pages.ensures in
    c.in_ok-format.ensures.ok
    ∙ joined_from_front (codes "{\"buckets\":") (decimal c.in_ok-buckets.buckets)
    (codes ",\"ended\":") (ended_text walk.ended) (codes ",\"pages\":")
    (decimal (length c.as_slice-pages.result.now)) (codes "}\n")
    ∙ (λ i. codes "{\"buckets\":" ++ decimal (buckets i) ++ codes ",\"ended\":"
    ++ ended_text walk.ended ++ codes ",\"pages\":" ++ decimal (pages i) ++ codes "}\n")
