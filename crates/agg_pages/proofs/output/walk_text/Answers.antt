use Rattle.std.proofs.Common.{◌≡◌, ℕ, List, ◌∷◌, ◌+◌, ◌++◌, ◌∙◌, ap, append_assoc, arith, sym}
use Rattle.agg_results.specs.declared.final_results.types.AggregationResults.{AggregationResults}
use Rattle.agg_pages.specs.Output.{page_line, page_lines}
use Rattle.agg_pages.proofs.output.walk_text.Goals as goal

-- all lines stay the same while the line of one more page is appended
line-appended : (before after whole : List ℕ) (number : ℕ) (page : AggregationResults)
    (pages rest : List AggregationResults)
    → after ≡ before ++ page_line number page
    → pages ≡ page ∷ rest
    → before ++ page_lines number pages ≡ whole
    → after ++ page_lines (number + 1) rest ≡ whole
line-appended before after whole number page pages rest a p w =
    rw a (append_assoc before (page_line number page) (page_lines (number + 1) rest)
    ∙ ap (λ ps. before ++ page_lines number ps) (sym p) ∙ w)

pub loop-page-preserved : goal.loop-page-preserved
loop-page-preserved c = record {
  whole = line-appended _ _ _ (c.loop-page.number + 1) c.in-Some.page _ _ c.in_ok-write_page.ensures
      c.in-Some.ensures.steps.0 c.loop-page.invariant.whole;
  fits = omega (arith, c.in-Some.ensures.steps.1, c.loop-page.invariant.fits);
}
