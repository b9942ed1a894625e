use Rattle.std.proofs.Common.{◌≡◌, length, sym, ap, ◌∙◌, arith, eq-eqb}
use Rattle.std.proofs.lemmas.Bool.Decides.{nat_tests}
use Rattle.agg_segment.specs.Segment.{Gathered, gathered_documents}
use Rattle.agg_segment.proofs.ClosedDocuments.{documents_count}
use Rattle.agg_segment.proofs.builder.SegmentBuilder.is_full.Goals as goal

pub returns : goal.returns
returns c =
    let count : length (gathered_documents c.args.self.now) ≡ c.self.inside.count =
    documents_count c.args.self.now ∙ ap (λ (b : Gathered). b.count) (sym c.self.view_is) in (
      λ is. let full : c.self.inside.count ≡ 16777216 = grind (arith, nat_tests) in
          count ∙ full,
      λ full. eq-eqb c.self.inside.count 16777216 (sym count ∙ full),
    )
