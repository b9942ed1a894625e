use Rattle.std.proofs.Common.{length, sym, subst, ap, ◌∙◌}
use Rattle.std.specs.List.{All}
use Rattle.agg_segment.specs.storage.Document.{HasNumbersOf64Bits}
use Rattle.agg_segment.specs.storage.Names.{numbered_names}
use Rattle.agg_segment.specs.Segment.{Stored, documents_of}
use Rattle.agg_segment.proofs.ClosedDocuments.{read_count}
use Rattle.agg_segment.proofs.segment.SegmentReader.num_docs.Goals as goal

pub returns-clause-count : goal.returns-clause-count
returns-clause-count c =
    let s = c.self.inside in
    sym (read_count (record {
      count = s.count;
      names = numbered_names s.names;
      columns =
          s.columns.items;
    })) ∙ ap (λ (r : Stored). length (documents_of r)) c.self.view_is

pub returns-clause-numbers : goal.returns-clause-numbers
returns-clause-numbers c =
    subst (λ (r : Stored). All HasNumbersOf64Bits (documents_of r)) c.self.view_is
    c.self.invariant.2
