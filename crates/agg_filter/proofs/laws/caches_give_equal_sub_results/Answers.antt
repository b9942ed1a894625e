use Rattle.std.proofs.Common.{sym, ◌∙◌}
use Rattle.agg_filter.proofs.HandedDocuments.{documents-handed}
use Rattle.agg_filter.proofs.laws.caches_give_equal_sub_results.Goals as goal

pub returns-clause-counts : goal.returns-clause-counts
returns-clause-counts g c is_match one other visited given others f h parent =
    f.counted parent ∙ sym (h.counted parent)

pub returns-clause-documents : goal.returns-clause-documents
returns-clause-documents g c is_match one other visited given others f h parent id other_id is are =
    documents-handed g.C.SubAggCache.waiting is_match one visited given f parent id is
    ∙ sym (documents-handed g.D.SubAggCache.waiting is_match other visited others h parent other_id
    are)
