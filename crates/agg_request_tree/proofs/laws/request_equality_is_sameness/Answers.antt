use Rattle.agg_request_tree.proofs.SourceEquality.{dates-decided, histograms-decided}
use Rattle.agg_request_tree.proofs.SourceEquality.{sources-decided}
use Rattle.agg_request_tree.proofs.SourceEquality.{terms-decided}
use Rattle.agg_request_tree.proofs.laws.request_equality_is_sameness.Goals as goal

pub returns-clause-terms_sources : goal.returns-clause-terms_sources
returns-clause-terms_sources c = terms-decided

pub returns-clause-histogram_sources : goal.returns-clause-histogram_sources
returns-clause-histogram_sources c = histograms-decided

pub returns-clause-date_sources : goal.returns-clause-date_sources
returns-clause-date_sources c = dates-decided

pub returns-clause-sources : goal.returns-clause-sources
returns-clause-sources c = sources-decided
