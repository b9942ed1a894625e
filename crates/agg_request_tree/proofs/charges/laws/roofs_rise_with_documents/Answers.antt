use Rattle.agg_request_tree.proofs.lemmas.charges.Roofs.{low-any_order, roof-any_order, roof-more}
use Rattle.agg_request_tree.proofs.lemmas.charges.Roofs.{roof-within, settled-within}
use Rattle.agg_request_tree.proofs.charges.laws.roofs_rise_with_documents.Goals as goal

pub returns-clause-within : goal.returns-clause-within
returns-clause-within g c = roof-within

pub returns-clause-more : goal.returns-clause-more
returns-clause-more g c = roof-more

pub returns-clause-any_order : goal.returns-clause-any_order
returns-clause-any_order g c = roof-any_order

pub returns-clause-low_any_order : goal.returns-clause-low_any_order
returns-clause-low_any_order g c = low-any_order

pub returns-clause-settled : goal.returns-clause-settled
returns-clause-settled g c = settled-within
