use Rattle.agg_pages.proofs.lemmas.input_text.PrintedAfterKeys.{composite-bound}
use Rattle.agg_pages.proofs.lemmas.input_text.PrintedAfterKeys.{printed_after_key-reads}
use Rattle.agg_pages.proofs.input_text.laws.a_printed_after_key_gives_its_bound.Goals as goal

pub returns-clause-reads : goal.returns-clause-reads
returns-clause-reads c = printed_after_key-reads

pub returns-clause-bound : goal.returns-clause-bound
returns-clause-bound c = composite-bound
