use Rattle.agg_pages.proofs.lemmas.document_json.PlainNumbers.{unsigned_number}
use Rattle.agg_pages.proofs.document_json.plain.digits.unsigned.Goals as goal

pub returns-clause-number : goal.returns-clause-number
returns-clause-number c = (unsigned_number c.args.n c.ranges.n.fits).0

pub returns-clause-reads : goal.returns-clause-reads
returns-clause-reads c = (unsigned_number c.args.n c.ranges.n.fits).1
