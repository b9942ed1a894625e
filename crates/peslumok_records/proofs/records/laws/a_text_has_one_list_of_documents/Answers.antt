use Rattle.peslumok_records.proofs.lemmas.records.SoleDocuments.{documents_once}
use Rattle.peslumok_records.proofs.records.laws.a_text_has_one_list_of_documents.Goals as goal

pub returns : goal.returns
returns c = record { is_sole = documents_once }
