use Rattle.agg_composite.proofs.tuple_buckets.TupleBuckets.visit_documents.Goals as goal

pub returns-in-One-clause-answers : goal.returns-in-One-clause-answers
returns-in-One-clause-answers g c = rw c.in-One.is c.visit_documents.ensures.answers

pub returns-in-One-clause-held : goal.returns-in-One-clause-held
returns-in-One-clause-held g c = rw c.in-One.is c.visit_documents.ensures.held

pub returns-in-Two-clause-answers : goal.returns-in-Two-clause-answers
returns-in-Two-clause-answers g c = rw c.in-Two.is c.visit_documents-in-Two.ensures.answers

pub returns-in-Two-clause-held : goal.returns-in-Two-clause-held
returns-in-Two-clause-held g c = rw c.in-Two.is c.visit_documents-in-Two.ensures.held

pub returns-in-Four-clause-answers : goal.returns-in-Four-clause-answers
returns-in-Four-clause-answers g c = rw c.in-Four.is c.visit_documents-in-Four.ensures.answers

pub returns-in-Four-clause-held : goal.returns-in-Four-clause-held
returns-in-Four-clause-held g c = rw c.in-Four.is c.visit_documents-in-Four.ensures.held

pub returns-in-Eight-clause-answers : goal.returns-in-Eight-clause-answers
returns-in-Eight-clause-answers g c = rw c.in-Eight.is c.visit_documents-in-Eight.ensures.answers

pub returns-in-Eight-clause-held : goal.returns-in-Eight-clause-held
returns-in-Eight-clause-held g c = rw c.in-Eight.is c.visit_documents-in-Eight.ensures.held

pub returns-in-Sixteen-clause-answers : goal.returns-in-Sixteen-clause-answers
returns-in-Sixteen-clause-answers g c =
    rw c.in-Sixteen.is c.visit_documents-in-Sixteen.ensures.answers

pub returns-in-Sixteen-clause-held : goal.returns-in-Sixteen-clause-held
returns-in-Sixteen-clause-held g c = rw c.in-Sixteen.is c.visit_documents-in-Sixteen.ensures.held
