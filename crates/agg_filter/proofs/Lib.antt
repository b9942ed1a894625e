mod CollectorCalls
mod HandedDocuments
mod MatchingDocuments
mod PreparedParents
mod UnderIds
mod VisitsTaken
