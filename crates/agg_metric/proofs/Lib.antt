mod ListParts
mod PreparedParents
mod TakenValues
mod VisitsTaken
