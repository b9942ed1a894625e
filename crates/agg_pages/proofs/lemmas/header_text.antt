pub mod FilterRequests
pub mod HeaderMembers
