pub mod Cut
pub mod Laws
pub mod Node
pub mod Page
pub mod Refusals
pub mod Visits
