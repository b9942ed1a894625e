pub mod RankedGroups
pub mod TopPlaces
