pub mod FilterKinds
pub mod FilterLists
pub mod Filters
pub mod Items
pub mod JsonLemmas
pub mod Others
pub mod Readings
pub mod ValueTexts
