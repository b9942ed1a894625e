pub mod Appended
pub mod AskedNames
pub mod Gains
pub mod HeldDocuments
pub mod NoDocuments
pub mod SingleDocuments
pub mod SoleDocuments
