pub mod SoleDocuments
