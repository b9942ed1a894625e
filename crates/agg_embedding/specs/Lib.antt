pub mod NoPages
