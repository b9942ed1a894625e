pub mod document_json
pub mod generated_walks
pub mod generator
pub mod header_text
pub mod input_text
