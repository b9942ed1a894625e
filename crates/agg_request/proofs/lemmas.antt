pub mod json_values
pub mod reading
