pub mod Charges
pub mod Distinct
pub mod Laws
pub mod Roof
pub mod Settled
pub mod Within
