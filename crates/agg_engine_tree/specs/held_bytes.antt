pub mod Checked
pub mod HeldBytes
pub mod Nodes
pub mod Trees
