pub mod charges
