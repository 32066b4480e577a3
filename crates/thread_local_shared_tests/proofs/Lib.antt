pub mod Sharings
