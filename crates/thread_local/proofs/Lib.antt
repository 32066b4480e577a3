pub mod Reserved
pub mod Counted
pub mod Filled
mod Grown
pub mod Told
