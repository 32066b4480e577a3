mod Bytes
pub mod Pooled
