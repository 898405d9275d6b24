pub mod Cutting
pub mod Putting
pub mod Filing
pub mod Refusing
mod Leaving
mod Mistakes
