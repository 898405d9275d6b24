pub mod Ends
pub mod Items
pub mod Fields
pub mod Lists
pub mod Surveyed
