pub mod Trailing
pub mod Tables
pub mod Listings
pub mod Shelves
pub mod Surveys
