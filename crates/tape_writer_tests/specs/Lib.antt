pub mod HoldsImages
