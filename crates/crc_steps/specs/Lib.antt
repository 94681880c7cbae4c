pub mod HalfBytes
