pub mod HalfByteLaws
