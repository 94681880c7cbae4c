-- A law of two parts that are compared.
pub mod Laws
