-- W1: no board at a reserved address.
pub mod Addresses
