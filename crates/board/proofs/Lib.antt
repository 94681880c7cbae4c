-- From what is promised inside a call to what the call promises.
pub mod Laws
