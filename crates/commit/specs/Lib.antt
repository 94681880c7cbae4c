-- What the calls on an upload and its flash ask and promise.
pub mod Progress
