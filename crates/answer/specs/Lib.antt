-- What the two board calls promise, and the functions inside them.
pub mod Answered
pub mod HeadAnswered
