-- What belongs to no one function of `refusals`.
pub mod OutcomeLaws
