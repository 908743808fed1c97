-- What a value's answer is.
pub mod ValueAnswer
