-- Division downward, and the words that a whole number stands in.
pub mod Floor
pub mod Words
