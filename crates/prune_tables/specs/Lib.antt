-- Tables made anew from rows and stage words.
pub mod Tables
