-- steps in the site, items, names and words
pub mod Items
