-- A page's stages, once the model has been judged.
pub mod Stages
