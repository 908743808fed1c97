-- linears as nine numbers
pub mod Nine
