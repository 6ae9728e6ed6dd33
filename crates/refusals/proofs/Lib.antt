-- Laws about the definitions of specs/, for the crates above.
pub mod Number
