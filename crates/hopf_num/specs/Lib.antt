pub mod Divisors
pub mod FirstFailing
pub mod Fractions
pub mod Room
