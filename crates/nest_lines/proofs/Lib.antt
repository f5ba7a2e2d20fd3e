pub mod NestLaw
