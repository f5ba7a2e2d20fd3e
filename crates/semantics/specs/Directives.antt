pub mod Directive
pub mod DirectiveGrammar
pub mod Annotated
pub mod Placed
pub mod Naming
pub mod Clauses
pub mod Regions
pub mod Listing
