pub mod LexedTokens
pub mod DeclarationViews
pub mod Parsed
