pub mod ExpressionComplete
pub mod ExpressionSound
pub mod StatementComplete
pub mod StatementSound
pub mod TextComplete
pub mod TextSound
pub mod Literals
pub mod DeclarationTurns
