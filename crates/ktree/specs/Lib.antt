pub mod Numbers
pub mod Places
pub mod View
pub mod DirectiveView
pub mod Words
