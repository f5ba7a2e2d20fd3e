mod Commands
mod Words
