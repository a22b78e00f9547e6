pub mod Opening
mod Answering
mod Ending
mod Forms
mod FourTexts
mod Lines
mod NoBase
mod Reading
mod Returning
mod Words
mod Writing
