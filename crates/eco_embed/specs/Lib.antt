pub mod Feeds
pub mod Embeddings
pub mod Words
