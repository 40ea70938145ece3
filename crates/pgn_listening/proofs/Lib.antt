pub mod ListeningLaws
pub mod BitsLaws
