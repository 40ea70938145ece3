-- what holds of a session that serves a client
pub mod Serving
