pub mod Posts
pub mod Replies
