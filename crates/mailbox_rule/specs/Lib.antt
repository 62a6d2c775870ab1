pub mod Lists
pub mod Mail
pub mod Replies
pub mod Rule
