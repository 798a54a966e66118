pub mod Changes
pub mod Reviewers
pub mod Page
pub mod PageViews
