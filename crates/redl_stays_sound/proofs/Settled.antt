-- Where all revisions are decided, no member of a revision is left, and none is found anew.
pub mod Roles
pub mod Places
pub mod Former
pub mod Ground
pub mod Walk
pub mod Numbers
pub mod Stories
