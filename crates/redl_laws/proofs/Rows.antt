-- Worked rows: documents and what the definitions give for them, computed.
mod Texts
mod RoleRows
mod SoundRows
mod RestoredRows
pub mod Tails
pub mod Documents
pub mod Bodies
mod PassRows
mod PartRows
mod MoreRows
mod SoundAgainRows
mod NumberRows
mod SampleRows
mod LawRows
