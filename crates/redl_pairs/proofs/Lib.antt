pub mod PairLaws
pub mod LaneLaws
pub mod WordLaws
pub mod ElementLaws
