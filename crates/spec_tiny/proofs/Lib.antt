pub mod Count
pub mod All
pub mod Every
pub mod Cases
