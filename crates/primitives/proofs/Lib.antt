pub mod Cases
pub mod Every
pub mod BitLaws
pub mod ByteLaws
pub mod CountLaws
pub mod ChecksumLaws
pub mod WordLaws
pub mod SpliceLaws
