pub mod Numbers
pub mod Count
pub mod Lists
pub mod Table
pub mod Internal
