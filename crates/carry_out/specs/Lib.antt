pub mod CallOf
