pub mod KeptTree
pub mod Made
pub mod MadeProofs
pub mod Names
pub mod Numbers
