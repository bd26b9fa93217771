-- Terms, propositions and questions; the rules; assignments; and that what the rules derive holds in every assignment.
pub mod Terms
pub mod Rules
pub mod Assignments
pub mod Monotone
