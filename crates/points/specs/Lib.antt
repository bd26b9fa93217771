-- Places of terms, the homes of terms at one place, and leads of dereferences that read one place.
pub mod Places
pub mod Homes
pub mod Leads
