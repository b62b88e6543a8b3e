-- Facts holds what is known of a file and what that tells, Names which names the system takes, NameLaws the laws of names.
pub mod Facts
pub mod Names
pub mod NameLaws
