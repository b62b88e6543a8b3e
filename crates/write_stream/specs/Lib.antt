-- Writing and Steps hold the definitions, Examples the worked examples; the other files hold the laws.
pub mod Writing
pub mod Steps
pub mod Examples
pub mod CarrierLaws
pub mod HeldLaws
pub mod JoinedLaws
pub mod NextLaws
pub mod RefusalLaws
pub mod WritingLaws
