-- Demand1, Demand2 and Demand3 hold the theorems, Outcomes the words in which they speak, OneOutcome that a promise leaves no second outcome,
-- MarkedExamples the examples of document 01; the other files hold the laws behind them.
pub mod Outcomes
pub mod Demand1
pub mod Demand2
pub mod Demand3
pub mod OneOutcome
pub mod MarkedExamples
pub mod OutcomeLaws
pub mod CarryingLaws
pub mod WritingLaws
pub mod JoiningLaws
pub mod ReadingLaws
pub mod TripLaws
