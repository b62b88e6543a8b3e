-- One holds what both proofs use of the constant.
mod One
