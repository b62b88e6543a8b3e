-- `word_of_index::settle_small` meets its contract. It ends because fewer cells are left at each call of itself.
use Rattle.word_of_index.proofs.+settle_small.Given as goal

-- The cells left.
abbrev pub decreases-settle_small : goal.decreases-settle_small
decreases-settle_small l = l.left
