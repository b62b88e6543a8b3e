-- `word_of_index::settle_cells` meets its contract. It ends because fewer cells are left at each call of itself.
use Rattle.word_of_index.proofs.+settle_cells.Given as goal

-- The cells left.
abbrev pub decreases-settle_cells : goal.decreases-settle_cells
decreases-settle_cells l = l.left
