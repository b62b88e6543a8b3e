-- Messages: which words carry one, and how long it is.
use Rattle.std.specs.Prelude.{cond, ℕ, zero, suc, ◌-◌, ◌*◌, ◌^◌, ◌≤◌, ◌<◌, leb}
use Rattle.code.specs.Code.{N}

-- The words of all 0 and of all top carry no message.
abbrev pub words_kept_out : ℕ
words_kept_out = 2

-- The largest s up to a bound with 2^s at most n; 0 where there is none.
abbrev pub largest_power : ℕ → ℕ → ℕ
largest_power zero n = 0
largest_power (suc b) n = cond (leb (2 ^ suc b) n) (suc b) (largest_power b n)

-- The message length s: the largest whole number with 2^s at most N(m) - 2. It is at most q m, since N(m) is at most q^m.
unfoldable pub message_length : ℕ → ℕ → ℕ → ℕ
message_length q x m = largest_power (q * m) (N q x m - words_kept_out)

-- s is the largest number with 2^s at most n.
pub record Largest (n s : ℕ) : Type 0 where
  pub fits : 2 ^ s ≤ n
  pub most : n < 2 ^ suc s
