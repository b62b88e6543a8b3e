-- Which names of files the system takes, and in which form.
use Rattle.std.specs.Prelude.{◌≡◌, Bool, ◌&&◌, List, ◌++◌, ℕ, ◌-◌, eqb, ltb, Option, position, length, replicate, take, drop, get_or}
use Rattle.std.specs.Option.{unwrap_or}

-- Where the first 0 of a name stands, if it has one.
abbrev pub zero_in : List ℕ → Option ℕ
zero_in name = position (λ b. eqb b 0) name

-- Where the first 0 of a name stands; behind it where there is none.
abbrev pub first_zero : List ℕ → ℕ
first_zero name = unwrap_or (zero_in name) (length name)

-- A name has at most 4095 bytes, none of which is 0: the first 0 would stand behind it.
abbrev pub is_name : List ℕ → Bool
is_name name = ltb (length name) 4096 && eqb (first_zero name) (length name)

-- A name with zeros behind it, 4096 bytes in all.
abbrev pub ended_name : List ℕ → List ℕ
ended_name name = name ++ replicate (4096 - length name) 0

-- The last of the 4096 bytes in which the system reads a name is 0.
abbrev pub Ended : List ℕ → Type 0
Ended bytes = get_or bytes 4095 1 ≡ 0

-- The part of a list from one place to another.
abbrev pub slice : ℕ → ℕ → List ℕ → List ℕ
slice first end l = drop first (take end l)
