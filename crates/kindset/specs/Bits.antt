-- The bits of a number.
use Rattle.std.specs.Prelude.{ℕ, ◌/◌, ◌%◌, ◌^◌}

-- 1 if bit m of s is set, else 0
abbrev pub bit : ℕ → ℕ → ℕ
bit s m = s / 2 ^ m % 2
