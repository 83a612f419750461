-- Parts of a text.
use Rattle.std.specs.Prelude.{ℕ, ◌+◌, cond, List, length, take, drop, Some, None, Option, nat_le}

-- n bytes from place p on, or none where they reach past the end
abbrev pub part_of : List ℕ → ℕ → ℕ → Option (List ℕ)
part_of bs p n = cond (nat_le (p + n) (length bs)) (Some (take n (drop p bs))) None
