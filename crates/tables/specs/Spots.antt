-- Parts of the text, by place and length.
use Rattle.std.specs.Prelude.{ℕ, List, take, drop}

-- n bytes from place p on, as far as the text goes
abbrev pub cut : List ℕ → ℕ → ℕ → List ℕ
cut text p n = take n (drop p text)
