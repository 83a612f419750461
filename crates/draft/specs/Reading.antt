-- A text that is read, and what stands in the tables then.
use Rattle.std.specs.Prelude.{◌≡◌, ℕ, ◌≤◌, List, length}
use Rattle.grammar.specs.Filled.{outcome}
use Rattle.grammar.specs.Judged.{Lent, limits_of, held, AllUsed}
use Rattle.grammar.specs.declared.judging.Counts.{Counts}
use Rattle.notation.specs.Reading.{read}

-- the tables hold what the text's reading comes to, and 0 past it
pub record Reading (text : List ℕ) (t : Lent) (c : Counts) : Type 0 where
  pub short : length text ≤ 32768
  pub all_read : outcome text (limits_of t) ≡ read (held text c t)
  pub used : AllUsed c t
