-- What unused places of a table hold, and how a parser says that its roots are small.
use Rattle.std.specs.Prelude.{ℕ, ◌<◌, List, [], ◌∷◌}
use Rattle.std.specs.Coded.{×_prop, Unit-prop, le_prop}
use Rattle.lexer.specs.declared.vocabulary.Spelling.{Spelling}
use Rattle.notation.specs.Statements.{Each}
use Rattle.tables.specs.declared.name.Name.{Name}

abbrev pub zero_name : Name
zero_name = record { place = 0; length = 0; root = 0 }

abbrev pub zero_spelling : Spelling
zero_spelling = record { place = 0; length = 0 }

-- small numbers, which a list has in one way at most, as a ghost field wants it
abbrev pub AllSmall : List ℕ → Type 0
AllSmall ns = Each (λ n. n < 1024) ns

pub small_prop : (ns : List ℕ) → IsProp (AllSmall ns)
small_prop [] = Unit-prop
small_prop (n ∷ ns) = ×_prop le_prop (small_prop ns)
