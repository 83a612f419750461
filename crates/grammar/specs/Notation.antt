-- The kinds of the notation, from 1 on: two classes, and the marks in quotes.
use Rattle.std.specs.Prelude.{ℕ, List, [], ◌∷◌, map, codes}
use Rattle.lexer.specs.Vocabulary.{quoted}

abbrev pub notation_kinds : List (List ℕ)
notation_kinds =
    codes "WORD" ∷ codes "STRING"
    ∷ map quoted (codes "->" ∷ codes ";" ∷ codes "|" ∷ codes "(" ∷ codes ")" ∷ codes "[" ∷ codes "]" ∷ codes "{" ∷ codes "}" ∷ [])
