-- The line of a grammar's text as it is judged, as bytes.
use Rattle.std.specs.Prelude.{ℕ, cond, List, [], ◌∷◌, ◌++◌, length, Some, None, codes, Option, nat_lt}
use Rattle.grammar.specs.Refusals.{third}
use Rattle.grammar.specs.Source.{grammar_tokens, grammar_ending}
use Rattle.lines.specs.Lines.{labelled, counted, refused_text}
use Rattle.notation.specs.Reading.{Limits, Outcome, read, refused, reading, numbered}

-- the code of a fault, for a refusal that tells one
abbrev pub code_text : Option ℕ → List ℕ
code_text None = []
code_text (Some c) = labelled (codes " code ") c

-- a refusal by its number and values: the number, the first value as the place, and a code if it has one
abbrev pub told_text : List ℕ → List ℕ
told_text r = refused_text r ++ code_text (third r)

-- how much a grammar has: a rule for each name, the nodes of their tree, the kinds of its tokens
abbrev pub sizes_text : (names nodes kinds : ℕ) → List ℕ
sizes_text names nodes kinds = codes "grammar " ++ (counted names (codes " rules ") ++ (counted nodes (codes " nodes ") ++ counted kinds (codes " kinds")))

-- what the reading of a grammar comes to
abbrev pub outcome_text : Outcome → List ℕ
outcome_text (read T) = sizes_text (length T.names) (length T.nodes) (length T.kinds)
outcome_text (refused x) = told_text (numbered x)

-- the most that a grammar can have
abbrev pub standard_limits : Limits
standard_limits = record { names = 64; kinds = 120; nodes = 1024 }

-- the line of a grammar's text: it is too long, or else what its reading comes to
abbrev pub grammar_line : List ℕ → List ℕ
grammar_line text =
    cond (nat_lt 32768 (length text)) (told_text (1 ∷ 32768 ∷ [])) (outcome_text (reading standard_limits (grammar_tokens text) (grammar_ending text)))
