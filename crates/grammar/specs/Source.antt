-- What the notation reads of a text: its tokens without blanks and comments, and its ending.
use Rattle.std.specs.Prelude.{ℕ, Bool, false, cond, List, [], ◌∷◌, map, Some, codes, filter, ◌==◌}
use Rattle.std.specs.Str.{bytes_eq}
use Rattle.notation.specs.Tokens.{round, square, curly, Mark, word, string, arrow_mark, bar_mark, semi_mark, opening_mark, closing_mark, SourceToken, Token, sort, Ending, end, fault}
use Rattle.scanning.specs.Scan.{Scan, scan}
use Rattle.tables.specs.Spots.{cut}
use Rattle.token.specs.Faults.{fault_number}
use Rattle.token.specs.declared.token.Ending.{Ending as TextEnding}
use Rattle.token.specs.declared.token.Ending.TheVariants as ending_is
use Rattle.token.specs.declared.token.Token.{Token as TextToken}
use Rattle.tokens.specs.Layered.{seen}
use Rattle.grammar.specs.Notation.{notation_kinds}

abbrev pub begins_quoted : List ℕ → Bool
begins_quoted [] = false
begins_quoted (x ∷ xs) = x == 34

-- a mark is known by its bytes, a string by its quote, and anything else is a word
abbrev pub mark_of : List ℕ → Mark
mark_of w =
    cond (bytes_eq w (codes "->")) arrow_mark
    (cond (bytes_eq w (codes "|")) bar_mark
    (cond (bytes_eq w (codes ";")) semi_mark
    (cond (bytes_eq w (codes "(")) (opening_mark round)
    (cond (bytes_eq w (codes "[")) (opening_mark square)
    (cond (bytes_eq w (codes "{")) (opening_mark curly)
    (cond (bytes_eq w (codes ")")) (closing_mark round)
    (cond (bytes_eq w (codes "]")) (closing_mark square)
    (cond (bytes_eq w (codes "}")) (closing_mark curly)
    (cond (begins_quoted w) string word)))))))))

abbrev pub source_token : List ℕ → TextToken → SourceToken
source_token text t =
    let w = cut text t.place t.length in
    record { mark = mark_of w; bytes = w; place = t.place }

abbrev pub sorted : List ℕ → TextToken → Token
sorted text t = sort (source_token text t)

abbrev pub ending_meant : TextEnding → Ending
ending_meant (ending_is.End p) = end p
ending_meant (ending_is.Fault f) = fault f.place (fault_number f.code)

-- the text, cut by the notation's own words and marks
abbrev pub scanned : List ℕ → Scan
scanned text = scan (map Some notation_kinds) text

abbrev pub grammar_tokens : List ℕ → List SourceToken
grammar_tokens text = map (source_token text) (filter seen (scanned text).tokens)

abbrev pub grammar_ending : List ℕ → Ending
grammar_ending text = ending_meant (scanned text).ending
