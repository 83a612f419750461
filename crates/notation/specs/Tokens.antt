-- The tokens that the notation is read from.
use Rattle.std.specs.Prelude.{ℕ, Bool, true, false, cond, ◌&&◌, ◌||◌, List, [], ◌∷◌, codes}
use Rattle.std.specs.Char.{is_ascii_alphabetic}
use Rattle.std.specs.Str.{bytes_eq}
use Rattle.lexer.specs.Bytes.{in_word, sign}

-- the three brackets: ( ), [ ] and { }
pub data Bracket : Type 0 where
  round square curly : Bracket

-- what the source tells of a token
pub data Mark : Type 0 where
  word string arrow_mark bar_mark semi_mark : Mark
  opening_mark closing_mark : Bracket → Mark

pub record SourceToken : Type 0 where
  pub mark : Mark
  pub bytes : List ℕ
  pub place : ℕ

-- where a token stands, and how it is written
pub record Spot : Type 0 where
  pub bytes : List ℕ
  pub place : ℕ

-- what stands for a kind: a class word, or a spelling in quotes
pub data Terminal : Type 0 where
  class_word spelling : Terminal

-- a token as the notation knows it: a word is a class word or a name
pub data Token : Type 0 where
  name : Spot → Token
  terminal : Terminal → Spot → Token
  arrow : Spot → Token
  bar : Spot → Token
  semi : Spot → Token
  opening : Bracket → Spot → Token
  closing : Bracket → Spot → Token

-- WORD, NUMBER and STRING
abbrev pub is_class_word : List ℕ → Bool
is_class_word w = bytes_eq w (codes "WORD") || (bytes_eq w (codes "NUMBER") || bytes_eq w (codes "STRING"))

abbrev pub sort : SourceToken → Token
sort t =
    let s : Spot = record { bytes = t.bytes; place = t.place } in
    elim t.mark [
      | word ↦ cond (is_class_word t.bytes) (terminal class_word s) (name s)
      | string ↦ terminal spelling s
      | arrow_mark ↦ arrow s
      | bar_mark ↦ bar s
      | semi_mark ↦ semi s
      | opening_mark b ↦ opening b s
      | closing_mark b ↦ closing b s
    ]

abbrev pub spot : Token → Spot
spot (name s) = s
spot (terminal k s) = s
spot (arrow s) = s
spot (bar s) = s
spot (semi s) = s
spot (opening b s) = s
spot (closing b s) = s

-- what comes after the last token
pub data Ending : Type 0 where
  end : ℕ → Ending
  fault : ℕ → ℕ → Ending  -- place, code

abbrev pub all_word_bytes : List ℕ → Bool
all_word_bytes [] = true
all_word_bytes (x ∷ xs) = in_word x && all_word_bytes xs

-- a word: a letter, and letters, digits and underscores after it
abbrev pub is_word : List ℕ → Bool
is_word [] = false
is_word (x ∷ xs) = is_ascii_alphabetic x && all_word_bytes xs

-- one or two sign bytes
abbrev pub is_signs : List ℕ → Bool
is_signs [] = false
is_signs (x ∷ []) = sign x
is_signs (x ∷ y ∷ []) = sign x && sign y
is_signs (x ∷ y ∷ z ∷ rest) = false

-- without the last
abbrev pub front : List ℕ → List ℕ
front [] = []
front (x ∷ []) = []
front (x ∷ y ∷ ys) = x ∷ front (y ∷ ys)

-- what stands between the quotes
abbrev pub inner : List ℕ → List ℕ
inner [] = []
inner (q ∷ rest) = front rest

-- a quoted spelling is a word or one or two sign bytes
abbrev pub is_spelling : List ℕ → Bool
is_spelling b = is_word (inner b) || is_signs (inner b)
