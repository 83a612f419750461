-- What a token is in the notation, by how it is written.
use Rattle.std.specs.Prelude.{◌≡◌, ℕ, ◌<◌, ◌⊎◌, List, length, codes, ◌≢◌, slice_index}
use Rattle.grammar.specs.declared.piece.Bracket.{Bracket}
use Rattle.grammar.specs.declared.piece.Bracket.TheVariants as bracket_is
use Rattle.grammar.specs.declared.piece.Piece.{Piece}
use Rattle.grammar.specs.declared.piece.Piece.TheVariants as piece_is

abbrev pub opening_mark : Bracket → List ℕ
opening_mark bracket_is.Round = codes "("
opening_mark bracket_is.Square = codes "["
opening_mark bracket_is.Curly = codes "{"

abbrev pub closing_mark : Bracket → List ℕ
closing_mark bracket_is.Round = codes ")"
closing_mark bracket_is.Square = codes "]"
closing_mark bracket_is.Curly = codes "}"

abbrev pub IsClassWord : List ℕ → Type 0
IsClassWord w = (w ≡ codes "WORD") ⊎ ((w ≡ codes "NUMBER") ⊎ (w ≡ codes "STRING"))

-- a mark of the notation
pub record NoMark (w : List ℕ) : Type 0 where
  pub no_arrow : w ≡ codes "->" → ⊥
  pub no_bar : w ≡ codes "|" → ⊥
  pub no_semicolon : w ≡ codes ";" → ⊥
  pub no_opening : (b : Bracket) → w ≢ opening_mark b
  pub no_closing : (b : Bracket) → w ≢ closing_mark b

-- begins with a quote
abbrev pub Quoted : List ℕ → Type 0
Quoted w = (0 < length w) × (slice_index w 0 ≡ 34)

-- the piece that is written as w
abbrev pub Pieced : List ℕ → Piece → Type 0
Pieced w piece_is.Name = (IsClassWord w → ⊥) × (Quoted w → ⊥) × NoMark w
Pieced w piece_is.ClassWord = IsClassWord w
Pieced w piece_is.Spelling = Quoted w
Pieced w piece_is.Arrow = w ≡ codes "->"
Pieced w piece_is.Bar = w ≡ codes "|"
Pieced w piece_is.Semicolon = w ≡ codes ";"
Pieced w (piece_is.Opening b) = w ≡ opening_mark b
Pieced w (piece_is.Closing b) = w ≡ closing_mark b
