-- What the tokens of a text are while it is read.
use Rattle.std.specs.Prelude.{◌≡◌, ℕ, List, [], ◌∷◌, map}
use Rattle.grammar.specs.Source.{sorted, ending_meant}
use Rattle.grammar.specs.declared.piece.Bracket.{Bracket}
use Rattle.grammar.specs.declared.piece.Bracket.TheVariants as bracket_is
use Rattle.grammar.specs.declared.piece.Piece.{Piece}
use Rattle.grammar.specs.declared.piece.Piece.TheVariants as piece_is
use Rattle.grammar.specs.declared.refusal.Refusal.{Refusal}
use Rattle.grammar.specs.declared.refusal.Refusal.TheVariants as refusal_is
use Rattle.grammar.specs.declared.words.Ahead.{Ahead}
use Rattle.grammar.specs.declared.words.Ahead.TheVariants as ahead_is
use Rattle.grammar.specs.declared.words.Word.{Word}
use Rattle.grammar.specs.declared.words.Words.{Words}
use Rattle.lexer.specs.declared.vocabulary.Spelling.{Spelling}
use Rattle.notation.specs.Tokens as notation
use Rattle.notation.specs.Tokens.{Spot, Token, Ending, end, fault}
use Rattle.tables.specs.Meant.{spot_at}
use Rattle.tables.specs.declared.name.Name.{Name}
use Rattle.token.specs.Faults.{fault_number}
use Rattle.token.specs.declared.token.Fault.{Fault}
use Rattle.tokens.specs.Layered.{layered_tokens, layered_ending}

-- the entry of a name that is first met at a word, with no rule yet
abbrev pub name_entry : Word → Name
name_entry w = record { place = w.place; length = w.length; root = 1024 }

-- the entry of a kind that is first met at a word
abbrev pub kind_entry : Word → Spelling
kind_entry w = record { place = w.place; length = w.length }

abbrev pub bracket : Bracket → notation.Bracket
bracket bracket_is.Round = notation.round
bracket bracket_is.Square = notation.square
bracket bracket_is.Curly = notation.curly

abbrev pub piece_token : Piece → Spot → Token
piece_token piece_is.Name s = notation.name s
piece_token piece_is.ClassWord s = notation.terminal notation.class_word s
piece_token piece_is.Spelling s = notation.terminal notation.spelling s
piece_token piece_is.Arrow s = notation.arrow s
piece_token piece_is.Bar s = notation.bar s
piece_token piece_is.Semicolon s = notation.semi s
piece_token (piece_is.Opening b) s = notation.opening (bracket b) s
piece_token (piece_is.Closing b) s = notation.closing (bracket b) s

-- where the text has a token
abbrev pub word_spot : List ℕ → Word → Spot
word_spot text x = spot_at text x.place x.length

abbrev pub word_token : List ℕ → Word → Token
word_token text x = piece_token x.piece (word_spot text x)

-- the tokens to come, and what comes after them
abbrev pub tokens : Words → List Token
tokens w = map (sorted w.text.now) (layered_tokens w.source)

abbrev pub ending : Words → Ending
ending w = ending_meant (layered_ending w.source)

abbrev pub rest_of : List Token → List Token
rest_of [] = []
rest_of (t ∷ ts) = ts

abbrev pub WordTold : Words → Word → Type 0
WordTold w x = tokens w ≡ word_token w.text.now x ∷ rest_of (tokens w)

abbrev pub AheadTold : Words → Ahead → Type 0
AheadTold w (ahead_is.Word x) = WordTold w x
AheadTold w (ahead_is.End p) = (tokens w ≡ []) × (ending w ≡ end p)

abbrev pub Stuck : Words → Fault → Type 0
Stuck w f = (tokens w ≡ []) × (ending w ≡ fault f.place (fault_number f.code))

-- the text has no more tokens, and this is told of it where it may not end
abbrev pub Halted : Words → Refusal → Type 0
Halted w (refusal_is.TooLong x) = ⊥
Halted w (refusal_is.Fault f) = Stuck w f
Halted w (refusal_is.Misplaced p) = (tokens w ≡ []) × (ending w ≡ end p)
Halted w (refusal_is.TooDeep p) = ⊥
Halted w (refusal_is.Misspelt p) = ⊥
Halted w (refusal_is.NamesFull p) = ⊥
Halted w (refusal_is.KindsFull p) = ⊥
Halted w (refusal_is.NodesFull n) = ⊥
Halted w (refusal_is.SecondRule p) = ⊥
Halted w (refusal_is.NoRule p) = ⊥

-- the first token is gone
pub record Advanced (before after : Words) : Type 0 where
  pub rest : tokens after ≡ rest_of (tokens before)
  pub end_same : ending after ≡ ending before
  pub text_same : after.text.now ≡ before.text.now
