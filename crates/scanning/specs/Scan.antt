-- A text cut into tokens.
use Rattle.std.specs.Prelude.{ℕ, zero, suc, ◌+◌, ◌-◌, ◌≤◌, List, [], ◌∷◌, Ok, Err, Result}
use Rattle.lexer.specs.Lexeme.{front}
use Rattle.lexer.specs.Vocabulary.{Lexicon}
use Rattle.lexer.specs.declared.lexeme.Lexeme.{Lexeme}
use Rattle.token.specs.declared.token.Ending.{Ending}
use Rattle.token.specs.declared.token.Ending.TheVariants.{End, Fault}
use Rattle.token.specs.declared.token.FaultCode.{FaultCode}
use Rattle.token.specs.declared.token.Token.{Token}

-- the tokens of a text, and what it comes to after them
pub record Scan : Type 0 where
  pub tokens : List Token
  pub ending : Ending

abbrev pub ending_place : Ending → ℕ
ending_place (End p) = p
ending_place (Fault f) = f.place

-- a token's kind is one of 1 to 122
abbrev pub KindFits : Token → Type 0
KindFits t = (1 ≤ t.kind) × (t.kind ≤ 122)

abbrev pub token_at : ℕ → Lexeme → Token
token_at p l = record { kind = l.kind; place = p; length = l.length }

-- a token, and then what comes after its bytes; or a fault
abbrev pub after_lexeme : ℕ → Result Lexeme FaultCode → (ℕ → Scan) → Scan
after_lexeme p (Ok l) go_on = let s = go_on (l.length - 1) in record { tokens = token_at p l ∷ s.tokens; ending = s.ending }
after_lexeme p (Err c) go_on = record { tokens = []; ending = Fault (record { code = c; place = p }) }

-- byte by byte, from place p on: the next `inside` bytes belong to the token before
abbrev pub scan_bytes : Lexicon → List ℕ → ℕ → ℕ → Scan
scan_bytes x [] inside p = record { tokens = []; ending = End p }
scan_bytes x (b ∷ bs) (suc inside) p = scan_bytes x bs inside (p + 1)
scan_bytes x (b ∷ bs) zero p = after_lexeme p (front x (b ∷ bs)) (λ inside. scan_bytes x bs inside (p + 1))

-- the tokens and the ending of what is left of a text from place p on
abbrev pub scan_from : Lexicon → List ℕ → ℕ → Scan
scan_from x bs p = scan_bytes x bs 0 p

-- the tokens and the ending of a text
abbrev pub scan : Lexicon → List ℕ → Scan
scan x text = scan_from x text 0
