-- What readers see of a text: its tokens without blanks and comments.
use Rattle.std.specs.Prelude.{◌≡◌, ℕ, ◌≤◌, Bool, not, ◌||◌, List, length, filter, ◌==◌}
use Rattle.tokens.specs.Held.{with_held, held_ending}
use Rattle.tokens.specs.Layer.{without}
use Rattle.tokens.specs.Meaning.{text_tokens, text_ending}
use Rattle.scanning.specs.Scan.{scan}
use Rattle.lexer.specs.Vocabulary.{Lexicon}
use Rattle.tokens.specs.declared.skipping.Skipping.{Skipping}
use Rattle.tokens.specs.declared.text.TextSource.{TextSource}
use Rattle.token.specs.declared.token.Ending.{Ending}
use Rattle.token.specs.declared.token.Token.{Token}

-- a token that is neither a blank nor a comment
abbrev pub seen : Token → Bool
seen t = not (t.kind == 121 || t.kind == 122)

abbrev pub layered_tokens : Skipping TextSource → List Token
layered_tokens s = with_held s.held (without s.skipped (text_tokens s.source))

abbrev pub layered_ending : Skipping TextSource → Ending
layered_ending s = held_ending s.held (text_ending s.source)

-- the layered source of a text as it is made; it has at most as many tokens as the text has bytes
pub record Layered (x : Lexicon) (text : List ℕ) (s : Skipping TextSource) : Type 0 where
  pub short : length text ≤ 32768
  pub tokens : layered_tokens s ≡ filter seen (scan x text).tokens
  pub ending : layered_ending s ≡ (scan x text).ending
  pub input : s.source.text.now ≡ text
  pub few : length (layered_tokens s) ≤ length text
