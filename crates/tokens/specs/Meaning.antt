-- What the list source and the text source mean, by their fields.
use Rattle.std.specs.Prelude.{◌≡◌, ℕ, ◌≤◌, List, length, drop}
use Rattle.std.specs.List.{AllByRecursion}
use Rattle.tokens.specs.Held.{with_held, held_ending}
use Rattle.scanning.specs.Laws.{WellCut, OnlyCut}
use Rattle.tokens.specs.Layer.{held_kinds}
use Rattle.tokens.specs.Listed.{listed, listed_ending, WellListed}
use Rattle.scanning.specs.Ranges.{scan_kinds}
use Rattle.scanning.specs.Scan.{Scan, scan, scan_from}
use Rattle.scanning.specs.Scan.{KindFits}
use Rattle.lexer.specs.Vocabulary.{Lexicon, lexicon}
use Rattle.tokens.specs.declared.list.ListSource.{ListSource}
use Rattle.tokens.specs.declared.text.TextSource.{TextSource}
use Rattle.token.specs.declared.token.Ending.{Ending}
use Rattle.token.specs.declared.token.Token.{Token}

abbrev pub list_tokens : ListSource → List Token
list_tokens s = listed s.place (drop s.place s.kinds.now)

abbrev pub list_ending : ListSource → Ending
list_ending s = listed_ending s.place (drop s.place s.kinds.now)

-- the source of a table as it is made
pub record Lists (ks : List ℕ) (s : ListSource) : Type 0 where
  pub tokens : list_tokens s ≡ listed 0 ks
  pub ending : list_ending s ≡ listed_ending 0 ks
  pub input : s.kinds.now ≡ ks
  pub law : WellListed ks (list_tokens s) (list_ending s)

-- what a text source has not lexed yet
abbrev pub unlexed : TextSource → Scan
unlexed s = scan_from (lexicon s.vocabulary) (drop s.ahead.place s.text.now) s.ahead.place

abbrev pub text_tokens : TextSource → List Token
text_tokens s = with_held s.ahead.next (unlexed s).tokens

abbrev pub text_ending : TextSource → Ending
text_ending s = held_ending s.ahead.next (unlexed s).ending

-- the source of a text as it is made: it means the text's scan, which is the one list of tokens and the one
-- ending that cut the text well
pub record Scans (x : Lexicon) (text : List ℕ) (s : TextSource) : Type 0 where
  pub short : length text ≤ 32768
  pub tokens : text_tokens s ≡ (scan x text).tokens
  pub ending : text_ending s ≡ (scan x text).ending
  pub input : s.text.now ≡ text
  pub law : WellCut x text (text_tokens s) (text_ending s)
  pub only : OnlyCut x text (text_tokens s) (text_ending s)

-- the law of kinds, for the text source
pub text_kinds : (s : TextSource) → AllByRecursion KindFits (text_tokens s)
text_kinds s = held_kinds (record { next = s.ahead.next; fits = s.fits }) (unlexed s).tokens (scan_kinds (lexicon s.vocabulary) (drop s.ahead.place s.text.now) 0 s.ahead.place)
