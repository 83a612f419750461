-- Every kind that a scan gives is one of 1 to 122.
use Rattle.std.specs.Prelude.{ℕ, zero, suc, ◌+◌, ◌-◌, ◌<◌, ◌≤◌, Bool, List, [], ◌∷◌, length, take, Some, None, Ok, Err, codes, Option, Result, nat_lt}
use Rattle.std.proofs.Common.{arith, length-take}
use Rattle.std.specs.List.{AllByRecursion}
use Rattle.std.proofs.lemmas.Bool.{cond_both}
use Rattle.lexer.specs.Bytes.{sign, class}
use Rattle.lexer.specs.Lexeme.{named, judged, or_else, word_kind, string_length, string_lexeme, pair_kind, one_sign, two_or_one, sign_lexeme, by_class, front}
use Rattle.scanning.specs.Scan.{KindFits, Scan, after_lexeme, scan_bytes}
use Rattle.lexer.specs.Vocabulary.{Lexicon, quoted, reads, first_from, kind_of}
use Rattle.lexer.specs.declared.bytes.ByteClass.{ByteClass}
use Rattle.lexer.specs.declared.bytes.ByteClass.TheVariants as class_is
use Rattle.lexer.specs.declared.lexeme.Lexeme.{Lexeme}
use Rattle.token.specs.declared.token.FaultCode.{FaultCode}

abbrev Between : ℕ → ℕ → Option ℕ → Type 0
Between low end None = Unit {0}
Between low end (Some k) = (low ≤ k) × (k < end)

wider : (low end to : ℕ) (o : Option ℕ) → end ≤ to → Between (low + 1) end o → Between low to o
wider low end to None h b = tt
wider low end to (Some k) h b = (omega (arith, b.0), omega (arith, b.1))

first_between : {X : Type 0} (p : X → Bool) (xs : List X) (k : ℕ) → Between k (k + length xs) (first_from p xs k)
first_between p [] k = tt
first_between p (x ∷ xs) k =
    cond_both (p x) (Some k) (first_from p xs (k + 1)) (Between k (k + length (x ∷ xs)))
    (λ e. (omega arith, omega arith))
    (λ e. wider k (k + 1 + length xs) (k + length (x ∷ xs)) (first_from p xs (k + 1)) (omega arith) (first_between p xs (k + 1)))

abbrev GrammarKind : Option ℕ → Type 0
GrammarKind None = Unit {0}
GrammarKind (Some k) = (1 ≤ k) × (k ≤ 120)

abbrev pub LexemeFits : Result Lexeme FaultCode → Type 0
LexemeFits (Ok l) = (1 ≤ l.kind) × (l.kind ≤ 122)
LexemeFits (Err c) = Unit {0}

module _ (x : Lexicon) where
  kind_fits : (w : List ℕ) → GrammarKind (kind_of x w)
  kind_fits w = go (kind_of x w) (first_between (λ o. reads o w) (take 120 x) 1)
    where
      go : (o : Option ℕ) → Between 1 (1 + length (take 120 x)) o → GrammarKind o
      go None b = tt
      go (Some k) b = (b.0, omega (arith, b.1, length-take 120 x))

  judged_fits : (n : ℕ) (o : Option ℕ) → GrammarKind o → LexemeFits (judged n o)
  judged_fits n o h = cond_both (nat_lt 255 n) _ _ LexemeFits (λ e. tt) (λ e. go o h)
    where
      go : (o : Option ℕ) → GrammarKind o → LexemeFits (named n o)
      go None h = tt
      go (Some k) h = (h.0, omega (arith, h.1))

  word_fits : (w : List ℕ) → GrammarKind (word_kind x w)
  word_fits w = go (kind_of x (quoted w)) (kind_fits (quoted w))
    where
      go : (o : Option ℕ) → GrammarKind o → GrammarKind (or_else o (kind_of x (codes "WORD")))
      go None h = kind_fits (codes "WORD")
      go (Some k) h = h

  string_fits : (o : Option ℕ) → LexemeFits (string_lexeme x o)
  string_fits None = tt
  string_fits (Some n) = judged_fits n _ (kind_fits (codes "STRING"))

  one_fits : (a : ℕ) → LexemeFits (one_sign x a)
  one_fits a = judged_fits 1 _ (kind_fits (quoted (a ∷ [])))

  sign_fits : (bs : List ℕ) → LexemeFits (sign_lexeme x bs)
  sign_fits [] = tt
  sign_fits (a ∷ []) = one_fits a
  sign_fits (a ∷ b ∷ bs) = go (pair_kind x a b) (cond_both (sign b) _ None GrammarKind (λ e. kind_fits (quoted (a ∷ b ∷ []))) (λ e. tt))
    where
      go : (o : Option ℕ) → GrammarKind o → LexemeFits (two_or_one o (one_sign x a))
      go None h = one_fits a
      go (Some k) h = (h.0, omega (arith, h.1))

  class_fits : (c : ByteClass) (b : ℕ) (bs : List ℕ) → LexemeFits (by_class x c b bs)
  class_fits class_is.Blank b bs = (omega arith, omega arith)
  class_fits class_is.Comment b bs = (omega arith, omega arith)
  class_fits class_is.Word b bs = judged_fits _ _ (word_fits _)
  class_fits class_is.Number b bs = judged_fits _ _ (kind_fits (codes "NUMBER"))
  class_fits class_is.Quote b bs = string_fits (string_length bs)
  class_fits class_is.Sign b bs = sign_fits (b ∷ bs)
  class_fits class_is.Nothing b bs = tt

  pub front_fits : (bs : List ℕ) → LexemeFits (front x bs)
  front_fits [] = tt
  front_fits (b ∷ bs) = class_fits (class b) b bs

  after_fits : (p : ℕ) (r : Result Lexeme FaultCode) (go_on : ℕ → Scan) → LexemeFits r → ((n : ℕ) → AllByRecursion KindFits (go_on n).tokens) → AllByRecursion KindFits (after_lexeme p r go_on).tokens
  after_fits p (Ok l) go_on f more = (f, more (l.length - 1))
  after_fits p (Err c) go_on f more = tt

  pub scan_kinds : (bs : List ℕ) (inside p : ℕ) → AllByRecursion KindFits (scan_bytes x bs inside p).tokens
  scan_kinds [] inside p = tt
  scan_kinds (b ∷ bs) (suc inside) p = scan_kinds bs inside (p + 1)
  scan_kinds (b ∷ bs) zero p = after_fits p (front x (b ∷ bs)) _ (front_fits (b ∷ bs)) (λ n. scan_kinds bs n (p + 1))
