-- What holds of a text that is cut into tokens, in the words of the subject.
use Rattle.std.specs.Prelude.{◌≡◌, ℕ, ◌+◌, ◌<◌, ◌≤◌, Bool, true, false, ◌⊎◌, List, [], ◌∷◌, length, take, drop, Some, None, codes, Option, nat_eq, slice_index, slice_index_or}
use Rattle.std.specs.Char.{is_ascii_alphabetic, is_ascii_digit}
use Rattle.std.specs.List.{AllByRecursion}
use Rattle.lexer.specs.Bytes.{blank, sign, in_word, in_comment, in_string, quote, hash, newline}
use Rattle.scanning.specs.Scan.{ending_place}
use Rattle.lexer.specs.Vocabulary.{Lexicon, kind_of, quoted}
use Rattle.token.specs.declared.token.Ending.{Ending}
use Rattle.token.specs.declared.token.Ending.TheVariants.{End, Fault}
use Rattle.token.specs.declared.token.FaultCode.{FaultCode}
use Rattle.token.specs.declared.token.FaultCode.TheVariants.{BeginsNothing, Unclosed, Oversized, NoKind}
use Rattle.token.specs.declared.token.Token.{Token}

-- the first n bytes pass, and no more of them do: n is some number
pub record Longest (p : ℕ → Bool) (bs : List ℕ) (n : ℕ) : Type 0 where
  pub some : 0 < n
  pub within : n ≤ length bs
  pub all : (i : ℕ) → i < n → p (slice_index bs i) ≡ true
  pub stops : n < length bs → p (slice_index bs n) ≡ false

-- m bytes inside two quotes, none of them a quote or a newline
pub record Closed (bs : List ℕ) (m : ℕ) : Type 0 where
  pub opens : slice_index_or bs 0 0 ≡ quote
  pub inside : (i : ℕ) → i < m → in_string (slice_index bs (1 + i)) ≡ true
  pub closes : slice_index_or bs (1 + m) 0 ≡ quote
  pub within : m + 2 ≤ length bs

-- m bytes after a quote, none of them a quote or a newline, and then a newline or the end
pub record OpenString (bs : List ℕ) (m : ℕ) : Type 0 where
  pub opens : slice_index_or bs 0 0 ≡ quote
  pub inside : (i : ℕ) → i < m → in_string (slice_index bs (1 + i)) ≡ true
  pub breaks : (length bs ≡ 1 + m) ⊎ (slice_index bs (1 + m) ≡ newline)

-- a word's kind is that of its spelling, else that of the class of words
pub data WordKind (x : Lexicon) (w : List ℕ) : Option ℕ → Type 0 where
  spelt : {k : ℕ} → kind_of x (quoted w) ≡ Some k → WordKind x w (Some k)
  not_spelt : {o : Option ℕ} → kind_of x (quoted w) ≡ None → kind_of x (codes "WORD") ≡ o → WordKind x w o

-- a token at the front that the grammar is asked for: its length, and the kind that the grammar has for it, if any
pub data Asked (x : Lexicon) (bs : List ℕ) : ℕ → Option ℕ → Type 0 where
  word : {n : ℕ} {o : Option ℕ} → is_ascii_alphabetic (slice_index bs 0) ≡ true → Longest in_word bs n → WordKind x (take n bs) o → Asked x bs n o
  number : {n : ℕ} {o : Option ℕ} → Longest is_ascii_digit bs n → kind_of x (codes "NUMBER") ≡ o → Asked x bs n o
  string : {m : ℕ} {o : Option ℕ} → Closed bs m → kind_of x (codes "STRING") ≡ o → Asked x bs (m + 2) o
  pair : {k : ℕ} → 2 ≤ length bs → sign (slice_index bs 0) ≡ true → sign (slice_index bs 1) ≡ true → kind_of x (quoted (take 2 bs)) ≡ Some k → Asked x bs 2 (Some k)
  single : {o : Option ℕ} → 1 ≤ length bs → sign (slice_index bs 0) ≡ true → (2 ≤ length bs → sign (slice_index bs 1) ≡ true → kind_of x (quoted (take 2 bs)) ≡ None) → kind_of x (quoted (take 1 bs)) ≡ o → Asked x bs 1 o

-- a token at the front, by kind and length
pub data Stands (x : Lexicon) (bs : List ℕ) : ℕ → ℕ → Type 0 where
  blanks : {n : ℕ} → Longest blank bs n → Stands x bs 121 n
  comment : {n : ℕ} → slice_index bs 0 ≡ hash → Longest in_comment bs n → Stands x bs 122 n
  asked : {k n : ℕ} → Asked x bs n (Some k) → n ≤ 255 → Stands x bs k n

-- no token can begin with the byte
pub record BeginsNone (b : ℕ) : Type 0 where
  pub no_blank : blank b ≡ false
  pub no_hash : nat_eq b hash ≡ false
  pub no_letter : is_ascii_alphabetic b ≡ false
  pub no_digit : is_ascii_digit b ≡ false
  pub no_quote : nat_eq b quote ≡ false
  pub no_sign : sign b ≡ false

-- a fault at the front, by its code
pub data Faulty (x : Lexicon) (bs : List ℕ) : FaultCode → Type 0 where
  begins_nothing : BeginsNone (slice_index bs 0) → Faulty x bs BeginsNothing
  unclosed : {m : ℕ} → OpenString bs m → Faulty x bs Unclosed
  too_long : {n : ℕ} {o : Option ℕ} → Asked x bs n o → 255 < n → Faulty x bs Oversized
  no_kind : {n : ℕ} → Asked x bs n None → n ≤ 255 → Faulty x bs NoKind

-- each token begins where the one before it ended, the first at `from`, and the last ends at `to`
abbrev pub Tiles : ℕ → List Token → ℕ → Type 0
Tiles from [] to = from ≡ to
Tiles from (t ∷ ts) to = (t.place ≡ from) × (0 < t.length) × Tiles (from + t.length) ts to

-- the end stands at the text's end, and a fault where its token begins
abbrev pub Ends : Lexicon → List ℕ → Ending → Type 0
Ends x bs (End p) = p ≡ length bs
Ends x bs (Fault f) = (f.place < length bs) × Faulty x (drop f.place bs) f.code

-- the tokens tile the text up to the ending, each stands in it, and the ending fits
pub record WellCut (x : Lexicon) (bs : List ℕ) (ts : List Token) (e : Ending) : Type 0 where
  pub tiles : Tiles 0 ts (ending_place e)
  pub each : AllByRecursion (λ t. Stands x (drop t.place bs) t.kind t.length) ts
  pub ends : Ends x bs e

-- no other list of tokens and no other ending cut the text well
abbrev pub OnlyCut : Lexicon → List ℕ → List Token → Ending → Type 0
OnlyCut x text ts e = (us : List Token) (f : Ending) → WellCut x text us f → (us ≡ ts) × (f ≡ e)
