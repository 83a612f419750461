-- The token at the front of a text.
use Rattle.std.specs.Prelude.{ℕ, ◌+◌, cond, List, [], ◌∷◌, take, Some, None, Ok, Err, codes, Option, Result, ◌==◌, nat_lt, slice_index}
use Rattle.std.specs.List.{prefix_len}
use Rattle.std.specs.Char.{is_ascii_digit}
use Rattle.lexer.specs.Bytes.{blank, in_word, in_comment, in_string, sign, class, quote}
use Rattle.lexer.specs.Vocabulary.{Lexicon, kind_of, quoted}
use Rattle.lexer.specs.declared.bytes.ByteClass.{ByteClass}
use Rattle.lexer.specs.declared.bytes.ByteClass.TheVariants as class_is
use Rattle.lexer.specs.declared.lexeme.Lexeme.{Lexeme}
use Rattle.token.specs.declared.token.FaultCode.{FaultCode}
use Rattle.token.specs.declared.token.FaultCode.TheVariants.{BeginsNothing, Unclosed, Oversized, NoKind}

abbrev pub named : ℕ → Option ℕ → Result Lexeme FaultCode
named n None = Err NoKind
named n (Some k) = Ok (record { kind = k; length = n })

-- a token of n bytes, given the kind that the grammar has for it
abbrev pub judged : ℕ → Option ℕ → Result Lexeme FaultCode
judged n k = cond (nat_lt 255 n) (Err Oversized) (named n k)

abbrev pub or_else : Option ℕ → Option ℕ → Option ℕ
or_else None other = other
or_else (Some k) other = Some k

-- the kind of the word's spelling, else of the class of words
abbrev pub word_kind : Lexicon → List ℕ → Option ℕ
word_kind x w = or_else (kind_of x (quoted w)) (kind_of x (codes "WORD"))

-- by what follows a string's first quote: its length, both quotes counted, if it is closed on its line
abbrev pub string_length : List ℕ → Option ℕ
string_length inside = let n = prefix_len in_string inside in cond (slice_index inside n == quote) (Some (n + 2)) None

abbrev pub string_lexeme : Lexicon → Option ℕ → Result Lexeme FaultCode
string_lexeme x None = Err Unclosed
string_lexeme x (Some n) = judged n (kind_of x (codes "STRING"))

abbrev pub one_sign : Lexicon → ℕ → Result Lexeme FaultCode
one_sign x a = judged 1 (kind_of x (quoted (a ∷ [])))

abbrev pub two_or_one : Option ℕ → Result Lexeme FaultCode → Result Lexeme FaultCode
two_or_one None one = one
two_or_one (Some k) one = Ok (record { kind = k; length = 2 })

-- the kind of two sign bytes, if the grammar spells the pair
abbrev pub pair_kind : Lexicon → ℕ → ℕ → Option ℕ
pair_kind x a b = cond (sign b) (kind_of x (quoted (a ∷ b ∷ []))) None

-- two sign bytes if the grammar spells the pair, else one
abbrev pub sign_lexeme : Lexicon → List ℕ → Result Lexeme FaultCode
sign_lexeme x [] = Err BeginsNothing
sign_lexeme x (a ∷ []) = one_sign x a
sign_lexeme x (a ∷ b ∷ bs) = two_or_one (pair_kind x a b) (one_sign x a)

-- the token that a byte of this class begins, with the bytes after it
abbrev pub by_class : Lexicon → ByteClass → ℕ → List ℕ → Result Lexeme FaultCode
by_class x class_is.Blank b bs = Ok (record { kind = 121; length = prefix_len blank (b ∷ bs) })
by_class x class_is.Comment b bs = Ok (record { kind = 122; length = prefix_len in_comment (b ∷ bs) })
by_class x class_is.Word b bs = let n = prefix_len in_word (b ∷ bs) in judged n (word_kind x (take n (b ∷ bs)))
by_class x class_is.Number b bs = judged (prefix_len is_ascii_digit (b ∷ bs)) (kind_of x (codes "NUMBER"))
by_class x class_is.Quote b bs = string_lexeme x (string_length bs)
by_class x class_is.Sign b bs = sign_lexeme x (b ∷ bs)
by_class x class_is.Nothing b bs = Err BeginsNothing

-- the token at the front of a text
abbrev pub front : Lexicon → List ℕ → Result Lexeme FaultCode
front x [] = Err BeginsNothing
front x (b ∷ bs) = by_class x (class b) b bs
