-- The classes of bytes.
use Rattle.std.specs.Prelude.{ℕ, Bool, cond, not, ◌&&◌, ◌||◌, ◌==◌}
use Rattle.std.specs.Char.{is_ascii_alphabetic, is_ascii_digit, is_ascii_alphanumeric, is_ascii_punctuation}
use Rattle.lexer.specs.declared.bytes.ByteClass.{ByteClass}
use Rattle.lexer.specs.declared.bytes.ByteClass.TheVariants as class_is
use Rattle.lexer.specs.declared.bytes.Run.{Run}
use Rattle.lexer.specs.declared.bytes.Run.TheVariants as run_is

abbrev pub newline : ℕ
newline = 10

abbrev pub quote : ℕ
quote = 34

abbrev pub hash : ℕ
hash = 35

abbrev pub underscore : ℕ
underscore = 95

abbrev pub blank : ℕ → Bool
blank b = b == 32 || (b == 9 || (b == 13 || b == newline))

-- the ASCII punctuation marks without " # ' \ _ and the backquote
abbrev pub sign : ℕ → Bool
sign b = is_ascii_punctuation b && (not (b == quote) && (not (b == hash) && (not (b == 39) && (not (b == 92) && (not (b == underscore) && not (b == 96))))))

-- what a byte begins
abbrev pub class : ℕ → ByteClass
class b =
    cond (blank b) class_is.Blank
    (cond (b == hash) class_is.Comment
    (cond (is_ascii_alphabetic b) class_is.Word
    (cond (is_ascii_digit b) class_is.Number
    (cond (b == quote) class_is.Quote
    (cond (sign b) class_is.Sign class_is.Nothing)))))

-- the bytes that go on with a word, a comment and a string
abbrev pub in_word : ℕ → Bool
in_word b = is_ascii_alphanumeric b || b == underscore

abbrev pub in_comment : ℕ → Bool
in_comment b = not (b == newline)

abbrev pub in_string : ℕ → Bool
in_string b = not (b == quote) && not (b == newline)

abbrev pub goes_on : Run → ℕ → Bool
goes_on run_is.Blanks = blank
goes_on run_is.Comment = in_comment
goes_on run_is.Word = in_word
goes_on run_is.Digits = is_ascii_digit
goes_on run_is.Quoted = in_string
