-- The kinds of a grammar, by how its text writes them.
use Rattle.std.specs.Prelude.{◌≡◌, ℕ, ◌+◌, ◌-◌, ◌<◌, Bool, false, cond, ◌&&◌, List, [], ◌∷◌, ◌++◌, map, take, Some, None, Option, ◌≢◌, nat_le, slice_index_or}
use Rattle.std.specs.Str.{bytes_eq}
use Rattle.lexer.specs.Bytes.{quote}
use Rattle.lexer.specs.Parts.{part_of}
use Rattle.lexer.specs.declared.vocabulary.Sought.{Sought}
use Rattle.lexer.specs.declared.vocabulary.Sought.TheVariants.{Class, Quoted}
use Rattle.lexer.specs.declared.vocabulary.Spelling.{Spelling}
use Rattle.lexer.specs.declared.vocabulary.Vocabulary.{Vocabulary}

-- how a grammar writes its kinds, from kind 1 on; none where an entry reaches past the grammar's text
abbrev pub Lexicon : Type 0
Lexicon = List (Option (List ℕ))

abbrev pub spelled : List ℕ → Spelling → Option (List ℕ)
spelled text e = part_of text e.place e.length

-- all that a vocabulary means
abbrev pub lexicon : Vocabulary → Lexicon
lexicon v = map (spelled v.text.now) v.kinds.now

abbrev pub quoted : List ℕ → List ℕ
quoted s = quote ∷ (s ++ quote ∷ [])

-- how what is sought stands in the grammar's text
abbrev pub written : Sought → List ℕ
written (Class w) = w.now
written (Quoted s) = quoted s.now

abbrev pub reads : Option (List ℕ) → List ℕ → Bool
reads None w = false
reads (Some bs) w = bytes_eq bs w

-- the number of the first that passes, counted from k
abbrev pub first_from : {X : Type 0} → (X → Bool) → List X → ℕ → Option ℕ
first_from p [] k = None
first_from p (x ∷ xs) k = cond (p x) (Some k) (first_from p xs (k + 1))

-- the first kind that is written as w; only the first 120 entries are kinds
abbrev pub kind_of : Lexicon → List ℕ → Option ℕ
kind_of x w = first_from (λ o. reads o w) (take 120 x) 1

-- how kind k is written, if the lexicon has that kind
abbrev pub written_as : Lexicon → ℕ → Option (List ℕ)
written_as x k = cond (nat_le 1 k && nat_le k 120) (slice_index_or x (k - 1) None) None

-- what the kind of w is: it is written so and no lower kind is, or else no kind is
abbrev pub Names : Lexicon → List ℕ → Option ℕ → Type 0
Names x w None = (k : ℕ) → written_as x k ≢ Some w
Names x w (Some k) = (written_as x k ≡ Some w) × ((j : ℕ) → j < k → written_as x j ≢ Some w)
