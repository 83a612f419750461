-- What is found at the front of a text stands there.
use Rattle.std.proofs.Common.{◌≡◌, ℕ, ◌+◌, ◌<◌, ◌≤◌, Bool, true, false, cond, not, ◌||◌, eqb, ltb, List, [], ◌∷◌, length, get_or, Some, None, codes, Option, Result, refl, ap, ◌∙◌, inl, inr, ⊎_elim, one-add, arith, MatchResult}
use Rattle.std.specs.Char.{is_ascii_alphabetic, is_ascii_digit}
use Rattle.std.specs.Int.{is_in_range as within}
use Rattle.std.specs.List.{prefix_len}
use Rattle.std.proofs.lemmas.List.{get_or_past}
use Rattle.std.proofs.lemmas.List.Sums.{prefix_len-le-length}
use Rattle.std.proofs.lemmas.Bool.{cond_both, cases_lt, eqb-true, ltb-true, ltb-false, and_cases, not-false, false≢true, both_ways}
use Rattle.lexer.specs.Bytes.{blank, sign, class, in_word, in_comment, in_string, quote, hash, newline, underscore}
use Rattle.scanning.specs.Laws.{Closed, WordKind, spelt, not_spelt, Asked, word, number, string, pair, single, Stands, blanks, comment, asked, BeginsNone, Faulty, begins_nothing, unclosed, too_long, no_kind}
use Rattle.lexer.specs.Lexeme.{judged, named, or_else, word_kind, string_length, string_lexeme, one_sign, two_or_one, sign_lexeme, by_class, front}
use Rattle.lexer.specs.Vocabulary.{Lexicon, kind_of, quoted}
use Rattle.lexer.specs.declared.bytes.ByteClass.{ByteClass}
use Rattle.lexer.specs.declared.bytes.ByteClass.TheVariants as class_is
use Rattle.lexer.specs.declared.lexeme.Lexeme.{Lexeme}
use Rattle.token.specs.declared.token.FaultCode.{FaultCode}
use Rattle.scanning.proofs.Runs.{leading_all, leading_stops, longest}

-- what a byte's class says of the byte
abbrev Means : ByteClass → ℕ → Type 0
Means class_is.Blank b = blank b ≡ true
Means class_is.Comment b = eqb b hash ≡ true
Means class_is.Word b = is_ascii_alphabetic b ≡ true
Means class_is.Number b = is_ascii_digit b ≡ true
Means class_is.Quote b = eqb b quote ≡ true
Means class_is.Sign b = sign b ≡ true
Means class_is.Nothing b = BeginsNone b

class_means : (b : ℕ) → Means (class b) b
class_means b =
    let P : ByteClass → Type 0 = λ c. Means c b in
    cond_both (blank b) _ _ P (λ e. e) (λ e1.
    cond_both (eqb b hash) _ _ P (λ e. e) (λ e2.
    cond_both (is_ascii_alphabetic b) _ _ P (λ e. e) (λ e3.
    cond_both (is_ascii_digit b) _ _ P (λ e. e) (λ e4.
    cond_both (eqb b quote) _ _ P (λ e. e) (λ e5.
    cond_both (sign b) _ _ P (λ e. e) (λ e6. record { no_blank = e1; no_hash = e2; no_letter = e3; no_digit = e4; no_quote = e5; no_sign = e6 }))))))

-- a token that stands at the front and lies within the text, or a fault there
pub record Fits (x : Lexicon) (bs : List ℕ) (l : Lexeme) : Type 0 where
  pub some : 0 < l.length
  pub within : l.length ≤ length bs
  pub stands : Stands x bs l.kind l.length

abbrev pub Found : Lexicon → List ℕ → Result Lexeme FaultCode → Type 0
Found x bs r = MatchResult r (Fits x bs) (Faulty x bs)

module _ (x : Lexicon) (bs : List ℕ) where
  judged_found : (n : ℕ) (o : Option ℕ) → Asked x bs n o → 0 < n → n ≤ length bs → Found x bs (judged n o)
  judged_found n o a some inside =
      cond_both (ltb 255 n) _ _ (Found x bs) (λ e. too_long a (ltb-true 255 n e)) (λ e. by_kind o a (ltb-false 255 n e))
    where
      by_kind : (o : Option ℕ) → Asked x bs n o → n ≤ 255 → Found x bs (named n o)
      by_kind None a short = no_kind a short
      by_kind (Some k) a short = record { some = some; within = inside; stands = asked a short }

  word_kind_is : (w : List ℕ) → WordKind x w (word_kind x w)
  word_kind_is w = go (kind_of x (quoted w)) refl
    where
      go : (o : Option ℕ) → kind_of x (quoted w) ≡ o → WordKind x w (or_else o (kind_of x (codes "WORD")))
      go None e = not_spelt e refl
      go (Some k) e = spelt e

-- a letter goes on with a word
letter_on : (d u l e : Bool) → (u || l) ≡ true → (((d || u) || l) || e) ≡ true
letter_on true u l e h = refl
letter_on false true l e h = refl
letter_on false false true e h = refl
letter_on false false false e h = absurd (false≢true h)

hash_on : (b : ℕ) → b ≡ hash → in_comment b ≡ true
hash_on b e = ap in_comment e

broken : (b : ℕ) → eqb b quote ≡ false → in_string b ≡ false → b ≡ newline
broken b other stops =
    ⊎_elim
    (λ h. absurd (both_ways (eqb b quote) other (not-false (eqb b quote) h)))
    (λ h. eqb-true b newline (not-false (eqb b newline) h))
    (and_cases (not (eqb b quote)) (not (eqb b newline)) stops)

module _ (x : Lexicon) (b : ℕ) (bs : List ℕ) (opens : b ≡ quote) where
  further : (i : ℕ) → get_or (b ∷ bs) (1 + i) 0 ≡ get_or bs i 0
  further i = ap (λ k. get_or (b ∷ bs) k 0) (one-add i)

  inside_all : (i : ℕ) → i < prefix_len in_string bs → in_string (get_or (b ∷ bs) (1 + i) 0) ≡ true
  inside_all i h = ap in_string (further i) ∙ leading_all in_string bs i h

  string_found : Found x (b ∷ bs) (string_lexeme x (string_length bs))
  string_found =
      let n = prefix_len in_string bs in
      cond_both (eqb (get_or bs n 0) quote) _ _ (λ o. Found x (b ∷ bs) (string_lexeme x o))
      (λ e.
      let here = eqb-true (get_or bs n 0) quote e in
      let more : n < length bs = ⊎_elim (λ h. h) (λ past. absurd (omega (arith, here, get_or_past bs n 0 past))) (cases_lt n (length bs)) in
      let closed : Closed (b ∷ bs) n = record { opens = opens; inside = inside_all; closes = further n ∙ here; within = omega arith } in
      judged_found x (b ∷ bs) (n + 2) _ (string closed refl) (omega arith) (omega arith))
      (λ e. unclosed (record {
        opens = opens;
        inside = inside_all;
        breaks = ⊎_elim (λ h. inr (further n ∙ broken (get_or bs n 0) e (leading_stops in_string bs h))) (λ h. inl (omega (arith, prefix_len-le-length in_string bs))) (cases_lt n (length bs));
      }))

sign_found : (x : Lexicon) (b : ℕ) (bs : List ℕ) → sign b ≡ true → Found x (b ∷ bs) (sign_lexeme x (b ∷ bs))
sign_found x b [] h = judged_found x (b ∷ []) 1 _ (single (omega arith) h (λ two. absurd (omega arith)) refl) (omega arith) (omega arith)
sign_found x b (c ∷ cs) h = go (sign c) refl (kind_of x (quoted (b ∷ c ∷ []))) refl
  where
    alone : (2 ≤ length (b ∷ c ∷ cs) → sign c ≡ true → kind_of x (quoted (b ∷ c ∷ [])) ≡ None) → Found x (b ∷ c ∷ cs) (one_sign x b)
    alone not_two = judged_found x (b ∷ c ∷ cs) 1 _ (single (omega arith) h not_two refl) (omega arith) (omega arith)

    go : (two : Bool) → sign c ≡ two → (o : Option ℕ) → kind_of x (quoted (b ∷ c ∷ [])) ≡ o → Found x (b ∷ c ∷ cs) (two_or_one (cond two o None) (one_sign x b))
    go false e o is = alone (λ two other. absurd (both_ways (sign c) e other))
    go true e None is = alone (λ two other. is)
    go true e (Some k) is = record { some = omega arith; within = omega arith; stands = asked (pair (omega arith) h e is) (omega arith) }

class_found : (x : Lexicon) (c : ByteClass) (b : ℕ) (bs : List ℕ) → Means c b → Found x (b ∷ bs) (by_class x c b bs)
class_found x class_is.Blank b bs h = let r = longest blank b bs h in record { some = r.some; within = r.within; stands = blanks r }
class_found x class_is.Comment b bs h =
    let is = eqb-true b hash h in
    let r = longest in_comment b bs (hash_on b is) in
    record { some = r.some; within = r.within; stands = comment is r }
class_found x class_is.Word b bs h =
    let r = longest in_word b bs (letter_on (within 48 57 b) (within 65 90 b) (within 97 122 b) (eqb b underscore) h) in
    judged_found x (b ∷ bs) _ _ (word h r (word_kind_is x (b ∷ bs) _)) r.some r.within
class_found x class_is.Number b bs h = let r = longest is_ascii_digit b bs h in judged_found x (b ∷ bs) _ _ (number r refl) r.some r.within
class_found x class_is.Quote b bs h = string_found x b bs (eqb-true b quote h)
class_found x class_is.Sign b bs h = sign_found x b bs h
class_found x class_is.Nothing b bs h = begins_nothing h

pub front_found : (x : Lexicon) (b : ℕ) (bs : List ℕ) → Found x (b ∷ bs) (front x (b ∷ bs))
front_found x b bs = class_found x (class b) b bs (class_means b)
