-- What stands at the front of a text is what the scan finds there.
use Rattle.std.proofs.Common.{◌≡◌, ℕ, ◌+◌, ◌<◌, ◌≤◌, Bool, true, false, cond, eqb, ltb, List, [], ◌∷◌, length, get_or, take, Some, None, Ok, Err, codes, Option, sym, ap, ◌∙◌, ⊎_elim, one-add, arith}
use Rattle.std.specs.Char.{is_ascii_alphabetic, is_ascii_digit, is_ascii_punctuation}
use Rattle.std.specs.List.{prefix_len}
use Rattle.std.proofs.lemmas.List.{get_or_past}
use Rattle.std.proofs.lemmas.List.Sums.{prefix_len-le-length}
use Rattle.std.proofs.lemmas.Bool.{and_parts, both_ways, cases_Bool, cases_lt, cases_order, cond-true, cond-false, eq-eqb, ne_eqb, le-ltb, lt-ltb}
use Rattle.std.proofs.lemmas.Bool.Decides.{nat_tests}
use Rattle.lexer.specs.Bytes.{blank, sign, class, quote, hash, newline, in_word, in_comment, in_string}
use Rattle.lexer.specs.Lexeme.{judged, or_else, word_kind, string_length, string_lexeme, pair_kind, one_sign, two_or_one, by_class, front}
use Rattle.lexer.specs.Vocabulary.{Lexicon, kind_of}
use Rattle.lexer.specs.declared.bytes.ByteClass.{ByteClass}
use Rattle.lexer.specs.declared.bytes.ByteClass.TheVariants as class_is
use Rattle.token.specs.declared.token.FaultCode.{FaultCode}
use Rattle.scanning.specs.Laws.{Longest, Closed, OpenString, WordKind, spelt, not_spelt, Asked, word, number, string, pair, single, Stands, blanks, comment, asked, BeginsNone, Faulty, begins_nothing, unclosed, too_long, no_kind}
use Rattle.scanning.proofs.Runs.{leading_all, leading_stops}

-- a byte of one class is of no class before it
letter_blank : (b : ℕ) → is_ascii_alphabetic b ≡ true → blank b ≡ false
letter_blank b h = grind (arith, nat_tests)

letter_hash : (b : ℕ) → is_ascii_alphabetic b ≡ true → eqb b hash ≡ false
letter_hash b h = grind (arith, nat_tests)

digit_blank : (b : ℕ) → is_ascii_digit b ≡ true → blank b ≡ false
digit_blank b h = grind (arith, nat_tests)

digit_hash : (b : ℕ) → is_ascii_digit b ≡ true → eqb b hash ≡ false
digit_hash b h = grind (arith, nat_tests)

digit_letter : (b : ℕ) → is_ascii_digit b ≡ true → is_ascii_alphabetic b ≡ false
digit_letter b h = grind (arith, nat_tests)

punct_blank : (b : ℕ) → is_ascii_punctuation b ≡ true → blank b ≡ false
punct_blank b h = grind (arith, nat_tests)

punct_letter : (b : ℕ) → is_ascii_punctuation b ≡ true → is_ascii_alphabetic b ≡ false
punct_letter b h = grind (arith, nat_tests)

punct_digit : (b : ℕ) → is_ascii_punctuation b ≡ true → is_ascii_digit b ≡ false
punct_digit b h = grind (arith, nat_tests)

sign_punct : (b : ℕ) → sign b ≡ true → is_ascii_punctuation b ≡ true
sign_punct b h = (and_parts (is_ascii_punctuation b) _ h).0

sign_hash : (b : ℕ) → sign b ≡ true → eqb b hash ≡ false
sign_hash b h = grind (arith, nat_tests)

sign_quote : (b : ℕ) → sign b ≡ true → eqb b quote ≡ false
sign_quote b h = grind (arith, nat_tests)

-- the class of a byte, by what the byte is
class_blank : (b : ℕ) → blank b ≡ true → class b ≡ class_is.Blank
class_blank b h = cond-true (blank b) _ _ h

class_word : (b : ℕ) → is_ascii_alphabetic b ≡ true → class b ≡ class_is.Word
class_word b h = cond-false (blank b) _ _ (letter_blank b h) ∙ cond-false (eqb b hash) _ _ (letter_hash b h) ∙ cond-true (is_ascii_alphabetic b) _ _ h

class_number : (b : ℕ) → is_ascii_digit b ≡ true → class b ≡ class_is.Number
class_number b h =
    cond-false (blank b) _ _ (digit_blank b h) ∙ cond-false (eqb b hash) _ _ (digit_hash b h) ∙ cond-false (is_ascii_alphabetic b) _ _ (digit_letter b h) ∙ cond-true (is_ascii_digit b) _ _ h

class_sign : (b : ℕ) → sign b ≡ true → class b ≡ class_is.Sign
class_sign b h =
    let p = sign_punct b h in
    cond-false (blank b) _ _ (punct_blank b p) ∙ cond-false (eqb b hash) _ _ (sign_hash b h) ∙ cond-false (is_ascii_alphabetic b) _ _ (punct_letter b p) ∙ cond-false (is_ascii_digit b) _ _ (punct_digit b p) ∙ cond-false (eqb b quote) _ _ (sign_quote b h) ∙ cond-true (sign b) _ _ h

class_nothing : (b : ℕ) → BeginsNone b → class b ≡ class_is.Nothing
class_nothing b h =
    cond-false (blank b) _ _ h.no_blank ∙ cond-false (eqb b hash) _ _ h.no_hash ∙ cond-false (is_ascii_alphabetic b) _ _ h.no_letter ∙ cond-false (is_ascii_digit b) _ _ h.no_digit ∙ cond-false (eqb b quote) _ _ h.no_quote ∙ cond-false (sign b) _ _ h.no_sign

-- a run's length is settled by its bytes and the one after them
run_is : (p : ℕ → Bool) (bs : List ℕ) (n : ℕ) → n ≤ length bs → ((i : ℕ) → i < n → p (get_or bs i 0) ≡ true) → (n < length bs → p (get_or bs n 0) ≡ false) → prefix_len p bs ≡ n
run_is p bs n within all stops =
    ⊎_elim (λ same. same)
    (⊎_elim
    (λ less. absurd (both_ways (p (get_or bs (prefix_len p bs) 0)) (leading_stops p bs (omega arith)) (all (prefix_len p bs) less)))
    (λ more. absurd (both_ways (p (get_or bs n 0)) (stops (omega (arith, prefix_len-le-length p bs))) (leading_all p bs n more))))
    (cases_order (prefix_len p bs) n)

longest_is : (p : ℕ → Bool) (bs : List ℕ) (n : ℕ) → Longest p bs n → prefix_len p bs ≡ n
longest_is p bs n h = run_is p bs n h.within h.all h.stops

word_kind_is : (x : Lexicon) (w : List ℕ) (o : Option ℕ) → WordKind x w o → word_kind x w ≡ o
word_kind_is x w o (spelt e) = ap (λ q. or_else q (kind_of x (codes "WORD"))) e
word_kind_is x w o (not_spelt e d) = ap (λ q. or_else q (kind_of x (codes "WORD"))) e ∙ d

further : (b : ℕ) (bs : List ℕ) (i : ℕ) → get_or bs i 0 ≡ get_or (b ∷ bs) (1 + i) 0
further b bs i = sym (ap (λ k. get_or (b ∷ bs) k 0) (one-add i))

-- a string ends where the law says
string_is : (b : ℕ) (bs : List ℕ) (m : ℕ) → Closed (b ∷ bs) m → string_length bs ≡ Some (m + 2)
string_is b bs m h =
    let last : get_or bs m 0 ≡ quote = further b bs m ∙ h.closes in
    let run : prefix_len in_string bs ≡ m = run_is in_string bs m (omega (arith, h.within)) (λ i l. ap in_string (further b bs i) ∙ h.inside i l) (λ l. ap in_string last) in
    ap (λ n. cond (eqb (get_or bs n 0) quote) (Some (n + 2)) None) run ∙ cond-true (eqb (get_or bs m 0) quote) _ _ (eq-eqb (get_or bs m 0) quote last)

open_is : (b : ℕ) (bs : List ℕ) (m : ℕ) → OpenString (b ∷ bs) m → string_length bs ≡ None
open_is b bs m h = ⊎_elim ends breaks h.breaks
  where
    settled : m ≤ length bs → (m < length bs → in_string (get_or bs m 0) ≡ false) → (get_or bs m 0 ≡ quote → ⊥) → string_length bs ≡ None
    settled within stops other =
        let run : prefix_len in_string bs ≡ m = run_is in_string bs m within (λ i l. ap in_string (further b bs i) ∙ h.inside i l) stops in
        ap (λ n. cond (eqb (get_or bs n 0) quote) (Some (n + 2)) None) run ∙ cond-false (eqb (get_or bs m 0) quote) _ _ (ne_eqb (get_or bs m 0) quote other)

    ends : length (b ∷ bs) ≡ 1 + m → string_length bs ≡ None
    ends e = settled (omega arith) (λ l. absurd (omega arith)) (λ q. omega (arith, q, get_or_past bs m 0 (omega arith)))

    breaks : get_or (b ∷ bs) (1 + m) 0 ≡ newline → string_length bs ≡ None
    breaks e =
        let last : get_or bs m 0 ≡ newline = further b bs m ∙ e in
        let inside : m < length bs = ⊎_elim (λ l. l) (λ past. absurd (omega (arith, last, get_or_past bs m 0 past))) (cases_lt m (length bs)) in
        settled (omega arith) (λ l. ap in_string last) (λ q. omega (arith, q, last))

module _ (x : Lexicon) where
  by : (b : ℕ) (bs : List ℕ) (c : ByteClass) → class b ≡ c → front x (b ∷ bs) ≡ by_class x c b bs
  by b bs c e = ap (λ d. by_class x d b bs) e

  pair_is : (b c : ℕ) (cs : List ℕ) (o : Option ℕ) → sign b ≡ true → pair_kind x b c ≡ o → front x (b ∷ c ∷ cs) ≡ two_or_one o (one_sign x b)
  pair_is b c cs o h e = by b (c ∷ cs) class_is.Sign (class_sign b h) ∙ ap (λ q. two_or_one q (one_sign x b)) e

  -- the grammar is asked for just that token
  asked_is : (b : ℕ) (bs : List ℕ) (n : ℕ) (o : Option ℕ) → Asked x (b ∷ bs) n o → front x (b ∷ bs) ≡ judged n o
  asked_is b bs n o (word h r w) =
      by b bs class_is.Word (class_word b h) ∙ ap (λ m. judged m (word_kind x (take m (b ∷ bs)))) (longest_is in_word (b ∷ bs) n r) ∙ ap (judged n) (word_kind_is x (take n (b ∷ bs)) o w)
  asked_is b bs n o (number r e) =
      by b bs class_is.Number (class_number b (r.all 0 r.some)) ∙ ap (λ m. judged m (kind_of x (codes "NUMBER"))) (longest_is is_ascii_digit (b ∷ bs) n r) ∙ ap (judged n) e
  asked_is b bs n o (string {m} c e) =
      by b bs class_is.Quote (ap class c.opens) ∙ ap (string_lexeme x) (string_is b bs m c) ∙ ap (judged n) e
  asked_is b [] n o (pair m h i e) = absurd (omega arith)
  asked_is b (c ∷ cs) n o (pair m h i e) = pair_is b c cs o h (cond-true (sign c) _ None i ∙ e)
  asked_is b [] n o (single m h i e) = by b [] class_is.Sign (class_sign b h) ∙ ap (judged 1) e
  asked_is b (c ∷ cs) n o (single m h i e) =
      pair_is b c cs None h (⊎_elim (λ two. cond-true (sign c) _ None two ∙ i (omega arith) two) (λ one. cond-false (sign c) _ None one) (cases_Bool (sign c))) ∙ ap (judged 1) e

  -- a token that stands at the front is found there, and so is a fault
  pub stands_is : (b : ℕ) (bs : List ℕ) (k n : ℕ) → Stands x (b ∷ bs) k n → front x (b ∷ bs) ≡ Ok (record { kind = k; length = n })
  stands_is b bs k n (blanks r) = by b bs class_is.Blank (class_blank b (r.all 0 r.some)) ∙ ap (λ m. Ok (record { kind = 121; length = m })) (longest_is blank (b ∷ bs) n r)
  stands_is b bs k n (comment h r) = by b bs class_is.Comment (ap class h) ∙ ap (λ m. Ok (record { kind = 122; length = m })) (longest_is in_comment (b ∷ bs) n r)
  stands_is b bs k n (asked a short) = asked_is b bs n (Some k) a ∙ cond-false (ltb 255 n) _ _ (le-ltb 255 n short)

  pub faulty_is : (b : ℕ) (bs : List ℕ) (c : FaultCode) → Faulty x (b ∷ bs) c → front x (b ∷ bs) ≡ Err c
  faulty_is b bs c (begins_nothing h) = by b bs class_is.Nothing (class_nothing b h)
  faulty_is b bs c (unclosed {m} h) = by b bs class_is.Quote (ap class h.opens) ∙ ap (string_lexeme x) (open_is b bs m h)
  faulty_is b bs c (too_long {n} {o} a long) = asked_is b bs n o a ∙ cond-true (ltb 255 n) _ _ (lt-ltb 255 n long)
  faulty_is b bs c (no_kind {n} a short) = asked_is b bs n None a ∙ cond-false (ltb 255 n) _ _ (le-ltb 255 n short)

  longest_some : (p : ℕ → Bool) (n : ℕ) → Longest p [] n → ⊥
  longest_some p n r = omega (arith, r.some, r.within)

  -- nothing stands where no byte is left
  pub stands_some : (k n : ℕ) → Stands x [] k n → ⊥
  stands_some k n (blanks r) = longest_some blank n r
  stands_some k n (comment h r) = longest_some in_comment n r
  stands_some k n (asked (word h r w) short) = longest_some in_word n r
  stands_some k n (asked (number r e) short) = longest_some is_ascii_digit n r
  stands_some k n (asked (string c e) short) = omega (arith, c.within)
  stands_some k n (asked (pair m h i e) short) = omega arith
  stands_some k n (asked (single m h i e) short) = omega arith
