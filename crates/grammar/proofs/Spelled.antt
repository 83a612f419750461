-- Quoted spellings, taken apart as the code takes them.
use Rattle.std.proofs.Common.{◌≡◌, ℕ, suc, ◌+◌, ◌-◌, Bool, true, false, cond, ◌&&◌, eqb, List, [], ◌∷◌, length, take, drop, sym, refl, ap, ◌∙◌, ⊎_elim, arith}
use Rattle.std.specs.Char.{is_ascii_alphabetic}
use Rattle.std.specs.List.{prefix_len}
use Rattle.std.proofs.lemmas.Bool.{cases_eq, eq-eqb, ne_eqb}
use Rattle.lexer.specs.Bytes.{in_word}
use Rattle.notation.specs.Tokens.{all_word_bytes, is_word, front, inner}

same_sooner : (m n : ℕ) → eqb (1 + m) (suc n) ≡ eqb m n
same_sooner m n = ⊎_elim (λ e. eq-eqb (1 + m) (suc n) (omega arith) ∙ sym (eq-eqb m n e)) (λ d. ne_eqb (1 + m) (suc n) (λ e. d (omega arith)) ∙ sym (ne_eqb m n d)) (cases_eq m n)

-- a run that reaches the end
all_in : (xs : List ℕ) → eqb (prefix_len in_word xs) (length xs) ≡ all_word_bytes xs
all_in [] = refl
all_in (x ∷ xs) = go (in_word x) (all_in xs)
  where
    go : (b : Bool) → eqb (prefix_len in_word xs) (length xs) ≡ all_word_bytes xs → eqb (cond b (1 + prefix_len in_word xs) 0) (suc (length xs)) ≡ (b && all_word_bytes xs)
    go true h = same_sooner (prefix_len in_word xs) (length xs) ∙ h
    go false h = ne_eqb 0 (suc (length xs)) (λ e. omega arith)

pub word_is : (b : ℕ) (rest bytes : List ℕ) (n : ℕ) → bytes ≡ b ∷ rest → is_ascii_alphabetic b ≡ true → n ≡ prefix_len in_word rest → eqb n (length rest) ≡ is_word bytes
word_is b rest bytes n e letter run = ap (λ m. eqb m (length rest)) run ∙ all_in rest ∙ sym (ap is_word e ∙ ap (λ a. a && all_word_bytes rest) letter)

front_is : (xs : List ℕ) → take (length xs - 1) xs ≡ front xs
front_is [] = refl
front_is (x ∷ []) = refl
front_is (x ∷ y ∷ ys) = let e : length (x ∷ y ∷ ys) - 1 ≡ suc (length (y ∷ ys) - 1) = omega arith in ap (λ n. take n (x ∷ y ∷ ys)) e ∙ ap (λ l. x ∷ l) (front_is (y ∷ ys))

-- what stands between the quotes, as the checker reads `[_, inside @ .., _]`
pub inside_is : (s : List ℕ) → take (length s - 1 - 1) (drop 1 s) ≡ inner s
inside_is [] = refl
inside_is (q ∷ xs) = ap (λ n. take (n - 1) xs) (omega arith) ∙ front_is xs
