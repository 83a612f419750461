-- The longest run at the front of a text.
use Rattle.std.proofs.Common.{◌≡◌, ℕ, zero, suc, ◌+◌, ◌<◌, Bool, true, false, List, [], ◌∷◌, length, get_or, ap, ◌∙◌, ⊎_elim, one-add, arith}
use Rattle.std.specs.List.{prefix_len}
use Rattle.std.proofs.lemmas.List.Sums.{prefix_len-le-length}
use Rattle.std.proofs.lemmas.Bool.{cases_Bool, cond-true, cond-false}
use Rattle.scanning.specs.Laws.{Longest}

module _ (p : ℕ → Bool) where
  leading_yes : (x : ℕ) (xs : List ℕ) → p x ≡ true → prefix_len p (x ∷ xs) ≡ suc (prefix_len p xs)
  leading_yes x xs e = cond-true (p x) (1 + prefix_len p xs) 0 e ∙ one-add (prefix_len p xs)

  leading_no : (x : ℕ) (xs : List ℕ) → p x ≡ false → prefix_len p (x ∷ xs) ≡ 0
  leading_no x xs e = cond-false (p x) (1 + prefix_len p xs) 0 e

  pub leading_all : (xs : List ℕ) (i : ℕ) → i < prefix_len p xs → p (get_or xs i 0) ≡ true
  leading_all [] i h = absurd (omega arith)
  leading_all (x ∷ xs) zero h = ⊎_elim (λ e. e) (λ e. absurd (omega (arith, leading_no x xs e))) (cases_Bool (p x))
  leading_all (x ∷ xs) (suc i) h =
      ⊎_elim (λ e. leading_all xs i (omega (arith, leading_yes x xs e))) (λ e. absurd (omega (arith, leading_no x xs e))) (cases_Bool (p x))

  pub leading_stops : (xs : List ℕ) → prefix_len p xs < length xs → p (get_or xs (prefix_len p xs) 0) ≡ false
  leading_stops [] h = absurd (omega arith)
  leading_stops (x ∷ xs) h =
      ⊎_elim
      (λ e. let n = leading_yes x xs e in ap (λ k. p (get_or (x ∷ xs) k 0)) n ∙ leading_stops xs (omega arith))
      (λ e. ap (λ k. p (get_or (x ∷ xs) k 0)) (leading_no x xs e) ∙ e)
      (cases_Bool (p x))

  pub longest : (x : ℕ) (xs : List ℕ) → p x ≡ true → Longest p (x ∷ xs) (prefix_len p (x ∷ xs))
  longest x xs e = record {
    some = omega (arith, leading_yes x xs e);
    within = prefix_len-le-length p (x ∷ xs);
    all = leading_all (x ∷ xs);
    stops = leading_stops (x ∷ xs);
  }
