-- Members, by bits.
use Rattle.std.proofs.Common.{◌≡◌, ℕ, ◌%◌, ◌^◌, ◌<◌, min, max, Bool, true, false, ◌&&◌, ◌||◌, eqb, ltb, sym, refl, ap, ◌∙◌, ⊎_elim, arith}
use lib.Bits.{bit_or, bit_and}
use lib.Count.{count_trailing_zeros}
use Rattle.std.proofs.lemmas.Bool.{cases_eq, cases_lt, eq-eqb, ne_eqb, lt-ltb, le-ltb}
use Rattle.kindset.specs.Bits.{bit}
use Rattle.kindset.proofs.Bits.{bit_bit_or, bit_bit_and, bit_high, bit_mod, bit_pow_same, bit_pow_other, bit_zero, trailing_low, trailing_hit}

eqb_max : (x y : ℕ) → x < 2 → y < 2 → eqb (max x y) 1 ≡ (eqb x 1 || eqb y 1)
eqb_max x y p q =
    ⊎_elim
    (λ e. eq-eqb (max x y) 1 (omega arith) ∙ sym (ap (λ b. b || eqb y 1) (eq-eqb x 1 e)))
    (λ d. ⊎_elim (λ e. eq-eqb (max x y) 1 (omega arith) ∙ sym (ap (λ b. b || eqb y 1) (ne_eqb x 1 d) ∙ eq-eqb y 1 e)) (λ f. ne_eqb (max x y) 1 (λ m. neither x y p q d f m) ∙ sym (ap (λ b. b || eqb y 1) (ne_eqb x 1 d) ∙ ne_eqb y 1 f)) (cases_eq y 1))
    (cases_eq x 1)
  where
    neither : (x y : ℕ) → x < 2 → y < 2 → (x ≡ 1 → ⊥) → (y ≡ 1 → ⊥) → max x y ≡ 1 → ⊥
    neither x y p q d f m = ⊎_elim (λ less. f (omega arith)) (λ more. d (omega arith)) (cases_lt x y)

eqb_min : (x y : ℕ) → x < 2 → y < 2 → (eqb x 1 && eqb y 1) ≡ eqb (min x y) 1
eqb_min x y p q =
    ⊎_elim
    (λ e. ap (λ b. b && eqb y 1) (eq-eqb x 1 e) ∙ ap (λ n. eqb n 1) (omega arith))
    (λ d. ap (λ b. b && eqb y 1) (ne_eqb x 1 d) ∙ sym (ne_eqb (min x y) 1 (λ m. d (omega arith))))
    (cases_eq x 1)

pub spread : (a b c : Bool) → (a && (b || c)) ≡ ((a && b) || (a && c))
spread true b c = refl
spread false b c = refl

gathered : (a b c : Bool) → ((a && b) && (a && c)) ≡ (a && (b && c))
gathered true b c = refl
gathered false b c = refl

bit_two : (s m : ℕ) → bit s m < 2
bit_two s m = omega arith

-- a union
pub union_member : (s t m : ℕ) → (ltb m 128 && eqb (bit (bit_or s t) m) 1) ≡ ((ltb m 128 && eqb (bit s m) 1) || (ltb m 128 && eqb (bit t m) 1))
union_member s t m = ap (λ u. ltb m 128 && eqb u 1) (bit_bit_or s t m) ∙ ap (λ b. ltb m 128 && b) (eqb_max (bit s m) (bit t m) (bit_two s m) (bit_two t m)) ∙ spread (ltb m 128) (eqb (bit s m) 1) (eqb (bit t m) 1)

-- a bit alone
pow_member : (k m : ℕ) → eqb (bit (2 ^ k) m) 1 ≡ eqb m k
pow_member k m =
    ⊎_elim
    (λ e. eq-eqb (bit (2 ^ k) m) 1 (ap (bit (2 ^ k)) e ∙ bit_pow_same k) ∙ sym (eq-eqb m k e))
    (λ d. ap (λ u. eqb u 1) (bit_pow_other k m d) ∙ sym (ne_eqb m k d))
    (cases_eq m k)

-- a set joined with one bit has what it had, and that bit's place
pub bit_joined : (s k m : ℕ) → eqb (bit (bit_or s (2 ^ k)) m) 1 ≡ (eqb (bit s m) 1 || eqb m k)
bit_joined s k m = ap (λ u. eqb u 1) (bit_bit_or s (2 ^ k) m) ∙ eqb_max (bit s m) (bit (2 ^ k) m) (bit_two s m) (bit_two (2 ^ k) m) ∙ ap (λ b. eqb (bit s m) 1 || b) (pow_member k m)

pub with_member : (s k m : ℕ) → (ltb m 128 && eqb (bit (bit_or s (2 ^ k)) m) 1) ≡ ((ltb m 128 && eqb (bit s m) 1) || (ltb m 128 && eqb m k))
with_member s k m = ap (λ b. ltb m 128 && b) (bit_joined s k m) ∙ spread (ltb m 128) (eqb (bit s m) 1) (eqb m k)

-- without the empty mark
pub without_member : (s m : ℕ) → (ltb m 128 && eqb (bit (s % 2 ^ 127) m) 1) ≡ ((ltb m 128 && eqb (bit s m) 1) && ltb m 127)
without_member s m =
    ⊎_elim
    (λ less. ap (λ u. ltb m 128 && eqb u 1) (bit_mod s 127 m less) ∙ sym (ap (λ b. (ltb m 128 && eqb (bit s m) 1) && b) (lt-ltb m 127 less) ∙ whole (ltb m 128 && eqb (bit s m) 1)))
    (λ more. ap (λ u. ltb m 128 && eqb u 1) (bit_high (s % 2 ^ 127) 127 m (omega arith) more) ∙ none (ltb m 128) ∙ sym (ap (λ b. (ltb m 128 && eqb (bit s m) 1) && b) (le-ltb m 127 more) ∙ none (ltb m 128 && eqb (bit s m) 1)))
    (cases_lt m 127)
  where
    whole : (b : Bool) → (b && true) ≡ b
    whole true = refl
    whole false = refl

    none : (b : Bool) → (b && false) ≡ false
    none true = refl
    none false = refl

-- members of both
module _ (s t : ℕ) where
  pub both_member : (m : ℕ) → ((ltb m 128 && eqb (bit s m) 1) && (ltb m 128 && eqb (bit t m) 1)) ≡ (ltb m 128 && eqb (bit (bit_and s t) m) 1)
  both_member m = gathered (ltb m 128) (eqb (bit s m) 1) (eqb (bit t m) 1) ∙ ap (λ b. ltb m 128 && b) (eqb_min (bit s m) (bit t m) (bit_two s m) (bit_two t m)) ∙ ap (λ u. ltb m 128 && eqb u 1) (sym (bit_bit_and s t m))

  off : (b : Bool) → (b && false) ≡ false
  off true = refl
  off false = refl

  pub none_shared : bit_and s t ≡ 0 → (m : ℕ) → ((ltb m 128 && eqb (bit s m) 1) && (ltb m 128 && eqb (bit t m) 1)) ≡ false
  none_shared e m = both_member m ∙ ap (λ u. ltb m 128 && eqb (bit u m) 1) e ∙ ap (λ u. ltb m 128 && eqb u 1) (bit_zero m) ∙ off (ltb m 128)

  module _ (some : bit_and s t ≡ 0 → ⊥) (small : bit_and s t < 2 ^ 128) where
    pub lowest_in : ((ltb (count_trailing_zeros 128 (bit_and s t)) 128 && eqb (bit s (count_trailing_zeros 128 (bit_and s t))) 1) && (ltb (count_trailing_zeros 128 (bit_and s t)) 128 && eqb (bit t (count_trailing_zeros 128 (bit_and s t))) 1)) ≡ true
    lowest_in =
        let k = count_trailing_zeros 128 (bit_and s t) in
        let h = trailing_hit 128 (bit_and s t) some small in
        both_member k ∙ ap (λ b. b && eqb (bit (bit_and s t) k) 1) (lt-ltb k 128 h.0) ∙ eq-eqb (bit (bit_and s t) k) 1 h.1

    pub none_lower : (m : ℕ) → m < count_trailing_zeros 128 (bit_and s t) → ((ltb m 128 && eqb (bit s m) 1) && (ltb m 128 && eqb (bit t m) 1)) ≡ false
    none_lower m h = both_member m ∙ ap (λ u. ltb m 128 && eqb u 1) (trailing_low 128 (bit_and s t) m h) ∙ off (ltb m 128)
