-- The bits of unions, intersections, remainders and powers of two.
use Rattle.std.proofs.Common.{◌≡◌, ℕ, zero, suc, ◌+◌, ◌-◌, ◌/◌, ◌%◌, ◌^◌, ◌<◌, ◌≤◌, min, max, ◌≢◌, ◌⊎◌, sym, refl, ap, ◌∙◌, inl, inr, ⊎_elim, lt_of_lt_of_le, pow-suc, arith, pow_mono}
use native.Mathlib.Decide.{dec_lt}
use native.Mathlib.Nat.{div-eq_of_lt, div_self}
use lib.Bits.{bit_or, bit_and, or_step, or_shr, and_step, and_shr}
use lib.Count.{under, count_trailing_zeros, trailing_le}
use Rattle.std.proofs.lemmas.Nat.{pow_pos, pow-add, shl-shr, shr-shr, field_of, pow_below, mod-pow-add}
use Rattle.std.proofs.lemmas.Bool.{cases_eq}
use Rattle.kindset.specs.Bits.{bit}

pub bit_bit_or : (a b m : ℕ) → bit (bit_or a b) m ≡ max (bit a m) (bit b m)
bit_bit_or a b m = ap (λ u. u % 2) (or_shr a b m ∙ or_step (a / 2 ^ m) (b / 2 ^ m)) ∙ omega arith

pub bit_half : (a m : ℕ) → bit (a / 2) m ≡ bit a (suc m)
bit_half a m = ap (λ u. u % 2) (shr-shr a 1 m ∙ ap (λ k. a / 2 ^ k) (omega arith))

pub bits_same : (k a b : ℕ) → a ≤ k → b ≤ k → ((m : ℕ) → bit a m ≡ bit b m) → a ≡ b
bits_same zero a b p q h = omega arith
bits_same (suc k) a b p q h =
    let halves : a / 2 ≡ b / 2 = bits_same k (a / 2) (b / 2) (omega arith) (omega arith) (λ m. bit_half a m ∙ h (suc m) ∙ sym (bit_half b m)) in
    let lows : a / 2 ^ 0 % 2 ≡ b / 2 ^ 0 % 2 = h 0 in
    omega arith

pub same_bits : (a b : ℕ) → ((m : ℕ) → bit a m ≡ bit b m) → a ≡ b
same_bits a b h = bits_same (a + b) a b (omega arith) (omega arith) h

pub bit_high : (s k m : ℕ) → s < 2 ^ k → k ≤ m → bit s m ≡ 0
bit_high s k m r h = ap (λ u. u % 2) (div-eq_of_lt (lt_of_lt_of_le r (pow_mono h)))

low_of_mod : (x j : ℕ) → x % 2 ^ (j + 1) % 2 ≡ x % 2
low_of_mod x j = ap (λ u. u % 2) (mod-pow-add x j 1) ∙ omega arith

pub bit_mod : (s k m : ℕ) → m < k → bit (s % 2 ^ k) m ≡ bit s m
bit_mod s k m h =
    let j : ℕ = k - m - 1 in
    let e : k ≡ (j + 1) + m = omega arith in
    ap (λ u. bit (s % 2 ^ u) m) e ∙ ap (λ u. u % 2) (field_of s (j + 1) m) ∙ low_of_mod (s / 2 ^ m) j

pub bit_pow_same : (k : ℕ) → bit (2 ^ k) k ≡ 1
bit_pow_same k = ap (λ u. u % 2) (div_self (pow_pos k))

pow_shr : (j m : ℕ) → bit (2 ^ (suc j + m)) m ≡ 0
pow_shr j m = ap (λ u. u / 2 ^ m % 2) (pow-add 2 (suc j) m) ∙ ap (λ u. u % 2) (shl-shr (2 ^ suc j) m ∙ pow-suc 2 j) ∙ omega arith

pub bit_pow_other : (k m : ℕ) → m ≢ k → bit (2 ^ k) m ≡ 0
bit_pow_other k m d = go (dec_lt m k)
  where
    go : Dec (m < k) → bit (2 ^ k) m ≡ 0
    go (yes r) = let j : ℕ = k - m - 1 in let e : k ≡ suc j + m = omega arith in ap (λ u. bit (2 ^ u) m) e ∙ pow_shr j m
    go (no r) = bit_high (2 ^ k) (suc k) m (pow_below k (suc k) (omega arith)) (omega arith)

pub bit_zero : (m : ℕ) → bit 0 m ≡ 0
bit_zero m = bit_high 0 0 m (omega arith) (omega arith)

pub bit_bit_and : (a b m : ℕ) → bit (bit_and a b) m ≡ min (bit a m) (bit b m)
bit_bit_and a b m = ap (λ u. u % 2) (and_shr a b m ∙ and_step (a / 2 ^ m) (b / 2 ^ m)) ∙ omega arith

-- the lowest bit that is set
module _ (k n : ℕ) where
  more_zeros : n % 2 ≡ 0 → count_trailing_zeros (suc k) n ≡ suc (count_trailing_zeros k (n / 2))
  unfolding count_trailing_zeros
  more_zeros e = ap (λ d. under d (count_trailing_zeros k (n / 2))) e

  no_zeros : n % 2 ≡ 1 → count_trailing_zeros (suc k) n ≡ 0
  unfolding count_trailing_zeros
  no_zeros e = ap (λ d. under d (count_trailing_zeros k (n / 2))) e

parity : (n : ℕ) → (n % 2 ≡ 0) ⊎ (n % 2 ≡ 1)
parity n = ⊎_elim (λ e. inl e) (λ d. inr (other (n % 2) d (omega arith))) (cases_eq (n % 2) 0)
  where
    other : (d : ℕ) → (d ≡ 0 → ⊥) → d < 2 → d ≡ 1
    other zero ne lt = absurd (ne refl)
    other (suc zero) ne lt = refl
    other (suc (suc d)) ne lt = absurd (omega arith)

low_at : (k n j : ℕ) → ((i : ℕ) → i < count_trailing_zeros k (n / 2) → bit (n / 2) i ≡ 0) → j < count_trailing_zeros (suc k) n → (n % 2 ≡ 0) ⊎ (n % 2 ≡ 1) → bit n j ≡ 0
low_at k n zero rec h (inl e) = omega arith
low_at k n (suc i) rec h (inl e) = sym (bit_half n i) ∙ rec i (omega (arith, more_zeros k n e))
low_at k n j rec h (inr e) = absurd (omega (arith, no_zeros k n e))

-- below it no bit is set
pub trailing_low : (k n j : ℕ) → j < count_trailing_zeros k n → bit n j ≡ 0
trailing_low zero n j h = absurd (omega (arith, trailing_le 0 n))
trailing_low (suc k) n j h = low_at k n j (λ i g. trailing_low k (n / 2) i g) h (parity n)

hit_at : (k n : ℕ) → ((n / 2 ≡ 0 → ⊥) → n / 2 < 2 ^ k → (count_trailing_zeros k (n / 2) < k) × (bit (n / 2) (count_trailing_zeros k (n / 2)) ≡ 1)) → (n ≡ 0 → ⊥) → n < 2 ^ suc k → (n % 2 ≡ 0) ⊎ (n % 2 ≡ 1) → (count_trailing_zeros (suc k) n < suc k) × (bit n (count_trailing_zeros (suc k) n) ≡ 1)
hit_at k n rec some small (inl e) =
    let half : n / 2 < 2 ^ k = omega (arith, pow-suc 2 k) in
    let r = rec (λ z. some (omega arith)) half in
    (omega (arith, r.0, more_zeros k n e), ap (bit n) (more_zeros k n e) ∙ sym (bit_half n (count_trailing_zeros k (n / 2))) ∙ r.1)
hit_at k n rec some small (inr e) = (omega (arith, no_zeros k n e), ap (bit n) (no_zeros k n e) ∙ omega arith)

-- and it is set
pub trailing_hit : (k n : ℕ) → (n ≡ 0 → ⊥) → n < 2 ^ k → (count_trailing_zeros k n < k) × (bit n (count_trailing_zeros k n) ≡ 1)
trailing_hit zero n some small = absurd (some (omega arith))
trailing_hit (suc k) n some small = hit_at k n (trailing_hit k (n / 2)) some small (parity n)
