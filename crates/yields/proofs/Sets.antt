-- Sets of marks by their bits.
use Rattle.std.proofs.Common.{◌≡◌, ℕ, zero, suc, ◌%◌, ◌^◌, ◌<◌, ◌≤◌, Bool, true, false, cond, T, eqb, ◌⊎◌, sym, refl, ap, ◌∙◌, subst, inl, inr, arith, eqb→eq}
use native.Mathlib.Decide.{ℕ_discrete, dec_lt}
use lib.Bits.{bit_or}
use Rattle.std.proofs.lemmas.Nat.{pow_pos, mod_below}
use Rattle.kindset.proofs.Bits.{bit_bit_or, same_bits, bit_high, bit_mod, bit_pow_other}
use Rattle.kindset.specs.Bits.{bit}
use Rattle.yields.specs.Marks.{Has, without_empty, first_then, lacking}

-- what a set of marks has
pub has_below : (s m : ℕ) → s < 2 ^ 128 → Has s m → m < 128
has_below s m r h = go (dec_lt m 128)
  where
    go : Dec (m < 128) → m < 128
    go (yes q) = q
    go (no q) = let e = bit_high s 128 m r (omega arith) in absurd (omega arith)

pub has_or : (a b m : ℕ) → Has (bit_or a b) m → Has a m ⊎ Has b m
has_or a b m h = go (ℕ_discrete (bit a m) 1)
  where
    go : Dec (bit a m ≡ 1) → Has a m ⊎ Has b m
    go (yes e) = inl e
    go (no d) = let e = bit_bit_or a b m in inr (omega arith)

pub or_left : (a b m : ℕ) → Has a m → Has (bit_or a b) m
or_left a b m h = let e = bit_bit_or a b m in omega arith

pub or_right : (a b m : ℕ) → Has b m → Has (bit_or a b) m
or_right a b m h = let e = bit_bit_or a b m in omega arith

pub has_pow : (k m : ℕ) → Has (2 ^ k) m → m ≡ k
has_pow k m h = go (ℕ_discrete m k)
  where
    go : Dec (m ≡ k) → m ≡ k
    go (yes e) = e
    go (no d) = let e = bit_pow_other k m d in absurd (omega arith)

pub has_without : (s m : ℕ) → Has (without_empty s) m → (m < 127) × Has s m
has_without s m h = go (dec_lt m 127)
  where
    go : Dec (m < 127) → (m < 127) × Has s m
    go (yes r) = (r, sym (bit_mod s 127 m r) ∙ h)
    go (no r) = let e = bit_high (s % 2 ^ 127) 127 m (mod_below s (2 ^ 127) (pow_pos 127)) (omega arith) in absurd (omega arith)

pub without_has : (s m : ℕ) → m < 127 → Has s m → Has (without_empty s) m
without_has s m r h = bit_mod s 127 m r ∙ h

-- a set in another: by their join, and by their marks
pub inside_or : (a b : ℕ) → ((m : ℕ) → Has a m → Has b m) → bit_or a b ≡ b
inside_or a b h = same_bits (bit_or a b) b (λ m. go m (ℕ_discrete (bit a m) 1))
  where
    go : (m : ℕ) → Dec (bit a m ≡ 1) → bit (bit_or a b) m ≡ bit b m
    go m (yes e) = let f = h m e in let g = bit_bit_or a b m in omega arith
    go m (no d) = let g = bit_bit_or a b m in omega arith

pub or_inside : (a b m : ℕ) → bit_or a b ≡ b → Has a m → Has b m
or_inside a b m e h = subst (λ u. Has u m) e (or_left a b m h)

-- then, by its marks
pub then_lacks : (a b : ℕ) → ¬ Has a 127 → first_then a b ≡ a
then_lacks a b h = go (eqb (bit a 127) 1) refl
  where
    go : (t : Bool) → eqb (bit a 127) 1 ≡ t → cond t (bit_or (without_empty a) b) a ≡ a
    go true e = absurd (h (eqb→eq (bit a 127) 1 (subst T (sym e) tt)))
    go false e = refl

pub then_full : (a b : ℕ) → Has a 127 → first_then a b ≡ bit_or (without_empty a) b
then_full a b h = ap (λ u. cond (eqb u 1) (bit_or (without_empty a) b) a) h

pub lacking_less : (x y k : ℕ) → ((m : ℕ) → bit x m ≤ bit y m) → (lacking y k < lacking x k) ⊎ ((lacking y k ≡ lacking x k) × ((m : ℕ) → m < k → bit x m ≡ bit y m))
unfolding lacking
lacking_less x y zero h = inr (refl, λ m r. absurd (omega arith))
lacking_less x y (suc k) h = go (lacking_less x y k h) (ℕ_discrete (bit x k) (bit y k))
  where
    go : ((lacking y k < lacking x k) ⊎ ((lacking y k ≡ lacking x k) × ((m : ℕ) → m < k → bit x m ≡ bit y m))) → Dec (bit x k ≡ bit y k) → (lacking y (suc k) < lacking x (suc k)) ⊎ ((lacking y (suc k) ≡ lacking x (suc k)) × ((m : ℕ) → m < suc k → bit x m ≡ bit y m))
    go (inl f) d = let g = h k in inl (omega arith)
    go (inr e) (no d) = let g = h k in let l = e.0 in inl (omega arith)
    go (inr e) (yes d) = let l = e.0 in inr (omega arith, λ m r. at m r (ℕ_discrete m k))
      where
        at : (m : ℕ) → m < suc k → Dec (m ≡ k) → bit x m ≡ bit y m
        at m r (yes q) = subst (λ u. bit x u ≡ bit y u) (sym q) d
        at m r (no q) = e.1 m (omega arith)

-- the marks of then(a, b)
pub then_marks : (a b m : ℕ) → Has (first_then a b) m → (Has a m × (¬ Has a 127)) ⊎ (Has a 127 × ((Has a m × (m < 127)) ⊎ Has b m))
then_marks a b m h = go (ℕ_discrete (bit a 127) 1)
  where
    go : Dec (bit a 127 ≡ 1) → (Has a m × (¬ Has a 127)) ⊎ (Has a 127 × ((Has a m × (m < 127)) ⊎ Has b m))
    go (yes e) = inr (e, side (has_or (without_empty a) b m (subst (λ u. Has u m) (then_full a b e) h)))
      where
        side : Has (without_empty a) m ⊎ Has b m → (Has a m × (m < 127)) ⊎ Has b m
        side (inl p) = let q = has_without a m p in inl (q.1, q.0)
        side (inr p) = inr p
    go (no d) = inl (subst (λ u. Has u m) (then_lacks a b d) h, d)

pub then_left : (a b m : ℕ) → m < 127 → Has a m → Has (first_then a b) m
then_left a b m r h = go (ℕ_discrete (bit a 127) 1)
  where
    go : Dec (bit a 127 ≡ 1) → Has (first_then a b) m
    go (yes e) = subst (λ u. Has u m) (sym (then_full a b e)) (or_left (without_empty a) b m (without_has a m r h))
    go (no d) = subst (λ u. Has u m) (sym (then_lacks a b d)) h

pub then_right : (a b m : ℕ) → Has a 127 → Has b m → Has (first_then a b) m
then_right a b m e h = subst (λ u. Has u m) (sym (then_full a b e)) (or_right (without_empty a) b m h)
