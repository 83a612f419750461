-- Both weighings keep the laws.
use Rattle.std.proofs.Common.{◌≡◌, ℕ, ◌^◌, ◌<◌, ◌≤◌, Bool, true, false, cond, ◌&&◌, ◌||◌, ◌⊎◌, sym, refl, ap, subst, inl, inr, true≢false, arith}
use mathlib.Core.Bool.{Bool-discrete}
use native.Mathlib.Decide.{ℕ_discrete, dec_lt}
use lib.Bits.{bit_or, or_lt, or_comm, or_self, or_zero_l}
use Rattle.std.proofs.lemmas.Nat.{pow_pos, pow_below}
use Rattle.kindset.specs.Bits.{bit}
use Rattle.yields.specs.Marks.{Has, without_empty, first_then, lacking, first, ending}
use Rattle.yields.specs.Weighing.{Laws}
use Rattle.kindset.proofs.Bits.{bit_bit_or, same_bits, bit_high}
use Rattle.yields.proofs.Sets.{has_below, inside_or, or_inside, then_lacks, then_full, then_marks, then_left, then_right, lacking_less}

first_then_rises : (a b c d : ℕ) → a < 2 ^ 128 → bit_or a c ≡ c → bit_or b d ≡ d → bit_or (first_then a b) (first_then c d) ≡ first_then c d
first_then_rises a b c d fits p q = inside_or (first_then a b) (first_then c d) (λ m h. go m (then_marks a b m h) (ℕ_discrete (bit c 127) 1))
  where
    go : (m : ℕ) → ((Has a m × (¬ Has a 127)) ⊎ (Has a 127 × ((Has a m × (m < 127)) ⊎ Has b m))) → Dec (bit c 127 ≡ 1) → Has (first_then c d) m
    go m (inl x) (yes e) = then_left c d m (other (has_below a m fits x.0) (λ e. x.1 (subst (Has a) e x.0))) (or_inside a c m p x.0)
      where
        other : m < 128 → ¬ (m ≡ 127) → m < 127
        other r n = omega arith
    go m (inl x) (no e) = subst (λ u. Has u m) (sym (then_lacks c d e)) (or_inside a c m p x.0)
    go m (inr x) e = side x.1
      where
        side : (Has a m × (m < 127)) ⊎ Has b m → Has (first_then c d) m
        side (inl y) = then_left c d m y.1 (or_inside a c m p y.0)
        side (inr y) = then_right c d m (or_inside a c 127 p x.0) (or_inside b d m q y)

first_height_falls : (x y : ℕ) → y < 2 ^ 128 → bit_or x y ≡ y → ¬ (x ≡ y) → lacking y 128 < lacking x 128
first_height_falls x y fits p d = go (lacking_less x y 128 less)
  where
    less : (m : ℕ) → bit x m ≤ bit y m
    less m = let e = bit_bit_or x y m in let f : bit (bit_or x y) m ≡ bit y m = ap (λ u. bit u m) p in omega arith

    go : ((lacking y 128 < lacking x 128) ⊎ ((lacking y 128 ≡ lacking x 128) × ((m : ℕ) → m < 128 → bit x m ≡ bit y m))) → lacking y 128 < lacking x 128
    go (inl f) = f
    go (inr e) = absurd (d (same_bits x y (λ m. at m (dec_lt m 128))))
      where
        at : (m : ℕ) → Dec (m < 128) → bit x m ≡ bit y m
        at m (yes r) = e.1 m r
        at m (no r) = let h = bit_high y 128 m fits (omega arith) in let l = less m in omega arith

first_then_fits : (x y : ℕ) → x < 2 ^ 128 → y < 2 ^ 128 → first_then x y < 2 ^ 128
first_then_fits x y p q = go (ℕ_discrete (bit x 127) 1)
  where
    go : Dec (bit x 127 ≡ 1) → first_then x y < 2 ^ 128
    go (yes e) = subst (λ u. u < 2 ^ 128) (sym (then_full x y e)) (or_lt 128 (without_empty x) y (omega arith) q)
    go (no d) = subst (λ u. u < 2 ^ 128) (sym (then_lacks x y d)) p

or_assoc : (x y z : ℕ) → bit_or (bit_or x y) z ≡ bit_or x (bit_or y z)
or_assoc x y z = same_bits _ _ (λ m. let a = bit_bit_or (bit_or x y) z m in let b = bit_bit_or x y m in let c = bit_bit_or x (bit_or y z) m in let d = bit_bit_or y z m in omega arith)

pub first_laws : Laws first
first_laws = record {
  same = ℕ_discrete;
  either_assoc = or_assoc;
  either_comm = or_comm;
  either_self = or_self;
  either_nothing = or_zero_l;
  then_rises = λ fits p q. first_then_rises _ _ _ _ fits p q;
  height_falls = λ fits p d. first_height_falls _ _ fits p d;
  fits_nothing = pow_pos 128;
  fits_empty = pow_below 127 128 (omega arith);
  fits_kind = λ k a b. pow_below k 128 (omega arith);
  fits_either = λ p q. or_lt 128 _ _ p q;
  fits_then = λ p q. first_then_fits _ _ p q;
}

ending_assoc : (x y z : Bool) → ((x || y) || z) ≡ (x || (y || z))
ending_assoc true y z = refl
ending_assoc false y z = refl

ending_comm : (x y : Bool) → (x || y) ≡ (y || x)
ending_comm true true = refl
ending_comm true false = refl
ending_comm false true = refl
ending_comm false false = refl

ending_self : (x : Bool) → (x || x) ≡ x
ending_self true = refl
ending_self false = refl

ending_rises : (a b c d : Bool) → (a || c) ≡ c → (b || d) ≡ d → ((a && b) || (c && d)) ≡ (c && d)
ending_rises true b true d p q = q
ending_rises true b false d p q = absurd (true≢false p)
ending_rises false b c d p q = refl

ending_falls : (x y : Bool) → (x || y) ≡ y → ¬ (x ≡ y) → cond {A = ℕ} y 0 1 < cond {A = ℕ} x 0 1
ending_falls true true p d = absurd (d refl)
ending_falls true false p d = absurd (true≢false p)
ending_falls false true p d = omega arith
ending_falls false false p d = absurd (d refl)

pub ending_laws : Laws ending
ending_laws = record {
  same = Bool-discrete;
  either_assoc = ending_assoc;
  either_comm = ending_comm;
  either_self = ending_self;
  either_nothing = λ x. refl;
  then_rises = λ fits p q. ending_rises _ _ _ _ p q;
  height_falls = λ fits p d. ending_falls _ _ p d;
  fits_nothing = tt;
  fits_empty = tt;
  fits_kind = λ k a b. tt;
  fits_either = λ p q. tt;
  fits_then = λ p q. tt;
}
