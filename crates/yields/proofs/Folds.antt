-- A chain is weighed from its first child on as from its last one back, where `then` is associative.
use Rattle.std.proofs.Common.{◌≡◌, ℕ, ◌^◌, ◌<◌, Bool, true, false, ◌&&◌, ◌⊎◌, List, [], ◌∷◌, sym, refl, ap, ◌∙◌, subst, inl, inr, arith}
use native.Mathlib.Decide.{ℕ_discrete}
use lib.Bits.{or_zero_l}
use Rattle.yields.specs.Weighing.{Weighing, Laws}
use Rattle.yields.specs.Equations.{chained}
use Rattle.kindset.specs.Bits.{bit}
use Rattle.yields.specs.Marks.{Has, first, first_then, ending}
use Rattle.kindset.proofs.Bits.{bit_pow_same}
use Rattle.yields.proofs.Sets.{inside_or, has_pow, has_below, then_marks, then_left, then_right, then_full, then_lacks}
use Rattle.yields.proofs.Laws.{first_laws}

pub record Monoid {V : Type 0} (w : Weighing V) : Type 0 where
  pub assoc : (a b c : V) → w.«then» (w.«then» a b) c ≡ w.«then» a (w.«then» b c)
  pub left : (a : V) → w.«then» w.empty a ≡ a
  pub right : (a : V) → w.Fits a → w.«then» a w.empty ≡ a

-- as a loop does it: acc, and then each child
abbrev pub chained_on : {V : Type 0} → Weighing V → (ℕ → V) → V → List ℕ → V
chained_on w f acc [] = acc
chained_on w f acc (c ∷ cs) = chained_on w f (w.«then» acc (f c)) cs

module _ {V : Type 0} (w : Weighing V) (laws : Laws w) (monoid : Monoid w) (f : ℕ → V) (fits : (i : ℕ) → w.Fits (f i)) where
  chained_on_is : (acc : V) → w.Fits acc → (cs : List ℕ) → chained_on w f acc cs ≡ w.«then» acc (chained w f cs)
  chained_on_is acc a [] = sym (monoid.right acc a)
  chained_on_is acc a (c ∷ cs) = chained_on_is (w.«then» acc (f c)) (laws.fits_then a (fits c)) cs ∙ monoid.assoc acc (f c) (chained w f cs)

  pub chained_by_loop : (cs : List ℕ) → chained_on w f w.empty cs ≡ chained w f cs
  chained_by_loop cs = chained_on_is w.empty laws.fits_empty cs ∙ monoid.left (chained w f cs)

and_assoc : (a b c : Bool) → ((a && b) && c) ≡ (a && (b && c))
and_assoc true b c = refl
and_assoc false b c = refl

and_true : (a : Bool) → (a && true) ≡ a
and_true true = refl
and_true false = refl

pub ending_monoid : Monoid ending
ending_monoid = record { assoc = and_assoc; left = λ a. refl; right = λ a h. and_true a }

-- two sets with the same marks
same_marks : (a b : ℕ) → ((m : ℕ) → Has a m → Has b m) → ((m : ℕ) → Has b m → Has a m) → a ≡ b
same_marks a b p q = sym (inside_or b a q) ∙ first_laws.either_comm b a ∙ inside_or a b p

first_left : (a : ℕ) → first_then (2 ^ 127) a ≡ a
first_left a = then_full (2 ^ 127) a (bit_pow_same 127) ∙ or_zero_l a

first_right : (a : ℕ) → a < 2 ^ 128 → first_then a (2 ^ 127) ≡ a
first_right a fits = same_marks (first_then a (2 ^ 127)) a (λ m h. into m (then_marks a (2 ^ 127) m h)) (λ m h. back m h (ℕ_discrete m 127))
  where
    into : (m : ℕ) → ((Has a m × (¬ Has a 127)) ⊎ (Has a 127 × ((Has a m × (m < 127)) ⊎ Has (2 ^ 127) m))) → Has a m
    into m (inl h) = h.0
    into m (inr h) = side h.1
      where
        side : (Has a m × (m < 127)) ⊎ Has (2 ^ 127) m → Has a m
        side (inl g) = g.0
        side (inr g) = subst (Has a) (sym (has_pow 127 m g)) h.0

    back : (m : ℕ) → Has a m → Dec (m ≡ 127) → Has (first_then a (2 ^ 127)) m
    back m h (yes e) = subst (Has (first_then a (2 ^ 127))) (sym e) (then_right a (2 ^ 127) 127 (subst (Has a) e h) (bit_pow_same 127))
    back m h (no d) = let r = has_below a m fits h in then_left a (2 ^ 127) m (omega arith) h

lacks_after : (a b : ℕ) → Has a 127 → ¬ Has b 127 → ¬ Has (first_then a b) 127
lacks_after a b h d g = go (then_marks a b 127 g)
  where
    go : ((Has a 127 × (¬ Has a 127)) ⊎ (Has a 127 × ((Has a 127 × (127 < 127)) ⊎ Has b 127))) → ⊥
    go (inl p) = p.1 h
    go (inr p) = side p.1
      where
        side : (Has a 127 × (127 < 127)) ⊎ Has b 127 → ⊥
        side (inl q) = let z = q.1 in omega arith
        side (inr q) = d q

first_assoc : (a b c : ℕ) → first_then (first_then a b) c ≡ first_then a (first_then b c)
first_assoc a b c = go (ℕ_discrete (bit a 127) 1) (ℕ_discrete (bit b 127) 1)
  where
    go : Dec (bit a 127 ≡ 1) → Dec (bit b 127 ≡ 1) → first_then (first_then a b) c ≡ first_then a (first_then b c)
    go (no p) q = ap (λ u. first_then u c) (then_lacks a b p) ∙ then_lacks a c p ∙ sym (then_lacks a (first_then b c) p)
    go (yes p) (no q) = then_lacks (first_then a b) c (lacks_after a b p q) ∙ ap (first_then a) (sym (then_lacks b c q))
    go (yes p) (yes q) = same_marks (first_then (first_then a b) c) (first_then a (first_then b c)) (λ m h. into m (then_marks (first_then a b) c m h)) (λ m h. back m (then_marks a (first_then b c) m h))
      where
        full : Has (first_then a b) 127
        full = then_right a b 127 p q

        into : (m : ℕ) → ((Has (first_then a b) m × (¬ Has (first_then a b) 127)) ⊎ (Has (first_then a b) 127 × ((Has (first_then a b) m × (m < 127)) ⊎ Has c m))) → Has (first_then a (first_then b c)) m
        into m (inl h) = absurd (h.1 full)
        into m (inr h) = side h.1
          where
            side : (Has (first_then a b) m × (m < 127)) ⊎ Has c m → Has (first_then a (first_then b c)) m
            side (inr g) = then_right a (first_then b c) m p (then_right b c m q g)
            side (inl g) = inner (then_marks a b m g.0)
              where
                inner : ((Has a m × (¬ Has a 127)) ⊎ (Has a 127 × ((Has a m × (m < 127)) ⊎ Has b m))) → Has (first_then a (first_then b c)) m
                inner (inl k) = absurd (k.1 p)
                inner (inr k) = last k.1
                  where
                    last : (Has a m × (m < 127)) ⊎ Has b m → Has (first_then a (first_then b c)) m
                    last (inl z) = then_left a (first_then b c) m g.1 z.0
                    last (inr z) = then_right a (first_then b c) m p (then_left b c m g.1 z)

        back : (m : ℕ) → ((Has a m × (¬ Has a 127)) ⊎ (Has a 127 × ((Has a m × (m < 127)) ⊎ Has (first_then b c) m))) → Has (first_then (first_then a b) c) m
        back m (inl h) = absurd (h.1 p)
        back m (inr h) = side h.1
          where
            side : (Has a m × (m < 127)) ⊎ Has (first_then b c) m → Has (first_then (first_then a b) c) m
            side (inl g) = then_left (first_then a b) c m g.1 (then_left a b m g.1 g.0)
            side (inr g) = inner (then_marks b c m g)
              where
                inner : ((Has b m × (¬ Has b 127)) ⊎ (Has b 127 × ((Has b m × (m < 127)) ⊎ Has c m))) → Has (first_then (first_then a b) c) m
                inner (inl k) = absurd (k.1 q)
                inner (inr k) = last k.1
                  where
                    last : (Has b m × (m < 127)) ⊎ Has c m → Has (first_then (first_then a b) c) m
                    last (inl z) = then_left (first_then a b) c m z.1 (then_right a b m p z.0)
                    last (inr z) = then_right (first_then a b) c m full z

pub first_monoid : Monoid first
first_monoid = record { assoc = first_assoc; left = first_left; right = first_right }
