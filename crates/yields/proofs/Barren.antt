-- The grammar `s -> "a" s ;` yields nothing, though its FIRST is not empty: an empty FIRST is no test for what yields nothing.
use Rattle.std.proofs.Common.{◌≡◌, ℕ, zero, suc, ◌<◌, Bool, true, false, ◌⊎◌, List, [], ◌∷◌, length, get_or, sym, refl, ◌∙◌, subst, inl, inr, arith}
use mathlib.Core.Bool.{false≢true}
use Rattle.tree.specs.declared.class.Class.{Class}
use Rattle.tree.specs.declared.class.Class.TheVariants.{Token, Name, Chain, Alternative, Optional, Repetition}
use Rattle.tree.specs.declared.node.Node.{Node}
use Rattle.tree.specs.Tree.{node, children}
use Rattle.yields.specs.Equations.{Solves, chained, equation}
use Rattle.yields.specs.Marks.{Has, ending, first}
use Rattle.yields.specs.Meaning.{Productive}
use Rattle.yields.specs.WellFormed.{WellFormed}
use Rattle.yields.proofs.Ends.{value_at, yields_ends}
use Rattle.kindset.proofs.Bits.{bit_pow_same}
use Rattle.yields.proofs.Sets.{then_left}

abbrev barren : List Node
barren = record { class = Token; value = 1; first = 1024; next = 1 } ∷ record { class = Name; value = 0; first = 1024; next = 1024 } ∷ record { class = Chain; value = 0; first = 0; next = 1024 } ∷ []

abbrev barren_roots : List ℕ
barren_roots = 2 ∷ []

ends : ℕ → Bool
ends zero = true
ends (suc n) = false

ends_solves : Solves ending barren barren_roots ends
unfolding ends
ends_solves = record { at = at }
  where
    at : (n : ℕ) → n < 3 → equation ending barren barren_roots ends n ≡ ends n
    at zero r = refl
    at (suc zero) r = refl
    at (suc (suc zero)) r = refl
    at (suc (suc (suc n))) r = absurd (omega arith)

barren_kinds : (n : ℕ) → n < 3 → (node barren n).class ≡ Token → (0 < (node barren n).value) × ((node barren n).value < 127)
barren_kinds zero r e = (omega arith, omega arith)
barren_kinds (suc zero) r e = let z : ◌≡◌ {A = ℕ} 0 1 = cc in absurd (omega arith)
barren_kinds (suc (suc zero)) r e = let z : ◌≡◌ {A = ℕ} 0 1 = cc in absurd (omega arith)
barren_kinds (suc (suc (suc n))) r e = absurd (omega arith)

barren_names : (n : ℕ) → n < 3 → (node barren n).class ≡ Name → (node barren n).value < 1
barren_names zero r e = let z : ◌≡◌ {A = ℕ} 0 1 = cc in absurd (omega arith)
barren_names (suc zero) r e = omega arith
barren_names (suc (suc zero)) r e = let z : ◌≡◌ {A = ℕ} 0 1 = cc in absurd (omega arith)
barren_names (suc (suc (suc n))) r e = absurd (omega arith)

barren_root : (r : ℕ) → r < 1 → get_or barren_roots r 0 < 3
barren_root zero r = omega arith
barren_root (suc n) r = absurd (omega arith)

barren_below : (n k : ℕ) → n < 3 → k < length (children barren n) → get_or (children barren n) k 0 < n
barren_below zero k r h = absurd (omega arith)
barren_below (suc zero) k r h = absurd (omega arith)
barren_below (suc (suc zero)) zero r h = omega arith
barren_below (suc (suc zero)) (suc zero) r h = omega arith
barren_below (suc (suc zero)) (suc (suc k)) r h = absurd (omega arith)
barren_below (suc (suc (suc n))) k r h = absurd (omega arith)

-- no option, repetition or alternative
barren_class : (n : ℕ) → n < 3 → ((node barren n).class ≡ Token) ⊎ (((node barren n).class ≡ Name) ⊎ ((node barren n).class ≡ Chain))
barren_class zero r = inl refl
barren_class (suc zero) r = inr (inl refl)
barren_class (suc (suc zero)) r = inr (inr refl)
barren_class (suc (suc (suc n))) r = absurd (omega arith)

barren_not : (t : Class) → ((Token ≡ t) → ⊥) → ((Name ≡ t) → ⊥) → ((Chain ≡ t) → ⊥) → (n : ℕ) → n < 3 → (node barren n).class ≡ t → ⊥
barren_not t a b c n r e = go (barren_class n r)
  where
    go : ((node barren n).class ≡ Token) ⊎ (((node barren n).class ≡ Name) ⊎ ((node barren n).class ≡ Chain)) → ⊥
    go (inl h) = a (sym h ∙ e)
    go (inr (inl h)) = b (sym h ∙ e)
    go (inr (inr h)) = c (sym h ∙ e)

differs : (s t : Class) → (s ≡ t → ◌≡◌ {A = ℕ} 0 1) → s ≡ t → ⊥
differs s t h e = let z = h e in omega arith

pub barren_formed : WellFormed barren barren_roots
barren_formed = record {
  kinds = barren_kinds;
  names = barren_names;
  roots = barren_root;
  started = omega arith;
  below = barren_below;
  options = λ n r e. absurd (barren_not Optional (differs Token Optional (λ q. cc)) (differs Name Optional (λ q. cc)) (differs Chain Optional (λ q. cc)) n r e);
  repetitions = λ n r e. absurd (barren_not Repetition (differs Token Repetition (λ q. cc)) (differs Name Repetition (λ q. cc)) (differs Chain Repetition (λ q. cc)) n r e);
  branches = λ n r e. absurd (barren_not Alternative (differs Token Alternative (λ q. cc)) (differs Name Alternative (λ q. cc)) (differs Chain Alternative (λ q. cc)) n r e);
}

pub barren_yields_nothing : ¬ Productive barren barren_roots 2
unfolding ends
barren_yields_nothing p = false≢true (yields_ends barren barren_roots barren_formed ends ends_solves p.yields (omega arith))

pub barren_first : (f : ℕ → ℕ) → Solves first barren barren_roots f → Has (f 2) 1
barren_first f solves = subst (λ u. Has u 1) (sym (value_at first barren barren_roots f solves 2 (omega arith) Chain refl)) (then_left (f 0) (chained first f (1 ∷ [])) 1 (omega arith) (subst (λ u. Has u 1) (sym (value_at first barren barren_roots f solves 0 (omega arith) Token refl)) (bit_pow_same 1)))
