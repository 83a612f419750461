-- The grammar `s -> { "a" } ;` is well formed, a forest, and passes: what the theorems ask of a grammar can be met.
use Rattle.std.proofs.Common.{◌≡◌, ℕ, zero, suc, ◌^◌, ◌<◌, ◌⊎◌, List, [], ◌∷◌, length, get_or, sym, refl, ap, ◌∙◌, subst, inl, inr, arith}
use Rattle.tree.specs.declared.class.Class.TheVariants.{Token, Name, Chain, Alternative, Optional, Repetition}
use Rattle.tree.specs.declared.node.Node.{Node}
use Rattle.tree.specs.Tree.{node, children}
use lib.Bits.{bit_or}
use Rattle.yields.specs.Equations.{equation, Closed, Least}
use Rattle.yields.specs.Follow.{Rests, Direct, Follow}
use Rattle.yields.specs.Context.{Reachable}
use Rattle.yields.specs.Marks.{Has, first}
use Rattle.yields.specs.Meaning.{Productive}
use Rattle.yields.specs.Passing.{NeedsFirst, NeedsFar, ELL1}
use Rattle.yields.specs.Predict.{Unambiguous}
use Rattle.yields.proofs.Sets.{has_or, has_pow, or_left, or_right, inside_or, or_inside}
use Rattle.yields.specs.Yield.{stop}
use Rattle.yields.proofs.Unambiguity.{unambiguous}
use Rattle.yields.specs.WellFormed.{WellFormed, Place, Root, Placed, Forest}

abbrev tiny : List Node
tiny = record { class = Token; value = 1; first = 1024; next = 1024 } ∷ record { class = Repetition; value = 0; first = 0; next = 1024 } ∷ []

abbrev tiny_roots : List ℕ
tiny_roots = 1 ∷ []

tiny_kinds : (n : ℕ) → n < 2 → (node tiny n).class ≡ Token → (0 < (node tiny n).value) × ((node tiny n).value < 127)
tiny_kinds zero r e = (omega arith, omega arith)
tiny_kinds (suc zero) r e = let z : ◌≡◌ {A = ℕ} 0 1 = cc in absurd (omega arith)
tiny_kinds (suc (suc n)) r e = absurd (omega arith)

tiny_names : (n : ℕ) → n < 2 → (node tiny n).class ≡ Name → (node tiny n).value < 1
tiny_names zero r e = let z : ◌≡◌ {A = ℕ} 0 1 = cc in absurd (omega arith)
tiny_names (suc zero) r e = let z : ◌≡◌ {A = ℕ} 0 1 = cc in absurd (omega arith)
tiny_names (suc (suc n)) r e = absurd (omega arith)

tiny_root : (r : ℕ) → r < 1 → get_or tiny_roots r 0 < 2
tiny_root zero r = omega arith
tiny_root (suc n) r = absurd (omega arith)

tiny_below : (n k : ℕ) → n < 2 → k < length (children tiny n) → get_or (children tiny n) k 0 < n
tiny_below zero k r h = absurd (omega arith)
tiny_below (suc zero) zero r h = omega arith
tiny_below (suc zero) (suc k) r h = absurd (omega arith)
tiny_below (suc (suc n)) k r h = absurd (omega arith)

tiny_option : (n : ℕ) → n < 2 → (node tiny n).class ≡ Optional → (node tiny n).first < n
tiny_option zero r e = let z : ◌≡◌ {A = ℕ} 0 1 = cc in absurd (omega arith)
tiny_option (suc zero) r e = let z : ◌≡◌ {A = ℕ} 0 1 = cc in absurd (omega arith)
tiny_option (suc (suc n)) r e = absurd (omega arith)

tiny_round : (n : ℕ) → n < 2 → (node tiny n).class ≡ Repetition → (node tiny n).first < n
tiny_round zero r e = let z : ◌≡◌ {A = ℕ} 0 1 = cc in absurd (omega arith)
tiny_round (suc zero) r e = omega arith
tiny_round (suc (suc n)) r e = absurd (omega arith)

tiny_branches : (n : ℕ) → n < 2 → (node tiny n).class ≡ Alternative → 0 < length (children tiny n)
tiny_branches zero r e = let z : ◌≡◌ {A = ℕ} 0 1 = cc in absurd (omega arith)
tiny_branches (suc zero) r e = let z : ◌≡◌ {A = ℕ} 0 1 = cc in absurd (omega arith)
tiny_branches (suc (suc n)) r e = absurd (omega arith)

pub tiny_formed : WellFormed tiny tiny_roots
tiny_formed = record { kinds = tiny_kinds; names = tiny_names; roots = tiny_root; started = omega arith; below = tiny_below; options = tiny_option; repetitions = tiny_round; branches = tiny_branches }

not_chain : (p : ℕ) → p < 2 → (node tiny p).class ≡ Chain → ⊥
not_chain zero r e = let z : ◌≡◌ {A = ℕ} 0 1 = cc in omega arith
not_chain (suc zero) r e = let z : ◌≡◌ {A = ℕ} 0 1 = cc in omega arith
not_chain (suc (suc n)) r e = omega arith

not_alternative : (p : ℕ) → p < 2 → (node tiny p).class ≡ Alternative → ⊥
not_alternative zero r e = let z : ◌≡◌ {A = ℕ} 0 1 = cc in omega arith
not_alternative (suc zero) r e = let z : ◌≡◌ {A = ℕ} 0 1 = cc in omega arith
not_alternative (suc (suc n)) r e = omega arith

not_option : (p : ℕ) → p < 2 → (node tiny p).class ≡ Optional → ⊥
not_option zero r e = let z : ◌≡◌ {A = ℕ} 0 1 = cc in omega arith
not_option (suc zero) r e = let z : ◌≡◌ {A = ℕ} 0 1 = cc in omega arith
not_option (suc (suc n)) r e = omega arith

the_round : (p : ℕ) → p < 2 → (node tiny p).class ≡ Repetition → p ≡ 1
the_round zero r e = let z : ◌≡◌ {A = ℕ} 0 1 = cc in absurd (omega arith)
the_round (suc zero) r e = refl
the_round (suc (suc n)) r e = absurd (omega arith)

the_place : {p k c : ℕ} → Place tiny p k c → (p ≡ 1) × (k ≡ 0) × (c ≡ 0)
the_place (Place.link {p = p} k r e q) = absurd (not_chain p r e)
the_place (Place.branch {p = p} k r e q) = absurd (not_alternative p r e)
the_place (Place.option {p = p} r e) = absurd (not_option p r e)
the_place (Place.round {p = p} r e) = let z = the_round p r e in (z, refl, ap (λ u. (node tiny u).first) z)

tiny_some : (n : ℕ) → n < 2 → Root tiny_roots n ⊎ Placed tiny n
tiny_some zero r = inr (record { parent = 1; position = 0; place = Place.round (omega arith) refl })
tiny_some (suc zero) r = inl (record { rule = 0; within = omega arith; is = refl })
tiny_some (suc (suc n)) r = absurd (omega arith)

tiny_free : {p k c : ℕ} → Root tiny_roots c → ¬ Place tiny p k c
tiny_free {c = c} root p = go root.rule root.within root.is
  where
    go : (r : ℕ) → r < 1 → get_or tiny_roots r 0 ≡ c → ⊥
    go zero q e = let z = the_place p in let y = z.2 in omega arith
    go (suc r) q e = omega arith

pub tiny_forest : Forest tiny tiny_roots
tiny_forest = record {
  one = λ a b. let x = the_place a in let y = the_place b in (x.0 ∙ sym y.0, x.1 ∙ sym y.1);
  free = tiny_free;
  some = tiny_some;
}

abbrev tiny_first : ℕ → ℕ
tiny_first zero = 2 ^ 1
tiny_first (suc zero) = bit_or (2 ^ 127) (2 ^ 1)
tiny_first (suc (suc n)) = 0

tiny_solves : (n : ℕ) → n < 2 → equation first tiny tiny_roots tiny_first n ≡ tiny_first n
tiny_solves zero r = refl
tiny_solves (suc zero) r = refl
tiny_solves (suc (suc n)) r = absurd (omega arith)

tiny_under : (g : ℕ → ℕ) → Closed first tiny tiny_roots g → (n : ℕ) → n < 2 → bit_or (tiny_first n) (g n) ≡ g n
tiny_under g closed zero r = closed.at 0 r
tiny_under g closed (suc zero) r = inside_or (bit_or (2 ^ 127) (2 ^ 1)) (g 1) (λ m h. or_inside (bit_or (2 ^ 127) (g 0)) (g 1) m (closed.at 1 r) (go m (has_or (2 ^ 127) (2 ^ 1) m h)))
  where
    go : (m : ℕ) → Has (2 ^ 127) m ⊎ Has (2 ^ 1) m → Has (bit_or (2 ^ 127) (g 0)) m
    go m (inl h) = or_left (2 ^ 127) (g 0) m h
    go m (inr h) = or_right (2 ^ 127) (g 0) m (or_inside (2 ^ 1) (g 0) m (closed.at 0 (omega arith)) h)
tiny_under g closed (suc (suc n)) r = absurd (omega arith)

pub tiny_least : Least first tiny tiny_roots tiny_first
tiny_least = record { solves = record { at = tiny_solves }; least = tiny_under }

not_name : (p : ℕ) → p < 2 → (node tiny p).class ≡ Name → ⊥
not_name zero r e = let z : ◌≡◌ {A = ℕ} 0 1 = cc in omega arith
not_name (suc zero) r e = let z : ◌≡◌ {A = ℕ} 0 1 = cc in omega arith
not_name (suc (suc n)) r e = omega arith

tiny_reached : (r : ℕ) → r < 1 → Reachable tiny tiny_roots (get_or tiny_roots r 0)
tiny_reached zero r = Reachable.start
tiny_reached (suc n) r = absurd (omega arith)

tiny_yielding : (r : ℕ) → r < 1 → Productive tiny tiny_roots (get_or tiny_roots r 0)
tiny_yielding zero r = record { choices = 0 ∷ []; kinds = []; visits = 1; yields = stop refl }
tiny_yielding (suc n) r = absurd (omega arith)

tiny_needs : {n c : ℕ} → NeedsFirst tiny tiny_roots tiny_first n c → (n ≡ 1) × (c ≡ 0)
tiny_needs (NeedsFirst.name {n = n} r e) = absurd (not_name n r e)
tiny_needs (NeedsFirst.link {n = n} k r e q h) = absurd (not_chain n r e)
tiny_needs (NeedsFirst.branch {n = n} k r e q) = absurd (not_alternative n r e)
tiny_needs (NeedsFirst.option {n = n} r e) = absurd (not_option n r e)
tiny_needs (NeedsFirst.round {n = n} r e) = let z = the_round n r e in (z, ap (λ u. (node tiny u).first) z)

tiny_far : {n c : ℕ} → NeedsFar tiny tiny_roots tiny_first n c → (n ≡ 1) × (c ≡ 0)
tiny_far (NeedsFar.near s) = tiny_needs s
tiny_far (NeedsFar.far s h) = let a = tiny_needs s in let b = tiny_far h in absurd (omega arith)

rests_inside : {x y : ℕ} → Rests tiny tiny_roots tiny_first x y → x ≡ 0
rests_inside (Rests.root {n = n} r e) = absurd (not_name n r e)
rests_inside (Rests.last {n = n} r e l) = absurd (not_chain n r e)
rests_inside (Rests.branch {n = n} k r e q) = absurd (not_alternative n r e)
rests_inside (Rests.option {n = n} r e) = absurd (not_option n r e)
rests_inside (Rests.round {n = n} r e) = ap (λ u. (node tiny u).first) (the_round n r e)
rests_inside (Rests.sibling {n = n} r e l h) = absurd (not_chain n r e)

direct_root : {x m : ℕ} → Direct tiny tiny_roots tiny_first x m → x ≡ 1 → m ≡ 0
direct_root Direct.end q = refl
direct_root (Direct.sibling {n = n} r e l h) q = absurd (not_chain n r e)
direct_root (Direct.round {n = n} r e h) q = let z : (node tiny n).first ≡ 0 = ap (λ u. (node tiny u).first) (the_round n r e) in absurd (omega arith)

follow_root : {x m : ℕ} → Follow tiny tiny_roots tiny_first x m → x ≡ 1 → m ≡ 0
follow_root (Follow.direct d) q = direct_root d q
follow_root (Follow.through r h) q = let z = rests_inside r in absurd (omega arith)

round_full : (n : ℕ) → n < 2 → (node tiny n).class ≡ Repetition → ¬ Has (tiny_first (node tiny n).first) 127
round_full n r e h = let g : Has (tiny_first (node tiny 1).first) 127 = subst (λ u. Has (tiny_first (node tiny u).first) 127) (the_round n r e) h in let z = has_pow 1 127 g in omega arith

round_clear : (n m : ℕ) → n < 2 → (node tiny n).class ≡ Repetition → m < 127 → Has (tiny_first (node tiny n).first) m → ¬ Follow tiny tiny_roots tiny_first n m
round_clear n m r e q h f = let g : Has (tiny_first (node tiny 1).first) m = subst (λ u. Has (tiny_first (node tiny u).first) m) (the_round n r e) h in let z = has_pow 1 m g in let y = follow_root f (the_round n r e) in omega arith

pub tiny_passes : ELL1 tiny tiny_roots tiny_first
tiny_passes = record {
  reached = tiny_reached;
  yielding = tiny_yielding;
  straight = λ n h. let z = tiny_far h in omega arith;
  apart = λ n i j m r e p q d a b. not_alternative n r e;
  clear = λ n m r e a b c d. not_alternative n r e;
  option_full = λ n r e a. not_option n r e;
  round_full = round_full;
  option_clear = λ n m r e a b c. not_option n r e;
  round_clear = round_clear;
}

pub tiny_unambiguous : Unambiguous tiny tiny_roots
tiny_unambiguous = unambiguous tiny tiny_roots tiny_formed tiny_first tiny_least tiny_passes
