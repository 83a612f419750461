-- Passing is being ELL(1).
use Rattle.std.proofs.Common.{◌≡◌, ℕ, suc, ◌<◌, List, ◌∷◌, length, get_or, sym, refl, ap, ◌∙◌, subst, arith}
use native.Mathlib.Decide.{dec_lt}
use Rattle.tree.specs.declared.class.Class.{Class}
use Rattle.tree.specs.declared.class.Class.TheVariants.{Chain, Alternative, Optional, Repetition}
use Rattle.tree.specs.declared.node.Node.{Node}
use Rattle.tree.specs.Tree.{node, children}
use Rattle.yields.specs.Yield as Y
use Rattle.yields.specs.WellFormed.{WellFormed, Place, Forest}
use Rattle.yields.specs.Equations.{Least}
use Rattle.yields.specs.Marks.{Has, first}
use Rattle.yields.specs.Meaning.{Starts, Nullable}
use Rattle.yields.specs.Follow.{Next, Last, Rests, Direct, Follow}
use Rattle.yields.specs.Context.{After}
use Rattle.yields.specs.Passing.{child, NeedsFirst, NeedsFar, ELL1, Begins, BeginsFar, IsELL1}
use Rattle.yields.proofs.Sets.{has_below}
use Rattle.yields.proofs.Ends.{value_at, child_within, option_within, repetition_within}
use Rattle.yields.proofs.Firsts.{Means, first_means, starts_first, nullable_first, joined_has, first_fits}
use Rattle.yields.proofs.Contexts.{after_follow}
use Rattle.yields.proofs.Follows.{nodes_productive, nodes_reachable, next_at, last_at, follow_after}

module _ (ns : List Node) (rs : List ℕ) (formed : WellFormed ns rs) (forest : Forest ns rs) (f : ℕ → ℕ) where
  -- two places of one node have one parent
  same_class : {p q k j c : ℕ} {s t : Class} → Place ns p k c → Place ns q j c → (node ns p).class ≡ s → (node ns q).class ≡ t → s ≡ t
  same_class a b e g = sym e ∙ ap (λ u. (node ns u).class) (forest.one a b).0 ∙ g

  next_place : {n c d : ℕ} → n < length ns → (node ns n).class ≡ Chain → Next (children ns n) c d → (k : ℕ) × Place ns n k c
  next_place {n} r e next = let q = next_at next in let q₁ = q.1 in (q.0, subst (Place ns n q.0) q.2 (Place.link q.0 r e (omega arith)))

  last_place : {n c : ℕ} → n < length ns → (node ns n).class ≡ Chain → Last (children ns n) c → (k : ℕ) × Place ns n k c
  last_place {n} r e last = let q = last_at last in let q₁ = q.1 in (q.0, subst (Place ns n q.0) q.2 (Place.link q.0 r e (omega arith)))

  Chain≢Alternative : Chain ≡ Alternative → ⊥
  Chain≢Alternative e = let z : ◌≡◌ {A = ℕ} 0 1 = cc in omega arith

  Optional≢Alternative : Optional ≡ Alternative → ⊥
  Optional≢Alternative e = let z : ◌≡◌ {A = ℕ} 0 1 = cc in omega arith

  Repetition≢Alternative : Repetition ≡ Alternative → ⊥
  Repetition≢Alternative e = let z : ◌≡◌ {A = ℕ} 0 1 = cc in omega arith

  -- a branch has no FOLLOW but its alternative's
  branch_direct : {x m n i : ℕ} → Direct ns rs f x m → Place ns n i x → (node ns n).class ≡ Alternative → ⊥
  branch_direct Direct.end p e = forest.free (record { rule = 0; within = formed.started; is = refl }) p
  branch_direct (Direct.sibling r g next has) p e = Chain≢Alternative (same_class (next_place r g next).1 p g e)
  branch_direct (Direct.round r g has) p e = Repetition≢Alternative (same_class (Place.round r g) p g e)

  branch_rests : {x y n i : ℕ} → Rests ns rs f x y → Place ns n i x → (node ns n).class ≡ Alternative → y ≡ n
  branch_rests (Rests.root {n = n} r g) p e = absurd (forest.free (record { rule = (node ns n).value; within = formed.names n r g; is = refl }) p)
  branch_rests (Rests.last r g last) p e = absurd (Chain≢Alternative (same_class (last_place r g last).1 p g e))
  branch_rests (Rests.branch k r g q) p e = (forest.one (Place.branch k r g q) p).0
  branch_rests (Rests.option r g) p e = absurd (Optional≢Alternative (same_class (Place.option r g) p g e))
  branch_rests (Rests.round r g) p e = absurd (Repetition≢Alternative (same_class (Place.round r g) p g e))
  branch_rests (Rests.sibling r g next has) p e = absurd (Chain≢Alternative (same_class (next_place r g next).1 p g e))

  pub branch_follow : {x m n i : ℕ} → Follow ns rs f x m → Place ns n i x → (node ns n).class ≡ Alternative → Follow ns rs f n m
  branch_follow (Follow.direct d) p e = absurd (branch_direct d p e)
  branch_follow (Follow.through {m = m} r h) p e = subst (λ u. Follow ns rs f u m) (branch_rests r p e) h

  module _ (least : Least first ns rs f) where
    begins_needs : {n c : ℕ} → Begins ns rs n c → NeedsFirst ns rs f n c
    begins_needs (Begins.name r e) = NeedsFirst.name r e
    begins_needs (Begins.link {n = n} k r e q h) = NeedsFirst.link k r e q (λ j s. nullable_first ns rs formed f least.solves (child ns n j) (child_within ns rs formed n r j (omega arith)) (h j s))
    begins_needs (Begins.branch k r e q) = NeedsFirst.branch k r e q
    begins_needs (Begins.option r e) = NeedsFirst.option r e
    begins_needs (Begins.round r e) = NeedsFirst.round r e

    begins_far : {n c : ℕ} → BeginsFar ns rs n c → NeedsFar ns rs f n c
    begins_far (BeginsFar.near b) = NeedsFar.near (begins_needs b)
    begins_far (BeginsFar.far b h) = NeedsFar.far (begins_needs b) (begins_far h)

    null : (n : ℕ) → n < length ns → Nullable ns rs n → Has (f n) 127
    null n r h = nullable_first ns rs formed f least.solves n r h

    starts : (n k : ℕ) → n < length ns → Starts ns rs n k → (k < 127) × Has (f n) k
    starts n k r h = starts_first ns rs formed f least.solves n k r h

    pub passing_means : ELL1 ns rs f → IsELL1 ns rs
    passing_means passing = record {
      reached = nodes_reachable ns rs formed forest passing.reached;
      yielding = nodes_productive ns rs formed passing.yielding;
      straight = λ n h. passing.straight n (begins_far h);
      apart = λ n i j k r e p q d a b. passing.apart n i j k r e p q d (starts _ k (child_within ns rs formed n r i p) a).1 (starts _ k (child_within ns rs formed n r j q) b).1;
      one_empty = λ n i j r e p q d a b. passing.apart n i j 127 r e p q d (null _ (child_within ns rs formed n r i p) a) (null _ (child_within ns rs formed n r j q) b);
      clear = λ n i k r e p a b c. let s = starts n k r b in passing.clear n k r e (null n r (record { choices = i ∷ a.choices; visits = suc a.visits; yields = Y.branch i e p a.yields })) s.0 s.1 (branch_follow (after_follow ns rs formed f least.solves (child ns n i) k c) (Place.branch i r e p) e);
      option_full = λ n r e a. passing.option_full n r e (null _ (option_within ns rs formed n r e) a);
      round_full = λ n r e a. passing.round_full n r e (null _ (repetition_within ns rs formed n r e) a);
      option_clear = λ n k r e a b. let s = starts _ k (option_within ns rs formed n r e) a in passing.option_clear n k r e s.0 s.1 (after_follow ns rs formed f least.solves n k b);
      round_clear = λ n k r e a b. let s = starts _ k (repetition_within ns rs formed n r e) a in passing.round_clear n k r e s.0 s.1 (after_follow ns rs formed f least.solves n k b);
    }

    module _ (is : IsELL1 ns rs) where
      means : (n : ℕ) → n < length ns → Means ns rs n (f n)
      means = first_means ns rs formed is.yielding f least

      needs_begins : {n c : ℕ} → NeedsFirst ns rs f n c → Begins ns rs n c
      needs_begins (NeedsFirst.name r e) = Begins.name r e
      needs_begins (NeedsFirst.link {n = n} k r e q h) = Begins.link k r e q (λ j s. (means (child ns n j) (child_within ns rs formed n r j (omega arith))).nulls (h j s))
      needs_begins (NeedsFirst.branch k r e q) = Begins.branch k r e q
      needs_begins (NeedsFirst.option r e) = Begins.option r e
      needs_begins (NeedsFirst.round r e) = Begins.round r e

      needs_far : {n c : ℕ} → NeedsFar ns rs f n c → BeginsFar ns rs n c
      needs_far (NeedsFar.near b) = BeginsFar.near (needs_begins b)
      needs_far (NeedsFar.far b h) = BeginsFar.far (needs_begins b) (needs_far h)

      after : (n m : ℕ) → Follow ns rs f n m → After ns rs n m
      after n m h = follow_after ns rs formed is.yielding forest is.reached f least n m h

      apart_marks : (n i j m : ℕ) → n < length ns → (node ns n).class ≡ Alternative → i < length (children ns n) → j < length (children ns n) → ¬ (i ≡ j) → Has (f (child ns n i)) m → ¬ Has (f (child ns n j)) m
      apart_marks n i j m r e p q d a b = go (dec_lt m 127)
        where
          s : child ns n i < length ns
          s = child_within ns rs formed n r i p

          t : child ns n j < length ns
          t = child_within ns rs formed n r j q

          go : Dec (m < 127) → ⊥
          go (yes h) = is.apart n i j m r e p q d ((means (child ns n i) s).kinds m h a) ((means (child ns n j) t).kinds m h b)
          go (no h) =
              let w = has_below (f (child ns n i)) m (first_fits ns rs formed f least (child ns n i) s) a in
              let z : m ≡ 127 = omega arith in
              is.one_empty n i j r e p q d ((means (child ns n i) s).nulls (subst (Has (f (child ns n i))) z a)) ((means (child ns n j) t).nulls (subst (Has (f (child ns n j))) z b))

      clear_marks : (n m : ℕ) → n < length ns → (node ns n).class ≡ Alternative → Has (f n) 127 → m < 127 → Has (f n) m → ¬ Follow ns rs f n m
      clear_marks n m r e a q b h =
          let w = joined_has f (children ns n) 127 (subst (λ u. Has u 127) (value_at first ns rs f least.solves n r Alternative e) a) in
          is.clear n w.0 m r e w.1 ((means (child ns n w.0) (child_within ns rs formed n r w.0 w.1)).nulls w.2) ((means n r).kinds m q b) (after (child ns n w.0) m (Follow.through (Rests.branch w.0 r e w.1) h))

      pub means_passing : ELL1 ns rs f
      means_passing = record {
        reached = λ r q. is.reached (get_or rs r 0) (formed.roots r q);
        yielding = λ r q. is.yielding (get_or rs r 0) (formed.roots r q);
        straight = λ n h. is.straight n (needs_far h);
        apart = apart_marks;
        clear = clear_marks;
        option_full = λ n r e a. is.option_full n r e ((means (node ns n).first (option_within ns rs formed n r e)).nulls a);
        round_full = λ n r e a. is.round_full n r e ((means (node ns n).first (repetition_within ns rs formed n r e)).nulls a);
        option_clear = λ n m r e q a h. is.option_clear n m r e ((means (node ns n).first (option_within ns rs formed n r e)).kinds m q a) (after n m h);
        round_clear = λ n m r e q a h. is.round_clear n m r e ((means (node ns n).first (repetition_within ns rs formed n r e)).kinds m q a) (after n m h);
      }
