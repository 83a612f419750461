-- What is in the FOLLOW of a node can come right after it.
use Rattle.std.proofs.Common.{◌≡◌, ℕ, zero, suc, ◌+◌, ◌<◌, ◌≤◌, ◌⊎◌, List, [], ◌∷◌, ◌++◌, length, get_or, drop, sym, refl, ap, ◌∙◌, subst, inl, inr, arith, drop_of_length-le, drop-cons}
use Rattle.tree.specs.declared.class.Class.{Class}
use Rattle.tree.specs.declared.class.Class.TheVariants.{Empty, Token, Name, Chain, Alternative, Optional, Repetition}
use Rattle.tree.specs.declared.node.Node.{Node}
use Rattle.tree.specs.Tree.{node, children}
use Rattle.yields.specs.Yield as Y
use Rattle.yields.specs.Yield.{YieldsAll, done, more}
use Rattle.yields.specs.WellFormed.{WellFormed, root_of, start_root, Place, Root, Placed, Forest}
use Rattle.yields.specs.Equations.{Least}
use Rattle.yields.specs.Marks.{Has, first}
use Rattle.yields.specs.Meaning.{Productive, ProductiveAll, Starts, Nullable}
use Rattle.yields.specs.Follow.{Next, Last, Rests, Direct, Follow, here, there, only, further}
use Rattle.yields.specs.Context.{mark_of, Comes, After, Reachable}
use Rattle.yields.proofs.Sets.{has_without}
use Rattle.yields.proofs.Ends.{Within, within_rest, child_within, repetition_within, productive_all}
use Rattle.yields.proofs.Firsts.{Means, first_means}
use Rattle.yields.proofs.Contexts.{comes_within, within_append}

module _ (ns : List Node) (rs : List ℕ) (formed : WellFormed ns rs) where
  -- where each rule yields something, each node does
  class_productive : (n : ℕ) → n < length ns → ((r : ℕ) → r < length rs → Productive ns rs (get_or rs r 0)) → ((c : ℕ) → c < n → Productive ns rs c) → (k : Class) → (node ns n).class ≡ k → Productive ns rs n
  class_productive n r rules lower Empty e = record { choices = []; kinds = []; visits = 1; yields = Y.empty e }
  class_productive n r rules lower Token e = record { choices = []; kinds = (node ns n).value ∷ []; visits = 1; yields = Y.token e }
  class_productive n r rules lower Name e = let p = rules (node ns n).value (formed.names n r e) in record { choices = p.choices; kinds = p.kinds; visits = suc p.visits; yields = Y.name e p.yields }
  class_productive n r rules lower Chain e = let p = productive_all ns rs (children ns n) (λ k q. lower (get_or (children ns n) k 0) (formed.below n k r q)) in record { choices = p.choices; kinds = p.kinds; visits = suc p.visits; yields = Y.chain e p.yields }
  class_productive n r rules lower Alternative e = let q = formed.branches n r e in let p = lower (get_or (children ns n) 0 0) (formed.below n 0 r q) in record { choices = 0 ∷ p.choices; kinds = p.kinds; visits = suc p.visits; yields = Y.branch 0 e q p.yields }
  class_productive n r rules lower Optional e = record { choices = 0 ∷ []; kinds = []; visits = 1; yields = Y.skip e }
  class_productive n r rules lower Repetition e = record { choices = 0 ∷ []; kinds = []; visits = 1; yields = Y.stop e }

  below_productive : ((r : ℕ) → r < length rs → Productive ns rs (get_or rs r 0)) → (k n : ℕ) → n < k → n < length ns → Productive ns rs n
  below_productive rules zero n h r = absurd (omega arith)
  below_productive rules (suc k) n h r = class_productive n r rules (λ c q. below_productive rules k c (omega arith) (omega arith)) (node ns n).class refl

  pub nodes_productive : ((r : ℕ) → r < length rs → Productive ns rs (get_or rs r 0)) → (n : ℕ) → n < length ns → Productive ns rs n
  nodes_productive rules n r = below_productive rules (suc n) n (omega arith) r

  pub place_below : {p k c : ℕ} → Place ns p k c → (c < p) × (p < length ns)
  place_below (Place.link {p = p} k r e q) = (formed.below p k r q, r)
  place_below (Place.branch {p = p} k r e q) = (formed.below p k r q, r)
  place_below (Place.option {p = p} r e) = (formed.options p r e, r)
  place_below (Place.round {p = p} r e) = (formed.repetitions p r e, r)

  -- where each rule is reached, each node is
  above_reachable : Forest ns rs → ((r : ℕ) → r < length rs → Reachable ns rs (get_or rs r 0)) → (k n : ℕ) → length ns ≤ n + k → n < length ns → Reachable ns rs n
  above_reachable forest rules zero n h r = absurd (omega arith)
  above_reachable forest rules (suc k) n h r = go (above_reachable forest rules k) (forest.some n r)
    where
      go : ((n : ℕ) → length ns ≤ n + k → n < length ns → Reachable ns rs n) → Root rs n ⊎ Placed ns n → Reachable ns rs n
      go ih (inl a) = subst (Reachable ns rs) a.is (rules a.rule a.within)
      go ih (inr a) = let q = place_below a.place in let q₀ = q.0 in let q₁ = q.1 in Reachable.under a.place (ih a.parent (omega arith) q₁)

  pub nodes_reachable : Forest ns rs → ((r : ℕ) → r < length rs → Reachable ns rs (get_or rs r 0)) → (n : ℕ) → n < length ns → Reachable ns rs n
  nodes_reachable forest rules n r = above_reachable forest rules (length ns) n (omega arith) r

within_drop : (ns : List Node) (xs : List ℕ) (k : ℕ) → Within ns xs → Within ns (drop k xs)
within_drop ns xs zero h = h
within_drop ns [] (suc k) h = h
within_drop ns (x ∷ xs) (suc k) h = within_drop ns xs k (within_rest ns x xs h)

-- where a next child and a last child stand
pub next_at : {xs : List ℕ} {c d : ℕ} → Next xs c d → (k : ℕ) × (suc k < length xs) × (get_or xs k 0 ≡ c) × (get_or xs (suc k) 0 ≡ d)
next_at here = (0, omega arith, refl, refl)
next_at (there n) = let q = next_at n in let r = q.1 in (suc q.0, omega arith, q.2, q.3)

pub last_at : {xs : List ℕ} {c : ℕ} → Last xs c → (k : ℕ) × (suc k ≡ length xs) × (get_or xs k 0 ≡ c)
last_at only = (0, refl, refl)
last_at (further n) = let q = last_at n in let r = q.1 in (suc q.0, omega arith, q.2)

module _ (ns : List Node) (rs : List ℕ) (formed : WellFormed ns rs) (productive : (n : ℕ) → n < length ns → Productive ns rs n) where
  -- the start can come to this pile
  record Reaches (pile : List ℕ) : Type 0 where
    before : List ℕ
    comes : Comes ns rs before pile

  drop_pile : (xs : List ℕ) (k : ℕ) (pile : List ℕ) → Within ns xs → Reaches (xs ++ pile) → Reaches (drop k xs ++ pile)
  drop_pile xs zero pile within h = h
  drop_pile [] (suc k) pile within h = h
  drop_pile (x ∷ xs) (suc k) pile within h =
      let p = productive x (within 0 (omega arith)) in
      drop_pile xs k pile (within_rest ns x xs within) (record { before = h.before ++ p.kinds; comes = Comes.past p.yields h.comes })

  -- the k-th child of a chain that is reached, with the children after it below
  child_pile : (n k : ℕ) (pile : List ℕ) → n < length ns → (node ns n).class ≡ Chain → k < length (children ns n) → Reaches (n ∷ pile) → Reaches (get_or (children ns n) k 0 ∷ (drop (suc k) (children ns n) ++ pile))
  child_pile n k pile r e q h =
      subst (λ u. Reaches (u ++ pile)) (drop-cons (children ns n) k 0 q) (drop_pile (children ns n) k pile (child_within ns rs formed n r) (record { before = h.before; comes = Comes.chain e h.comes }))

  record Somewhere (n : ℕ) : Type 0 where
    pile : List ℕ
    reaches : Reaches (n ∷ pile)

  reachable_somewhere : {n : ℕ} → Reachable ns rs n → Somewhere n
  reachable_somewhere Reachable.start = record { pile = []; reaches = record { before = []; comes = Comes.start } }
  reachable_somewhere (Reachable.name r e h) = let s = reachable_somewhere h in record { pile = s.pile; reaches = record { before = s.reaches.before; comes = Comes.name e s.reaches.comes } }
  reachable_somewhere (Reachable.under p h) = go p (reachable_somewhere h)
    where
      go : {p k c : ℕ} → Place ns p k c → Somewhere p → Somewhere c
      go (Place.link {p = p} k r e q) s = record { pile = drop (suc k) (children ns p) ++ s.pile; reaches = child_pile p k s.pile r e q s.reaches }
      go (Place.branch k r e q) s = record { pile = s.pile; reaches = record { before = s.reaches.before; comes = Comes.branch k e q s.reaches.comes } }
      go (Place.option r e) s = record { pile = s.pile; reaches = record { before = s.reaches.before; comes = Comes.option e s.reaches.comes } }
      go (Place.round {p = p} r e) s = record { pile = p ∷ s.pile; reaches = record { before = s.reaches.before; comes = Comes.round e s.reaches.comes } }

  -- the mark m can come after the k-th child of the chain n, in a derivation that comes to n
  record Behind (n k m : ℕ) : Type 0 where
    pile : List ℕ
    reaches : Reaches (n ∷ pile)
    choices : List ℕ
    after : List ℕ
    visits : ℕ
    rest : YieldsAll ns rs (drop (suc k) (children ns n) ++ pile) choices after visits
    mark : mark_of after ≡ m

  record Holds (x m : ℕ) : Type 0 where
    known : After ns rs x m
    linked : (n k : ℕ) → Place ns n k x → (node ns n).class ≡ Chain → Behind n k m

  module _ (forest : Forest ns rs) where
    by_chain : (n k m : ℕ) → n < length ns → (node ns n).class ≡ Chain → k < length (children ns n) → Behind n k m → Holds (get_or (children ns n) k 0) m
    by_chain n k m r e q b =
        let c = child_pile n k b.pile r e q b.reaches in
        record {
          known = record { before = c.before; after = b.after; met = record { pile = drop (suc k) (children ns n) ++ b.pile; choices = b.choices; visits = b.visits; comes = c.comes; rest = b.rest }; mark = b.mark };
          linked = λ n' k' p f. let z = forest.one (Place.link k r e q) p in subst (λ u. Behind n' u m) z.1 (subst (λ u. Behind u k m) z.0 b);
        }

    other_class : {n p k j c : ℕ} {t : Class} → (node ns p).class ≡ t → ¬ (t ≡ Chain) → Place ns p j c → Place ns n k c → (node ns n).class ≡ Chain → ⊥
    other_class {n} {p} e d a b f = let z = forest.one a b in d (sym e ∙ ap (λ u. (node ns u).class) z.0 ∙ f)

    by_other : (x m : ℕ) → After ns rs x m → ((n k : ℕ) → Place ns n k x → (node ns n).class ≡ Chain → ⊥) → Holds x m
    by_other x m a h = record { known = a; linked = λ n k p e. absurd (h n k p e) }

    Alternative≢Chain : ¬ (Alternative ≡ Chain)
    Alternative≢Chain e = let z : ◌≡◌ {A = ℕ} 0 1 = cc in omega arith

    Optional≢Chain : ¬ (Optional ≡ Chain)
    Optional≢Chain e = let z : ◌≡◌ {A = ℕ} 0 1 = cc in omega arith

    Repetition≢Chain : ¬ (Repetition ≡ Chain)
    Repetition≢Chain e = let z : ◌≡◌ {A = ℕ} 0 1 = cc in omega arith

    module _ (reachable : (n : ℕ) → n < length ns → Reachable ns rs n) (f : ℕ → ℕ) (least : Least first ns rs f) where
      means : (n : ℕ) → n < length ns → Means ns rs n (f n)
      means = first_means ns rs formed productive f least

      pile_productive : (xs : List ℕ) → Within ns xs → ProductiveAll ns rs xs
      pile_productive xs within = productive_all ns rs xs (λ k q. productive (get_or xs k 0) (within k q))

      somewhere : (n : ℕ) → n < length ns → Somewhere n
      somewhere n r = reachable_somewhere (reachable n r)

      behind_starts : (n k m : ℕ) → n < length ns → (node ns n).class ≡ Chain → suc k < length (children ns n) → Starts ns rs (get_or (children ns n) (suc k) 0) m → Behind n k m
      behind_starts n k m r e q st =
          let s = somewhere n r in
          let xs = drop (suc (suc k)) (children ns n) in
          let below : Within ns s.pile = within_rest ns n s.pile (comes_within ns rs formed f least.solves s.reaches.comes) in
          let p = pile_productive (xs ++ s.pile) (within_append ns xs s.pile (within_drop ns (children ns n) (suc (suc k)) (child_within ns rs formed n r)) below) in
          record {
            pile = s.pile;
            reaches = s.reaches;
            choices = st.choices ++ p.choices;
            after = m ∷ (st.after ++ p.kinds);
            visits = st.visits + p.visits;
            rest = subst (λ u. YieldsAll ns rs (u ++ s.pile) (st.choices ++ p.choices) (m ∷ (st.after ++ p.kinds)) (st.visits + p.visits)) (sym (drop-cons (children ns n) (suc k) 0 q)) (more st.yields p.yields);
            mark = refl;
          }

      behind_null : (n k m : ℕ) → suc k < length (children ns n) → Nullable ns rs (get_or (children ns n) (suc k) 0) → Behind n (suc k) m → Behind n k m
      behind_null n k m q nu b =
          record {
            pile = b.pile;
            reaches = b.reaches;
            choices = nu.choices ++ b.choices;
            after = b.after;
            visits = nu.visits + b.visits;
            rest = subst (λ u. YieldsAll ns rs (u ++ b.pile) (nu.choices ++ b.choices) b.after (nu.visits + b.visits)) (sym (drop-cons (children ns n) (suc k) 0 q)) (more nu.yields b.rest);
            mark = b.mark;
          }

      behind_last : (n k m : ℕ) → suc k ≡ length (children ns n) → After ns rs n m → Behind n k m
      behind_last n k m q a =
          record {
            pile = a.met.pile;
            reaches = record { before = a.before; comes = a.met.comes };
            choices = a.met.choices;
            after = a.after;
            visits = a.met.visits;
            rest = subst (λ u. YieldsAll ns rs (u ++ a.met.pile) a.met.choices a.after a.met.visits) (sym (drop_of_length-le (children ns n) {i = suc k} (omega arith))) a.met.rest;
            mark = a.mark;
          }

      -- another node on top of the same pile
      after_on : (n x m : ℕ) → ((b p : List ℕ) → Comes ns rs b (n ∷ p) → Comes ns rs b (x ∷ p)) → After ns rs n m → After ns rs x m
      after_on n x m h a = record { before = a.before; after = a.after; met = record { pile = a.met.pile; choices = a.met.choices; visits = a.met.visits; comes = h a.before a.met.pile a.met.comes; rest = a.met.rest }; mark = a.mark }

      direct_holds : {x m : ℕ} → Direct ns rs f x m → Holds x m
      direct_holds Direct.end = by_other (start_root rs) 0 (record { before = []; after = []; met = record { pile = []; choices = []; visits = 0; comes = Comes.start; rest = done }; mark = refl }) (λ n k p e. forest.free (record { rule = 0; within = formed.started; is = refl }) p)
      direct_holds (Direct.sibling {n = n} {c = c} {d = d} {m = m} r e next has) =
          let q = next_at next in
          let w = has_without (f d) m has in
          let st = (means (get_or (children ns n) (suc q.0) 0) (child_within ns rs formed n r (suc q.0) q.1)).kinds m w.0 (subst (λ u. Has (f u) m) (sym q.3) w.1) in
          let q₁ = q.1 in
          subst (λ u. Holds u m) q.2 (by_chain n q.0 m r e (omega arith) (behind_starts n q.0 m r e q₁ st))
      direct_holds (Direct.round {n = n} {m = m} r e has) =
          let s = somewhere n r in
          let w = has_without (f (node ns n).first) m has in
          let st = (means (node ns n).first (repetition_within ns rs formed n r e)).kinds m w.0 w.1 in
          let p = pile_productive s.pile (within_rest ns n s.pile (comes_within ns rs formed f least.solves s.reaches.comes)) in
          by_other (node ns n).first m
          (record {
            before = s.reaches.before;
            after = m ∷ ((st.after ++ []) ++ p.kinds);
            met = record { pile = n ∷ s.pile; choices = (1 ∷ (st.choices ++ (0 ∷ []))) ++ p.choices; visits = suc (st.visits + 1) + p.visits; comes = Comes.round e s.reaches.comes; rest = more (Y.again e st.yields (Y.stop e)) p.yields };
            mark = refl;
          })
          (λ n' k a g. other_class e Repetition≢Chain (Place.round r e) a g)

      rests_holds : {x y : ℕ} (m : ℕ) → Rests ns rs f x y → Holds y m → Holds x m
      rests_holds m (Rests.root {n = n} r e) h = by_other (root_of ns rs n) m (after_on n (root_of ns rs n) m (λ b p c. Comes.name e c) h.known) (λ n' k a g. forest.free (record { rule = (node ns n).value; within = formed.names n r e; is = refl }) a)
      rests_holds m (Rests.last {n = n} {c = c} r e last) h =
          let q = last_at last in
          let q₁ = q.1 in
          subst (λ u. Holds u m) q.2 (by_chain n q.0 m r e (omega arith) (behind_last n q.0 m q₁ h.known))
      rests_holds m (Rests.branch {n = n} k r e q) h = by_other (get_or (children ns n) k 0) m (after_on n (get_or (children ns n) k 0) m (λ b p c. Comes.branch k e q c) h.known) (λ n' k' a g. other_class e Alternative≢Chain (Place.branch k r e q) a g)
      rests_holds m (Rests.option {n = n} r e) h = by_other (node ns n).first m (after_on n (node ns n).first m (λ b p c. Comes.option e c) h.known) (λ n' k a g. other_class e Optional≢Chain (Place.option r e) a g)
      rests_holds m (Rests.round {n = n} r e) h =
          let a = h.known in
          by_other (node ns n).first m
          (record {
            before = a.before;
            after = a.after;
            met = record { pile = n ∷ a.met.pile; choices = 0 ∷ a.met.choices; visits = 1 + a.met.visits; comes = Comes.round e a.met.comes; rest = more (Y.stop e) a.met.rest };
            mark = a.mark;
          })
          (λ n' k p g. other_class e Repetition≢Chain (Place.round r e) p g)
      rests_holds m (Rests.sibling {n = n} {c = c} {d = d} r e next has) h =
          let q = next_at next in
          let q₁ = q.1 in
          let nu = (means (get_or (children ns n) (suc q.0) 0) (child_within ns rs formed n r (suc q.0) q₁)).nulls (subst (λ u. Has (f u) 127) (sym q.3) has) in
          let b = h.linked n (suc q.0) (subst (Place ns n (suc q.0)) q.3 (Place.link (suc q.0) r e q₁)) e in
          subst (λ u. Holds u m) q.2 (by_chain n q.0 m r e (omega arith) (behind_null n q.0 m q₁ nu b))

      follow_holds : {x m : ℕ} → Follow ns rs f x m → Holds x m
      follow_holds (Follow.direct d) = direct_holds d
      follow_holds (Follow.through {m = m} r h) = rests_holds m r (follow_holds h)

      pub follow_after : (x m : ℕ) → Follow ns rs f x m → After ns rs x m
      follow_after x m h = (follow_holds h).known
