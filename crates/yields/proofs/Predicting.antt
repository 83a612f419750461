-- In a grammar that has passed, the next mark decides.
use Rattle.std.proofs.Common.{◌≡◌, ℕ, zero, suc, ◌<◌, List, [], ◌∷◌, ◌++◌, length, get_or, sym, refl, subst, arith}
use native.Mathlib.Decide.{ℕ_discrete}
use Rattle.tree.specs.declared.class.Class.TheVariants.{Alternative}
use Rattle.tree.specs.declared.node.Node.{Node}
use Rattle.tree.specs.Tree.{node, children}
use Rattle.yields.specs.Yield.{Yields, YieldsAll, empty, token, name, chain, branch, skip, into, stop, again, done, more}
use Rattle.yields.specs.WellFormed.{WellFormed}
use Rattle.yields.specs.Equations.{Least, joined}
use Rattle.yields.specs.Marks.{Has, first}
use Rattle.yields.specs.Follow.{Follow}
use Rattle.yields.specs.Context.{mark_of, Comes, After}
use Rattle.yields.specs.Passing.{child, ELL1}
use Rattle.yields.specs.Predict.{Picks, Predicts, has, none}
use Rattle.yields.proofs.Sets.{or_left, or_right}
use Rattle.yields.proofs.Ends.{value_at, Within, within_rest, child_within, option_within, repetition_within, root_within}
use Rattle.yields.proofs.Firsts.{Shows, yields_shows, first_means}
use Rattle.yields.proofs.Contexts.{comes_within, after_follow}
use Rattle.yields.proofs.Follows.{nodes_productive}

-- each is a kind
abbrev pub Kinds : List ℕ → Type 0
Kinds [] = Unit {0}
Kinds (k ∷ ks) = ((0 < k) × (k < 127)) × Kinds ks

kinds_append : (ks ls : List ℕ) → Kinds ks → Kinds ls → Kinds (ks ++ ls)
kinds_append [] ls p q = q
kinds_append (k ∷ ks) ls p q = (p.0, kinds_append ks ls p.1 q)

module _ (ns : List Node) (rs : List ℕ) (formed : WellFormed ns rs) where
  mutual
    pub yields_kinds : {n v : ℕ} {cs ks : List ℕ} → Yields ns rs n cs ks v → n < length ns → Kinds ks
    yields_kinds (empty e) r = tt
    yields_kinds (token {n = n} e) r = (formed.kinds n r e, tt)
    yields_kinds (name {n = n} e y) r = yields_kinds y (root_within ns rs formed n r e)
    yields_kinds (chain {n = n} e y) r = yields_all_kinds y (child_within ns rs formed n r)
    yields_kinds (branch {n = n} k e q y) r = yields_kinds y (child_within ns rs formed n r k q)
    yields_kinds (skip e) r = tt
    yields_kinds (into {n = n} e y) r = yields_kinds y (option_within ns rs formed n r e)
    yields_kinds (stop e) r = tt
    yields_kinds (again {n = n} {ks = ks} {ls = ls} e y z) r = kinds_append ks ls (yields_kinds y (repetition_within ns rs formed n r e)) (yields_kinds z r)

    pub yields_all_kinds : {xs : List ℕ} {v : ℕ} {cs ks : List ℕ} → YieldsAll ns rs xs cs ks v → Within ns xs → Kinds ks
    yields_all_kinds done h = tt
    yields_all_kinds (more {c = c} {rest = rest} {ks = ks} {ls = ls} y z) h = kinds_append ks ls (yields_kinds y (h 0 (omega arith))) (yields_all_kinds z (within_rest ns c rest h))

mark_below : (ks : List ℕ) → Kinds ks → mark_of ks < 127
mark_below [] h = omega arith
mark_below (k ∷ ks) h = h.0.1

joined_member : (f : ℕ → ℕ) (xs : List ℕ) (k m : ℕ) → k < length xs → Has (f (get_or xs k 0)) m → Has (joined first f xs) m
joined_member f [] k m r h = absurd (omega arith)
joined_member f (x ∷ xs) zero m r h = or_left (f x) (joined first f xs) m h
joined_member f (x ∷ xs) (suc k) m r h = or_right (f x) (joined first f xs) m (joined_member f xs k m (omega arith) h)

module _ (ns : List Node) (rs : List ℕ) (formed : WellFormed ns rs) (f : ℕ → ℕ) (least : Least first ns rs f) (passing : ELL1 ns rs f) where
  pub no_end : (n : ℕ) → n < length ns → ¬ Has (f n) 0
  no_end n r h = let s = (first_means ns rs formed (nodes_productive ns rs formed passing.yielding) f least n r).kinds 0 (omega arith) h in let z = (yields_kinds ns rs formed s.yields r).0.0 in omega arith

  on_top : {n : ℕ} {before pile : List ℕ} → Comes ns rs before (n ∷ pile) → n < length ns
  on_top c = comes_within ns rs formed f least.solves c 0 (omega arith)

  follows : {n u : ℕ} {before pile ds ls : List ℕ} → Comes ns rs before (n ∷ pile) → YieldsAll ns rs pile ds ls u → Follow ns rs f n (mark_of ls)
  follows {n} {u} {before} {pile} {ds} {ls} c z = after_follow ns rs formed f least.solves n (mark_of ls) (record { before = before; after = ls; met = record { pile = pile; choices = ds; visits = u; comes = c; rest = z }; mark = refl })

  next_below : {n u : ℕ} {before pile ds ls : List ℕ} → Comes ns rs before (n ∷ pile) → YieldsAll ns rs pile ds ls u → mark_of ls < 127
  next_below {n} {pile = pile} {ls = ls} c z = mark_below ls (yields_all_kinds ns rs formed z (within_rest ns n pile (comes_within ns rs formed f least.solves c)))

  -- the end mark comes after n only where nothing does
  pub after_end : (n : ℕ) (a : After ns rs n 0) → a.after ≡ []
  after_end n a = go a.after a.mark (yields_all_kinds ns rs formed a.met.rest (within_rest ns n a.met.pile (comes_within ns rs formed f least.solves a.met.comes)))
    where
      go : (ks : List ℕ) → mark_of ks ≡ 0 → Kinds ks → ks ≡ []
      go [] e h = refl
      go (k ∷ ks) e h = let z = h.0.0 in absurd (omega arith)

  picks_kinds : (n i m : ℕ) → n < length ns → (node ns n).class ≡ Alternative → i < length (children ns n) → (ks ls : List ℕ) → Shows ks (f (child ns n i)) → mark_of ls < 127 → Follow ns rs f n (mark_of ls) → Picks ns f n (mark_of (ks ++ ls)) i
  picks_kinds n i m r e q [] ls s b h = none q (λ j p a. passing.clear n (mark_of ls) r e (at i 127 q s) b (at j (mark_of ls) p a) h) s
    where
      at : (j m : ℕ) → j < length (children ns n) → Has (f (child ns n j)) m → Has (f n) m
      at j m p a = subst (λ u. Has u m) (sym (value_at first ns rs f least.solves n r Alternative e)) (joined_member f (children ns n) j m p a)
  picks_kinds n i m r e q (k ∷ ks) ls s b h = has q s.1

  picks_one : (n m i j : ℕ) → n < length ns → (node ns n).class ≡ Alternative → Picks ns f n m i → Picks ns f n m j → i ≡ j
  picks_one n m i j r e (has p a) (has q b) = go (ℕ_discrete i j)
    where
      go : Dec (i ≡ j) → i ≡ j
      go (yes z) = z
      go (no d) = absurd (passing.apart n i j m r e p q d a b)
  picks_one n m i j r e (has p a) (none q b t) = absurd (b i p a)
  picks_one n m i j r e (none p a s) (has q b) = absurd (a j q b)
  picks_one n m i j r e (none p a s) (none q b t) = go (ℕ_discrete i j)
    where
      go : Dec (i ≡ j) → i ≡ j
      go (yes z) = z
      go (no d) = absurd (passing.apart n i j 127 r e p q d s t)

  full_kinds : (n : ℕ) (ks ls : List ℕ) → ¬ Has (f n) 127 → Shows ks (f n) → Has (f n) (mark_of (ks ++ ls))
  full_kinds n [] ls d s = absurd (d s)
  full_kinds n (k ∷ ks) ls d s = s.1

  pub predicts : Predicts ns rs f
  predicts = record {
    branch = λ n i v u before pile cs ks ds ls c e q y z. picks_kinds n i 0 (on_top c) e q ks ls (yields_shows ns rs formed f least.solves y (child_within ns rs formed n (on_top c) i q)) (next_below c z) (follows c z);
    one = picks_one;
    option_in = λ n v u before pile cs ks ds ls c e y z. full_kinds (node ns n).first ks ls (passing.option_full n (on_top c) e) (yields_shows ns rs formed f least.solves y (option_within ns rs formed n (on_top c) e));
    option_past = λ n u before pile ds ls c e z h. passing.option_clear n (mark_of ls) (on_top c) e (next_below c z) h (follows c z);
    round_in = λ n v u before pile cs ks ds ls c e y z. full_kinds (node ns n).first ks ls (passing.round_full n (on_top c) e) (yields_shows ns rs formed f least.solves y (repetition_within ns rs formed n (on_top c) e));
    round_past = λ n u before pile ds ls c e z h. passing.round_clear n (mark_of ls) (on_top c) e (next_below c z) h (follows c z);
  }
