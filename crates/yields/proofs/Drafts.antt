-- The nodes of well-formed tables are in order, and each has one place.
use Rattle.std.proofs.Common.{◌≡◌, ℕ, zero, suc, ◌<◌, ◌≤◌, ◌⊎◌, List, [], ◌∷◌, length, get_or, sym, refl, ap, ◌∙◌, subst, inl, inr, arith}
use mathlib.Core.Option.{some}
use Rattle.tree.specs.declared.class.Class.{Class}
use Rattle.tree.specs.declared.class.Class.TheVariants.{Empty, Token, Name, Chain, Alternative, Optional, Repetition}
use Rattle.tree.specs.declared.node.Node.{Node}
use Rattle.tree.specs.Tree.{node, children}
use Rattle.notation.specs.Tables.{Entry, Tables}
use Rattle.notation.specs.Statements.{Each}
use Rattle.notation.specs.Shaped.{In, Rising, first_of, Arity, Valued, root_at, IsWellFormed}
use Rattle.yields.specs.WellFormed.{WellFormed, Place, Root, Placed, Forest, link, branch, option, round}
use Rattle.yields.specs.Drafts.{RootsOf, DraftsFormed}

-- where c stands in a list
record At (c : ℕ) (xs : List ℕ) : Type 0 where
  place : ℕ
  within : place < length xs
  is : get_or xs place 0 ≡ c

at_in : (c : ℕ) (xs : List ℕ) → In c xs → At c xs
at_in c [] i = absurd i
at_in c (x ∷ xs) (inl e) = record { place = 0; within = omega arith; is = e }
at_in c (x ∷ xs) (inr i) = let a = at_in c xs i in record { place = suc a.place; within = let w = a.within in omega arith; is = a.is }

in_at : (xs : List ℕ) (k : ℕ) → k < length xs → In (get_or xs k 0) xs
in_at [] k h = absurd (omega arith)
in_at (x ∷ xs) zero h = inl refl
in_at (x ∷ xs) (suc k) h = inr (in_at xs k (omega arith))

each_at : (n : ℕ) (xs : List ℕ) (k : ℕ) → Each (λ c. c < n) xs → k < length xs → get_or xs k 0 < n
each_at n [] k e h = absurd (omega arith)
each_at n (x ∷ xs) zero e h = e.0
each_at n (x ∷ xs) (suc k) e h = each_at n xs k e.1 (omega arith)

first_at : (xs : List ℕ) → length xs ≡ 1 → get_or xs 0 0 ≡ first_of xs
first_at [] h = absurd (omega arith)
first_at (x ∷ xs) h = refl

-- a list that rises has each number once
rising_rest : (x : ℕ) (xs : List ℕ) → Rising (x ∷ xs) → Rising xs
rising_rest x [] r = tt
rising_rest x (y ∷ ys) r = r.1

rising_above : (x : ℕ) (xs : List ℕ) (k : ℕ) → Rising (x ∷ xs) → k < length xs → x < get_or xs k 0
rising_above x [] k r h = absurd (omega arith)
rising_above x (y ∷ ys) zero r h = r.0
rising_above x (y ∷ ys) (suc k) r h = let p = r.0 in let q = rising_above y ys k r.1 (omega arith) in omega arith

rising_once : (xs : List ℕ) (k j : ℕ) → Rising xs → k < length xs → j < length xs → get_or xs k 0 ≡ get_or xs j 0 → k ≡ j
rising_once [] k j r h i e = absurd (omega arith)
rising_once (x ∷ xs) zero zero r h i e = refl
rising_once (x ∷ xs) zero (suc j) r h i e = let q = rising_above x xs j r (omega arith) in absurd (omega arith)
rising_once (x ∷ xs) (suc k) zero r h i e = let q = rising_above x xs k r (omega arith) in absurd (omega arith)
rising_once (x ∷ xs) (suc k) (suc j) r h i e = ap suc (rising_once xs k j (rising_rest x xs r) (omega arith) (omega arith) e)

root_within : (es : List Entry) (k r : ℕ) → root_at es k ≡ some r → k < length es
root_within [] k r e = let z : ◌≡◌ {A = ℕ} 0 1 = cc in absurd (omega arith)
root_within (e ∷ es) zero r h = omega arith
root_within (e ∷ es) (suc k) r h = let q = root_within es k r h in omega arith

-- what a place says of the children
record Stands (ns : List Node) (p k c : ℕ) : Type 0 where
  parent : p < length ns
  within : k < length (children ns p)
  is : get_or (children ns p) k 0 ≡ c

module _ (T : Tables) (rs : List ℕ) (right : IsWellFormed T) (few : length T.kinds ≤ 120) (roots : RootsOf T rs) where
  count : (n : ℕ) (k : Class) → n < length T.nodes → (node T.nodes n).class ≡ k → Arity k (length (children T.nodes n))
  count n k r e = subst (λ u. Arity u (length (children T.nodes n))) e (right.nodes_right n r).counted

  value : (n : ℕ) (k : Class) → n < length T.nodes → (node T.nodes n).class ≡ k → Valued (length T.names) (length T.kinds) k (node T.nodes n).value
  value n k r e = subst (λ u. Valued (length T.names) (length T.kinds) u (node T.nodes n).value) e (right.nodes_right n r).valued

  below : (n k : ℕ) → n < length T.nodes → k < length (children T.nodes n) → get_or (children T.nodes n) k 0 < n
  below n k r h = each_at n (children T.nodes n) k (right.nodes_right n r).below h

  -- the only child is the first
  only : (n : ℕ) → n < length T.nodes → length (children T.nodes n) ≡ 1 → get_or (children T.nodes n) 0 0 ≡ (node T.nodes n).first
  only n r h = first_at (children T.nodes n) h ∙ sym (right.nodes_right n r).first_is

  first_below : (n : ℕ) → n < length T.nodes → length (children T.nodes n) ≡ 1 → (node T.nodes n).first < n
  first_below n r h = subst (λ u. u < n) (only n r h) (below n 0 r (omega arith))

  kind_fits : (n : ℕ) → n < length T.nodes → (node T.nodes n).class ≡ Token → (0 < (node T.nodes n).value) × ((node T.nodes n).value < 127)
  kind_fits n r e = let v = value n Token r e in let a = v.0 in let b = v.1 in (omega arith, omega arith)

  name_fits : (n : ℕ) → n < length T.nodes → (node T.nodes n).class ≡ Name → (node T.nodes n).value < length rs
  name_fits n r e = let v = value n Name r e in let l = roots.long in omega arith

  root_fits : (k : ℕ) → k < length rs → get_or rs k 0 < length T.nodes
  root_fits k h =
      let l = roots.long in
      let q = right.rooted k (omega arith) in
      subst (λ u. u < length T.nodes) (sym (roots.at k q.0 q.1)) q.2

  some_root : 0 < length rs
  some_root = let q = right.last_root in let h = root_within T.names q.0 q.1 q.2 in let l = roots.long in omega arith

  pub formed : WellFormed T.nodes rs
  formed = record {
    kinds = kind_fits;
    names = name_fits;
    roots = root_fits;
    started = some_root;
    below = below;
    options = λ n r e. first_below n r (count n Optional r e);
    repetitions = λ n r e. first_below n r (count n Repetition r e);
    branches = λ n r e. let c = count n Alternative r e in omega arith;
  }

  stands : {p k c : ℕ} → Place T.nodes p k c → Stands T.nodes p k c
  stands (link k r e h) = record { parent = r; within = h; is = refl }
  stands (branch k r e h) = record { parent = r; within = h; is = refl }
  stands (option {p = p} r e) = let c = count p Optional r e in record { parent = r; within = omega arith; is = only p r c }
  stands (round {p = p} r e) = let c = count p Repetition r e in record { parent = r; within = omega arith; is = only p r c }

  child_in : (p k c : ℕ) → Stands T.nodes p k c → In c (children T.nodes p)
  child_in p k c s = subst (λ u. In u (children T.nodes p)) s.is (in_at (children T.nodes p) k s.within)

  one_place : (p k q j c : ℕ) → Stands T.nodes p k c → Stands T.nodes q j c → (p ≡ q) × (k ≡ j)
  one_place p k q j c s t =
      let e : p ≡ q = right.one_parent p q c s.parent t.parent (child_in p k c s) (child_in q j c t) in
      let u : Stands T.nodes p j c = subst (λ x. Stands T.nodes x j c) (sym e) t in
      (e, rising_once (children T.nodes p) k j (right.nodes_right p s.parent).rising s.within u.within (s.is ∙ sym u.is))

  root_free : (p k c : ℕ) → Root rs c → Stands T.nodes p k c → ⊥
  root_free p k c root s =
      let l = roots.long in
      let w = root.within in
      let q = right.rooted root.rule (omega arith) in
      let e : c ≡ q.0 = sym root.is ∙ roots.at root.rule q.0 q.1 in
      right.no_parent root.rule q.0 p q.1 s.parent (subst (λ u. In u (children T.nodes p)) e (child_in p k c s))

  first_is : (i c : ℕ) → i < length T.nodes → length (children T.nodes i) ≡ 1 → At c (children T.nodes i) → (node T.nodes i).first ≡ c
  first_is i c r h a =
      let w = a.within in
      let z : a.place ≡ 0 = omega arith in
      sym (only i r h) ∙ subst (λ u. get_or (children T.nodes i) u 0 ≡ c) z a.is

  placed : (i c : ℕ) → i < length T.nodes → At c (children T.nodes i) → (k : Class) → (node T.nodes i).class ≡ k → Placed T.nodes c
  placed i c r a Empty e = let n = count i Empty r e in let w = a.within in absurd (omega arith)
  placed i c r a Token e = let n = count i Token r e in let w = a.within in absurd (omega arith)
  placed i c r a Name e = let n = count i Name r e in let w = a.within in absurd (omega arith)
  placed i c r a Chain e = record { parent = i; position = a.place; place = subst (λ u. Place T.nodes i a.place u) a.is (link a.place r e a.within) }
  placed i c r a Alternative e = record { parent = i; position = a.place; place = subst (λ u. Place T.nodes i a.place u) a.is (branch a.place r e a.within) }
  placed i c r a Optional e = record { parent = i; position = 0; place = subst (λ u. Place T.nodes i 0 u) (first_is i c r (count i Optional r e) a) (option r e) }
  placed i c r a Repetition e = record { parent = i; position = 0; place = subst (λ u. Place T.nodes i 0 u) (first_is i c r (count i Repetition r e) a) (round r e) }

  owner : (n : ℕ) → n < length T.nodes → Root rs n ⊎ Placed T.nodes n
  owner n r = go (right.owned n r)
    where
      go : ((k : ℕ) × (root_at T.names k ≡ some n)) ⊎ ((i : ℕ) × (i < length T.nodes) × In n (children T.nodes i)) → Root rs n ⊎ Placed T.nodes n
      go (inl q) = let h = root_within T.names q.0 n q.1 in let l = roots.long in inl (record { rule = q.0; within = omega arith; is = roots.at q.0 n q.1 })
      go (inr q) = inr (placed q.0 n q.1 (at_in n (children T.nodes q.0) q.2) (node T.nodes q.0).class refl)

  pub forest : Forest T.nodes rs
  forest = record {
    one = λ {p} {k} {q} {j} {c} s t. one_place p k q j c (stands s) (stands t);
    free = λ {p} {k} {c} root s. root_free p k c root (stands s);
    some = owner;
  }

pub drafts_formed : DraftsFormed
drafts_formed T rs right few roots = (formed T rs right few roots, forest T rs right few roots)
