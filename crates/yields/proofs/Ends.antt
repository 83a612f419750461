-- What can end is what yields something.
use Rattle.std.proofs.Common.{◌≡◌, ℕ, zero, suc, ◌+◌, ◌<◌, Bool, true, false, ◌&&◌, ◌||◌, ◌⊎◌, List, [], ◌∷◌, ◌++◌, length, get_or, sym, refl, ap, ◌∙◌, inl, inr, arith}
use mathlib.Core.Bool.{false≢true}
use Rattle.tree.specs.declared.class.Class.{Class}
use Rattle.tree.specs.declared.class.Class.TheVariants.{Empty, Token, Name, Chain, Alternative, Optional, Repetition}
use Rattle.tree.specs.declared.node.Node.{Node}
use Rattle.tree.specs.Tree.{node, children}
use Rattle.yields.specs.Yield.{Yields, YieldsAll, empty, token, name, chain, branch, skip, into, stop, again, done, more}
use Rattle.yields.specs.WellFormed.{WellFormed, root_of}
use Rattle.yields.specs.Weighing.{Weighing}
use Rattle.yields.specs.Equations.{chained, joined, by_class, Solves, Least}
use Rattle.yields.specs.Marks.{ending}
use Rattle.yields.specs.Meaning.{Productive, ProductiveAll}
use Rattle.yields.proofs.Kleene.{least_all}
use Rattle.yields.proofs.Laws.{ending_laws}

-- a solution's value at a node of a known class
pub value_at : {V : Type 0} (w : Weighing V) (ns : List Node) (rs : List ℕ) (f : ℕ → V) → Solves w ns rs f → (n : ℕ) → n < length ns → (k : Class) → (node ns n).class ≡ k → f n ≡ by_class w ns rs f n k
value_at w ns rs f solves n r k e = sym (solves.at n r) ∙ ap (by_class w ns rs f n) e

-- every node of a list is a node of the table
abbrev pub Within : List Node → List ℕ → Type 0
Within ns xs = (k : ℕ) → k < length xs → get_or xs k 0 < length ns

pub within_rest : (ns : List Node) (x : ℕ) (xs : List ℕ) → Within ns (x ∷ xs) → Within ns xs
within_rest ns x xs h k r = h (suc k) (omega arith)

module _ (ns : List Node) (rs : List ℕ) (formed : WellFormed ns rs) where
  pub child_within : (n : ℕ) → n < length ns → Within ns (children ns n)
  child_within n r k h = let q = formed.below n k r h in omega arith

  pub root_within : (n : ℕ) → n < length ns → (node ns n).class ≡ Name → root_of ns rs n < length ns
  root_within n r e = formed.roots (node ns n).value (formed.names n r e)

  pub option_within : (n : ℕ) → n < length ns → (node ns n).class ≡ Optional → (node ns n).first < length ns
  option_within n r e = let q = formed.options n r e in omega arith

  pub repetition_within : (n : ℕ) → n < length ns → (node ns n).class ≡ Repetition → (node ns n).first < length ns
  repetition_within n r e = let q = formed.repetitions n r e in omega arith

joined_some : (f : ℕ → Bool) (xs : List ℕ) (k : ℕ) → k < length xs → f (get_or xs k 0) ≡ true → joined ending f xs ≡ true
joined_some f [] k r h = absurd (omega arith)
joined_some f (x ∷ xs) zero r h = ap (λ u. u || joined ending f xs) h
joined_some f (x ∷ xs) (suc k) r h = ap (λ u. f x || u) (joined_some f xs k (omega arith) h) ∙ or_true (f x)
  where
    or_true : (b : Bool) → (b || true) ≡ true
    or_true true = refl
    or_true false = refl

module _ (ns : List Node) (rs : List ℕ) (formed : WellFormed ns rs) (f : ℕ → Bool) (solves : Solves ending ns rs f) where
  mutual
    pub yields_ends : {n v : ℕ} {cs ks : List ℕ} → Yields ns rs n cs ks v → n < length ns → f n ≡ true
    yields_ends (empty {n = n} e) r = value_at ending ns rs f solves n r Empty e
    yields_ends (token {n = n} e) r = value_at ending ns rs f solves n r Token e
    yields_ends (name {n = n} e y) r = value_at ending ns rs f solves n r Name e ∙ yields_ends y (root_within ns rs formed n r e)
    yields_ends (chain {n = n} e y) r = value_at ending ns rs f solves n r Chain e ∙ yields_all_end y (child_within ns rs formed n r)
    yields_ends (branch {n = n} k e q y) r = value_at ending ns rs f solves n r Alternative e ∙ joined_some f (children ns n) k q (yields_ends y (child_within ns rs formed n r k q))
    yields_ends (skip {n = n} e) r = value_at ending ns rs f solves n r Optional e
    yields_ends (into {n = n} e y) r = value_at ending ns rs f solves n r Optional e
    yields_ends (stop {n = n} e) r = value_at ending ns rs f solves n r Repetition e
    yields_ends (again {n = n} e y z) r = value_at ending ns rs f solves n r Repetition e

    yields_all_end : {xs : List ℕ} {v : ℕ} {cs ks : List ℕ} → YieldsAll ns rs xs cs ks v → Within ns xs → chained ending f xs ≡ true
    yields_all_end done h = refl
    yields_all_end (more {c = c} {rest = rest} y z) h = ap (λ u. u && chained ending f rest) (yields_ends y (h 0 (omega arith))) ∙ yields_all_end z (within_rest ns c rest h)

and_true : (a b : Bool) → (a && b) ≡ true → (a ≡ true) × (b ≡ true)
and_true true b h = (refl, h)
and_true false b h = absurd (false≢true h)

or_either : (a b : Bool) → (a || b) ≡ true → (a ≡ true) ⊎ (b ≡ true)
or_either true b h = inl refl
or_either false b h = inr h

-- which of them it is
joined_which : (f : ℕ → Bool) (xs : List ℕ) → joined ending f xs ≡ true → (k : ℕ) × (k < length xs) × (f (get_or xs k 0) ≡ true)
joined_which f [] h = absurd (false≢true h)
joined_which f (x ∷ xs) h = go (joined_which f xs) (or_either (f x) (joined ending f xs) h)
  where
    go : (joined ending f xs ≡ true → (k : ℕ) × (k < length xs) × (f (get_or xs k 0) ≡ true)) → (f x ≡ true) ⊎ (joined ending f xs ≡ true) → (k : ℕ) × (k < suc (length xs)) × (f (get_or (x ∷ xs) k 0) ≡ true)
    go ih (inl e) = (0, omega arith, e)
    go ih (inr e) = let q = ih e in let s = q.1 in (suc q.0, omega arith, q.2)

module _ (ns : List Node) (rs : List ℕ) where
  pub productive_all : (xs : List ℕ) → ((k : ℕ) → k < length xs → Productive ns rs (get_or xs k 0)) → ProductiveAll ns rs xs
  productive_all [] h = record { choices = []; kinds = []; visits = 0; yields = done }
  productive_all (x ∷ xs) h =
      let p = h 0 (omega arith) in
      let q = productive_all xs (λ k r. h (suc k) (omega arith)) in
      record { choices = p.choices ++ q.choices; kinds = p.kinds ++ q.kinds; visits = p.visits + q.visits; yields = more p.yields q.yields }

  module _ (f : ℕ → Bool) (known : (i : ℕ) → f i ≡ true → Productive ns rs i) where
    chained_productive : (xs : List ℕ) → chained ending f xs ≡ true → ProductiveAll ns rs xs
    chained_productive [] h = record { choices = []; kinds = []; visits = 0; yields = done }
    chained_productive (x ∷ xs) h =
        let b = and_true (f x) (chained ending f xs) h in
        let p = known x b.0 in
        let q = chained_productive xs b.1 in
        record { choices = p.choices ++ q.choices; kinds = p.kinds ++ q.kinds; visits = p.visits + q.visits; yields = more p.yields q.yields }

    class_productive : (n : ℕ) (k : Class) → (node ns n).class ≡ k → by_class ending ns rs f n k ≡ true → Productive ns rs n
    class_productive n Empty e h = record { choices = []; kinds = []; visits = 1; yields = empty e }
    class_productive n Token e h = record { choices = []; kinds = (node ns n).value ∷ []; visits = 1; yields = token e }
    class_productive n Name e h = let p = known (root_of ns rs n) h in record { choices = p.choices; kinds = p.kinds; visits = suc p.visits; yields = name e p.yields }
    class_productive n Chain e h = let p = chained_productive (children ns n) h in record { choices = p.choices; kinds = p.kinds; visits = suc p.visits; yields = chain e p.yields }
    class_productive n Alternative e h = let q = joined_which f (children ns n) h in let p = known (get_or (children ns n) q.0 0) q.2 in record { choices = q.0 ∷ p.choices; kinds = p.kinds; visits = suc p.visits; yields = branch q.0 e q.1 p.yields }
    class_productive n Optional e h = record { choices = 0 ∷ []; kinds = []; visits = 1; yields = skip e }
    class_productive n Repetition e h = record { choices = 0 ∷ []; kinds = []; visits = 1; yields = stop e }

module _ (ns : List Node) (rs : List ℕ) (formed : WellFormed ns rs) where
  -- the least solution is yes exactly where something is yielded
  pub ends_productive : (f : ℕ → Bool) → Least ending ns rs f → (n : ℕ) → n < length ns → f n ≡ true → Productive ns rs n
  ends_productive f least = least_all ending ending_laws ns rs formed (λ n b. b ≡ true → Productive ns rs n) (λ n h. absurd (false≢true h)) (λ g fits known n r h. class_productive ns rs g known n (node ns n).class refl h) f least

  pub productive_ends : (f : ℕ → Bool) → Least ending ns rs f → (n : ℕ) → n < length ns → Productive ns rs n → f n ≡ true
  productive_ends f least n r p = yields_ends ns rs formed f least.solves p.yields r
