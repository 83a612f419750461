-- In a grammar that has passed, each sentence has one choice list.
use Rattle.std.proofs.Common.{◌≡◌, ℕ, suc, ◌+◌, ◌<◌, ◌⊎◌, List, [], ◌∷◌, ◌++◌, length, sym, refl, ap, ◌∙◌, subst, ap₂, inl, inr, append_assoc, arith}
use mathlib.Core.List.{append_cancel_left}
use Rattle.tree.specs.declared.class.Class.{Class}
use Rattle.tree.specs.declared.class.Class.TheVariants.{Empty, Token, Name, Chain, Alternative, Optional, Repetition}
use Rattle.tree.specs.declared.node.Node.{Node}
use Rattle.tree.specs.Tree.{node, children}
use Rattle.yields.specs.Yield.{Yields, YieldsAll, empty, token, name, chain, branch, skip, into, stop, again, done, more}
use Rattle.yields.specs.WellFormed.{WellFormed, root_of}
use Rattle.yields.specs.Equations.{Least}
use Rattle.yields.specs.Marks.{Has, first}
use Rattle.yields.specs.Context.{mark_of, Comes}
use Rattle.yields.specs.Passing.{child, ELL1}
use Rattle.yields.specs.Predict.{Picks, Predicts, Unambiguous}
use Rattle.yields.proofs.Contexts.{comes_within}
use Rattle.yields.proofs.Predicting.{predicts}

-- the same choices, kinds and visits
pub record Same (cs ks : List ℕ) (v : ℕ) (ds ls : List ℕ) (u : ℕ) : Type 0 where
  pub choices : cs ≡ ds
  pub kinds : ks ≡ ls
  pub visits : v ≡ u

-- what stands after equal fronts
pub regroup : (ks ls ms : List ℕ) (ds es os ns : List ℕ) → (ks ++ ls) ++ ms ≡ ns ++ os → ns ≡ ds ++ es → ks ++ (ls ++ ms) ≡ ds ++ (es ++ os)
regroup ks ls ms ds es os ns is e = sym (append_assoc ks ls ms) ∙ is ∙ ap (λ t. t ++ os) e ∙ append_assoc ds es os

pub same_rest : (ks ls ms ns : List ℕ) → ks ≡ ls → ks ++ ms ≡ ls ++ ns → ms ≡ ns
same_rest ks ls ms ns e is = append_cancel_left ks ms ns (is ∙ ap (λ t. t ++ ns) (sym e))

module _ (ns : List Node) (rs : List ℕ) where
  -- a branch taken
  pub record Branched (n : ℕ) (cs ks : List ℕ) (v : ℕ) : Type 0 where
    pub k : ℕ
    pub inner : List ℕ
    pub visits : ℕ
    pub within : k < length (children ns n)
    pub yields : Yields ns rs (child ns n k) inner ks visits
    pub choices_are : cs ≡ k ∷ inner
    pub visits_are : v ≡ suc visits

  pub record Passed (cs ks : List ℕ) (v : ℕ) : Type 0 where
    pub choices_are : cs ≡ 0 ∷ []
    pub kinds_are : ks ≡ []
    pub visits_are : v ≡ 1

  pub record Entered (n : ℕ) (cs ks : List ℕ) (v : ℕ) : Type 0 where
    pub inner : List ℕ
    pub visits : ℕ
    pub yields : Yields ns rs (node ns n).first inner ks visits
    pub choices_are : cs ≡ 1 ∷ inner
    pub visits_are : v ≡ suc visits

  pub record Repeated (n : ℕ) (cs ks : List ℕ) (v : ℕ) : Type 0 where
    pub cs₁ : List ℕ
    pub ks₁ : List ℕ
    pub v₁ : ℕ
    pub inside : Yields ns rs (node ns n).first cs₁ ks₁ v₁
    pub cs₂ : List ℕ
    pub ks₂ : List ℕ
    pub v₂ : ℕ
    pub rest : Yields ns rs n cs₂ ks₂ v₂
    pub choices_are : cs ≡ 1 ∷ (cs₁ ++ cs₂)
    pub kinds_are : ks ≡ ks₁ ++ ks₂
    pub visits_are : v ≡ suc (v₁ + v₂)

  -- what a yield of n looks like, by its class
  abbrev pub Shape : ℕ → List ℕ → List ℕ → ℕ → Class → Type 0
  Shape n cs ks v Empty = (cs ≡ []) × (ks ≡ []) × (v ≡ 1)
  Shape n cs ks v Token = (cs ≡ []) × (ks ≡ (node ns n).value ∷ []) × (v ≡ 1)
  Shape n cs ks v Name = (u : ℕ) × Yields ns rs (root_of ns rs n) cs ks u × (v ≡ suc u)
  Shape n cs ks v Chain = (u : ℕ) × YieldsAll ns rs (children ns n) cs ks u × (v ≡ suc u)
  Shape n cs ks v Alternative = Branched n cs ks v
  Shape n cs ks v Optional = Passed cs ks v ⊎ Entered n cs ks v
  Shape n cs ks v Repetition = Passed cs ks v ⊎ Repeated n cs ks v

  pub shape : {n v : ℕ} {cs ks : List ℕ} → Yields ns rs n cs ks v → Shape n cs ks v (node ns n).class
  shape (empty {n = n} e) = subst (Shape n [] [] 1) (sym e) (refl, refl, refl)
  shape (token {n = n} e) = subst (Shape n [] ((node ns n).value ∷ []) 1) (sym e) (refl, refl, refl)
  shape (name {n = n} {v = v} {cs = cs} {ks = ks} e y) = subst (Shape n cs ks (suc v)) (sym e) (v, y, refl)
  shape (chain {n = n} {v = v} {cs = cs} {ks = ks} e y) = subst (Shape n cs ks (suc v)) (sym e) (v, y, refl)
  shape (branch {n = n} {v = v} {cs = cs} {ks = ks} k e q y) = subst (Shape n (k ∷ cs) ks (suc v)) (sym e) (record { k = k; inner = cs; visits = v; within = q; yields = y; choices_are = refl; visits_are = refl })
  shape (skip {n = n} e) = subst (Shape n (0 ∷ []) [] 1) (sym e) (inl (record { choices_are = refl; kinds_are = refl; visits_are = refl }))
  shape (into {n = n} {v = v} {cs = cs} {ks = ks} e y) = subst (Shape n (1 ∷ cs) ks (suc v)) (sym e) (inr (record { inner = cs; visits = v; yields = y; choices_are = refl; visits_are = refl }))
  shape (stop {n = n} e) = subst (Shape n (0 ∷ []) [] 1) (sym e) (inl (record { choices_are = refl; kinds_are = refl; visits_are = refl }))
  shape (again {n = n} {v = v} {w = w} {cs = cs} {ks = ks} {ds = ds} {ls = ls} e y z) = subst (Shape n (1 ∷ (cs ++ ds)) (ks ++ ls) (suc (v + w))) (sym e) (inr (record { cs₁ = cs; ks₁ = ks; v₁ = v; inside = y; cs₂ = ds; ks₂ = ls; v₂ = w; rest = z; choices_are = refl; kinds_are = refl; visits_are = refl }))

  pub shape_at : {n v : ℕ} {cs ks : List ℕ} {t : Class} → (node ns n).class ≡ t → Yields ns rs n cs ks v → Shape n cs ks v t
  shape_at {n} {v} {cs} {ks} e y = subst (Shape n cs ks v) e (shape y)

  pub record Consed (x : ℕ) (xs cs ks : List ℕ) (v : ℕ) : Type 0 where
    pub cs₁ : List ℕ
    pub ks₁ : List ℕ
    pub v₁ : ℕ
    pub top : Yields ns rs x cs₁ ks₁ v₁
    pub cs₂ : List ℕ
    pub ks₂ : List ℕ
    pub v₂ : ℕ
    pub rest : YieldsAll ns rs xs cs₂ ks₂ v₂
    pub choices_are : cs ≡ cs₁ ++ cs₂
    pub kinds_are : ks ≡ ks₁ ++ ks₂
    pub visits_are : v ≡ v₁ + v₂

  pub consed : {x v : ℕ} {xs cs ks : List ℕ} → YieldsAll ns rs (x ∷ xs) cs ks v → Consed x xs cs ks v
  consed (more {v = v} {w = w} {cs = cs} {ks = ks} {ds = ds} {ls = ls} y z) = record { cs₁ = cs; ks₁ = ks; v₁ = v; top = y; cs₂ = ds; ks₂ = ls; v₂ = w; rest = z; choices_are = refl; kinds_are = refl; visits_are = refl }

  pub nothing_yielded : {v : ℕ} {cs ks : List ℕ} → YieldsAll ns rs [] cs ks v → (cs ≡ []) × (ks ≡ []) × (v ≡ 0)
  nothing_yielded done = (refl, refl, refl)

  -- the nodes of a pile yield these kinds
  pub record Rest (pile ls : List ℕ) : Type 0 where
    pub choices : List ℕ
    pub visits : ℕ
    pub yields : YieldsAll ns rs pile choices ls visits

  rest_cons : {x v : ℕ} {pile cs ks ls : List ℕ} → Yields ns rs x cs ks v → Rest pile ls → Rest (x ∷ pile) (ks ++ ls)
  rest_cons {v = v} {cs = cs} y r = record { choices = cs ++ r.choices; visits = v + r.visits; yields = more y r.yields }

  rest_append : {v : ℕ} {xs cs ks : List ℕ} (pile ls : List ℕ) → YieldsAll ns rs xs cs ks v → Rest pile ls → Rest (xs ++ pile) (ks ++ ls)
  rest_append pile ls done r = r
  rest_append pile ls (more {c = c} {rest = xs} {ks = ks} {ls = ms} y x) r = subst (Rest (c ∷ (xs ++ pile))) (sym (append_assoc ks ms ls)) (rest_cons y (rest_append pile ls x r))

module _ (ns : List Node) (rs : List ℕ) (formed : WellFormed ns rs) (f : ℕ → ℕ) (least : Least first ns rs f) (passing : ELL1 ns rs f) where
  know : Predicts ns rs f
  know = predicts ns rs formed f least passing

  -- the choice of an alternative
  one_branch : (n i j v u : ℕ) (before pile cs ks ds ls ms os : List ℕ) → Comes ns rs before (n ∷ pile) → (node ns n).class ≡ Alternative → i < length (children ns n) → j < length (children ns n) → Yields ns rs (child ns n i) cs ks v → Yields ns rs (child ns n j) ds ls u → Rest ns rs pile ms → Rest ns rs pile os → ks ++ ms ≡ ls ++ os → i ≡ j
  one_branch n i j v u before pile cs ks ds ls ms os c e p q y z a b is =
      know.one n (mark_of (ks ++ ms)) i j (comes_within ns rs formed f least.solves c 0 (omega arith)) e
      (know.branch n i v a.visits before pile cs ks a.choices ms c e p y a.yields)
      (subst (λ t. Picks ns f n (mark_of t) j) (sym is) (know.branch n j u b.visits before pile ds ls b.choices os c e q z b.yields))

  module _ (n : ℕ) (before pile ms os ds ls : List ℕ) (u : ℕ) (c : Comes ns rs before (n ∷ pile)) (a : Rest ns rs pile ms) (b : Rest ns rs pile os) where
    skip_same : (node ns n).class ≡ Optional → ms ≡ ls ++ os → Passed ns rs ds ls u ⊎ Entered ns rs n ds ls u → Same (0 ∷ []) [] 1 ds ls u
    skip_same e is (inl p) = record { choices = sym p.choices_are; kinds = sym p.kinds_are; visits = sym p.visits_are }
    skip_same e is (inr p) = absurd (know.option_past n a.visits before pile a.choices ms c e a.yields (subst (λ t. Has (f (node ns n).first) (mark_of t)) (sym is) (know.option_in n p.visits b.visits before pile p.inner ls b.choices os c e p.yields b.yields)))

    into_same : (cs ks : List ℕ) (v : ℕ) → (node ns n).class ≡ Optional → Yields ns rs (node ns n).first cs ks v → ks ++ ms ≡ ls ++ os → ((inner : List ℕ) (w : ℕ) → Yields ns rs (node ns n).first inner ls w → Same cs ks v inner ls w) → Passed ns rs ds ls u ⊎ Entered ns rs n ds ls u → Same (1 ∷ cs) ks (suc v) ds ls u
    into_same cs ks v e y is ih (inl p) = absurd (know.option_past n b.visits before pile b.choices os c e b.yields (subst (λ t. Has (f (node ns n).first) (mark_of t)) (is ∙ ap (λ t. t ++ os) p.kinds_are) (know.option_in n v a.visits before pile cs ks a.choices ms c e y a.yields)))
    into_same cs ks v e y is ih (inr p) = let t = ih p.inner p.visits p.yields in record { choices = ap (λ q. 1 ∷ q) t.choices ∙ sym p.choices_are; kinds = t.kinds; visits = ap suc t.visits ∙ sym p.visits_are }

    stop_same : (node ns n).class ≡ Repetition → ms ≡ ls ++ os → Passed ns rs ds ls u ⊎ Repeated ns rs n ds ls u → Same (0 ∷ []) [] 1 ds ls u
    stop_same e is (inl p) = record { choices = sym p.choices_are; kinds = sym p.kinds_are; visits = sym p.visits_are }
    stop_same e is (inr p) =
        let r = rest_cons ns rs p.rest b in
        absurd (know.round_past n a.visits before pile a.choices ms c e a.yields (subst (λ t. Has (f (node ns n).first) (mark_of t)) (sym (is ∙ ap (λ t. t ++ os) p.kinds_are ∙ append_assoc p.ks₁ p.ks₂ os)) (know.round_in n p.v₁ r.visits before pile p.cs₁ p.ks₁ r.choices (p.ks₂ ++ os) c e p.inside r.yields)))

    again_same : (cs₁ ks₁ cs₂ ks₂ : List ℕ) (v₁ v₂ : ℕ) → (node ns n).class ≡ Repetition → Yields ns rs (node ns n).first cs₁ ks₁ v₁ → Yields ns rs n cs₂ ks₂ v₂ → (ks₁ ++ ks₂) ++ ms ≡ ls ++ os →
        ((ds₁ ls₁ os₁ : List ℕ) (u₁ : ℕ) → Rest ns rs (n ∷ pile) os₁ → Yields ns rs (node ns n).first ds₁ ls₁ u₁ → ks₁ ++ (ks₂ ++ ms) ≡ ls₁ ++ os₁ → Same cs₁ ks₁ v₁ ds₁ ls₁ u₁) →
        ((ds₂ ls₂ : List ℕ) (u₂ : ℕ) → Yields ns rs n ds₂ ls₂ u₂ → ks₂ ++ ms ≡ ls₂ ++ os → Same cs₂ ks₂ v₂ ds₂ ls₂ u₂) →
        Passed ns rs ds ls u ⊎ Repeated ns rs n ds ls u → Same (1 ∷ (cs₁ ++ cs₂)) (ks₁ ++ ks₂) (suc (v₁ + v₂)) ds ls u
    again_same cs₁ ks₁ cs₂ ks₂ v₁ v₂ e y x is ih jh (inl p) =
        let r = rest_cons ns rs x a in
        absurd (know.round_past n b.visits before pile b.choices os c e b.yields (subst (λ t. Has (f (node ns n).first) (mark_of t)) (sym (append_assoc ks₁ ks₂ ms) ∙ is ∙ ap (λ t. t ++ os) p.kinds_are) (know.round_in n v₁ r.visits before pile cs₁ ks₁ r.choices (ks₂ ++ ms) c e y r.yields)))
    again_same cs₁ ks₁ cs₂ ks₂ v₁ v₂ e y x is ih jh (inr p) =
        let eq = regroup ks₁ ks₂ ms p.ks₁ p.ks₂ os ls is p.kinds_are in
        let t = ih p.cs₁ p.ks₁ (p.ks₂ ++ os) p.v₁ (rest_cons ns rs p.rest b) p.inside eq in
        let s = jh p.cs₂ p.ks₂ p.v₂ p.rest (same_rest ks₁ p.ks₁ (ks₂ ++ ms) (p.ks₂ ++ os) t.kinds eq) in
        record { choices = ap₂ (λ q r. 1 ∷ (q ++ r)) t.choices s.choices ∙ sym p.choices_are; kinds = ap₂ ◌++◌ t.kinds s.kinds ∙ sym p.kinds_are; visits = ap₂ (λ q r. suc (q + r)) t.visits s.visits ∙ sym p.visits_are }

  mutual
    one_yield : {n v : ℕ} {cs ks : List ℕ} → Yields ns rs n cs ks v → (before pile ms os ds ls : List ℕ) (u : ℕ) → Comes ns rs before (n ∷ pile) → Rest ns rs pile ms → Rest ns rs pile os → Yields ns rs n ds ls u → ks ++ ms ≡ ls ++ os → Same cs ks v ds ls u
    one_yield (empty e) before pile ms os ds ls u c a b z is = let s = shape_at ns rs e z in record { choices = sym s.0; kinds = sym s.1; visits = sym s.2 }
    one_yield (token e) before pile ms os ds ls u c a b z is = let s = shape_at ns rs e z in record { choices = sym s.0; kinds = sym s.1; visits = sym s.2 }
    one_yield (name e y) before pile ms os ds ls u c a b z is =
        let s = shape_at ns rs e z in
        let t = one_yield y before pile ms os ds ls s.0 (Comes.name e c) a b s.1 is in
        record { choices = t.choices; kinds = t.kinds; visits = ap suc t.visits ∙ sym s.2 }
    one_yield (chain e y) before pile ms os ds ls u c a b z is =
        let s = shape_at ns rs e z in
        let t = one_row y before pile ms os ds ls s.0 (Comes.chain e c) a b s.1 is in
        record { choices = t.choices; kinds = t.kinds; visits = ap suc t.visits ∙ sym s.2 }
    one_yield (branch {n = n} {v = v} {cs = cs} {ks = ks} k e q y) before pile ms os ds ls u c a b z is =
        let s = shape_at ns rs e z in
        let w = one_branch n k s.k v s.visits before pile cs ks s.inner ls ms os c e q s.within y s.yields a b is in
        let t = one_yield y before pile ms os s.inner ls s.visits (Comes.branch k e q c) a b (subst (λ i. Yields ns rs (child ns n i) s.inner ls s.visits) (sym w) s.yields) is in
        record { choices = ap₂ ◌∷◌ w t.choices ∙ sym s.choices_are; kinds = t.kinds; visits = ap suc t.visits ∙ sym s.visits_are }
    one_yield (skip {n = n} e) before pile ms os ds ls u c a b z is = skip_same n before pile ms os ds ls u c a b e is (shape_at ns rs e z)
    one_yield (into {n = n} {v = v} {cs = cs} {ks = ks} e y) before pile ms os ds ls u c a b z is = into_same n before pile ms os ds ls u c a b cs ks v e y is (λ inner w q. one_yield y before pile ms os inner ls w (Comes.option e c) a b q is) (shape_at ns rs e z)
    one_yield (stop {n = n} e) before pile ms os ds ls u c a b z is = stop_same n before pile ms os ds ls u c a b e is (shape_at ns rs e z)
    one_yield (again {n = n} {v = v₁} {w = v₂} {cs = cs₁} {ks = ks₁} {ds = cs₂} {ls = ks₂} e y x) before pile ms os ds ls u c a b z is =
        again_same n before pile ms os ds ls u c a b cs₁ ks₁ cs₂ ks₂ v₁ v₂ e y x is
        (λ ds₁ ls₁ os₁ u₁ r q g. one_yield y before (n ∷ pile) (ks₂ ++ ms) os₁ ds₁ ls₁ u₁ (Comes.round e c) (rest_cons ns rs x a) r q g)
        (λ ds₂ ls₂ u₂ q g. one_yield x (before ++ ks₁) pile ms os ds₂ ls₂ u₂ (Comes.past y (Comes.round e c)) a b q g)
        (shape_at ns rs e z)

    one_row : {xs : List ℕ} {v : ℕ} {cs ks : List ℕ} → YieldsAll ns rs xs cs ks v → (before pile ms os ds ls : List ℕ) (u : ℕ) → Comes ns rs before (xs ++ pile) → Rest ns rs pile ms → Rest ns rs pile os → YieldsAll ns rs xs ds ls u → ks ++ ms ≡ ls ++ os → Same cs ks v ds ls u
    one_row done before pile ms os ds ls u c a b z is = let s = nothing_yielded ns rs z in record { choices = sym s.0; kinds = sym s.1; visits = sym s.2 }
    one_row (more {c = n} {v = v} {w = w} {rest = xs} {cs = cs} {ks = ks} {ds = cs'} {ls = ks'} y x) before pile ms os ds ls u c a b z is =
        let s = consed ns rs z in
        let eq = regroup ks ks' ms s.ks₁ s.ks₂ os ls is s.kinds_are in
        let t = one_yield y before (xs ++ pile) (ks' ++ ms) (s.ks₂ ++ os) s.cs₁ s.ks₁ s.v₁ c (rest_append ns rs pile ms x a) (rest_append ns rs pile os s.rest b) s.top eq in
        let r = one_row x (before ++ ks) pile ms os s.cs₂ s.ks₂ s.v₂ (Comes.past y c) a b s.rest (same_rest ks s.ks₁ (ks' ++ ms) (s.ks₂ ++ os) t.kinds eq) in
        record { choices = ap₂ ◌++◌ t.choices r.choices ∙ sym s.choices_are; kinds = ap₂ ◌++◌ t.kinds r.kinds ∙ sym s.kinds_are; visits = ap₂ ◌+◌ t.visits r.visits ∙ sym s.visits_are }

  pub unambiguous : Unambiguous ns rs
  unambiguous = record { one = λ cs ds ks v u y z. let r : Rest ns rs [] [] = record { choices = []; visits = 0; yields = done } in let s = one_yield y [] [] [] [] ds ks u Comes.start r r z refl in (s.choices, s.visits) }
