-- Where no node needs its own FIRST, no chain of needs is longer than the table.
use Rattle.std.proofs.Common.{◌≡◌, ℕ, zero, suc, ◌<◌, ◌≤◌, List, ◌∷◌, length, get_or, sym, ◌∙◌, subst, arith}
use native.Mathlib.Decide.{ℕ_discrete, dec_lt}
use Rattle.tree.specs.declared.node.Node.{Node}
use Rattle.yields.specs.WellFormed.{WellFormed}
use Rattle.yields.specs.Passing.{NeedsFirst, NeedsFar, Runs}
use Rattle.yields.proofs.Ends.{child_within, option_within, repetition_within, root_within}

-- m numbers below n that are all different: m is at most n
other : (n t x : ℕ) → Dec (x ≡ n) → ℕ
other n t x (yes e) = t
other n t x (no d) = x

pub pigeons : (n m : ℕ) (g : ℕ → ℕ) → ((i : ℕ) → i < m → g i < n) → ((i j : ℕ) → i < m → j < m → g i ≡ g j → i ≡ j) → m ≤ n
unfolding other
pigeons zero zero g below one = omega arith
pigeons zero (suc m) g below one = let h = below 0 (omega arith) in absurd (omega arith)
pigeons (suc n) zero g below one = omega arith
pigeons (suc n) (suc m) g below one = let ih = pigeons n m (λ i. other n (g m) (g i) (ℕ_discrete (g i) n)) (λ i r. small i r (ℕ_discrete (g i) n)) (λ i j p q e. apart i j p q (ℕ_discrete (g i) n) (ℕ_discrete (g j) n) e) in omega arith
  where
    small : (i : ℕ) → i < m → (d : Dec (g i ≡ n)) → other n (g m) (g i) d < n
    small i r (yes e) = let h = below m (omega arith) in let z : ¬ (g m ≡ n) = λ q. (let w = one i m (omega arith) (omega arith) (e ∙ sym q) in omega arith) in omega arith
    small i r (no d) = let h = below i (omega arith) in omega arith

    apart : (i j : ℕ) → i < m → j < m → (d : Dec (g i ≡ n)) (b : Dec (g j ≡ n)) → other n (g m) (g i) d ≡ other n (g m) (g j) b → i ≡ j
    apart i j p q (yes d) (yes b) e = one i j (omega arith) (omega arith) (d ∙ sym b)
    apart i j p q (yes d) (no b) e = let w = one m j (omega arith) (omega arith) e in absurd (omega arith)
    apart i j p q (no d) (yes b) e = let w = one i m (omega arith) (omega arith) e in absurd (omega arith)
    apart i j p q (no d) (no b) e = one i j (omega arith) (omega arith) e

module _ (ns : List Node) (rs : List ℕ) (formed : WellFormed ns rs) (f : ℕ → ℕ) where
  pub needs_within : {n c : ℕ} → NeedsFirst ns rs f n c → c < length ns
  needs_within (NeedsFirst.name {n = n} r e) = root_within ns rs formed n r e
  needs_within (NeedsFirst.link {n = n} k r e q h) = child_within ns rs formed n r k q
  needs_within (NeedsFirst.branch {n = n} k r e q) = child_within ns rs formed n r k q
  needs_within (NeedsFirst.option {n = n} r e) = option_within ns rs formed n r e
  needs_within (NeedsFirst.round {n = n} r e) = repetition_within ns rs formed n r e

  run_within : {n : ℕ} {xs : List ℕ} → Runs ns rs f n xs → n < length ns → (i : ℕ) → i < suc (length xs) → get_or (n ∷ xs) i 0 < length ns
  run_within r h zero q = h
  run_within (Runs.ends) h (suc i) q = absurd (omega arith)
  run_within (Runs.step s r) h (suc i) q = run_within r (needs_within s) i (omega arith)

  run_from : {n : ℕ} {xs : List ℕ} → Runs ns rs f n xs → (j : ℕ) → j < length xs → NeedsFar ns rs f n (get_or xs j 0)
  run_from Runs.ends j q = absurd (omega arith)
  run_from (Runs.step s r) zero q = NeedsFar.near s
  run_from (Runs.step s r) (suc j) q = NeedsFar.far s (run_from r j (omega arith))

  run_far : {n : ℕ} {xs : List ℕ} → Runs ns rs f n xs → (i j : ℕ) → i < j → j < suc (length xs) → NeedsFar ns rs f (get_or (n ∷ xs) i 0) (get_or (n ∷ xs) j 0)
  run_far r zero zero p q = absurd (omega arith)
  run_far r zero (suc j) p q = run_from r j (omega arith)
  run_far r (suc i) zero p q = absurd (omega arith)
  run_far Runs.ends (suc i) (suc j) p q = absurd (omega arith)
  run_far (Runs.step s r) (suc i) (suc j) p q = run_far r i j (omega arith) (omega arith)

  pub runs_short : ((n : ℕ) → ¬ NeedsFar ns rs f n n) → (n : ℕ) (xs : List ℕ) → n < length ns → Runs ns rs f n xs → length xs < length ns
  runs_short straight n xs h r = pigeons (length ns) (suc (length xs)) (λ i. get_or (n ∷ xs) i 0) (run_within r h) (λ i j p q e. go i j p q e (dec_lt i j) (dec_lt j i))
    where
      go : (i j : ℕ) → i < suc (length xs) → j < suc (length xs) → get_or (n ∷ xs) i 0 ≡ get_or (n ∷ xs) j 0 → Dec (i < j) → Dec (j < i) → i ≡ j
      go i j p q e (yes l) d = absurd (straight _ (subst (λ u. NeedsFar ns rs f u (get_or (n ∷ xs) j 0)) e (run_far r i j l q)))
      go i j p q e (no l) (yes d) = absurd (straight _ (subst (λ u. NeedsFar ns rs f (get_or (n ∷ xs) j 0) u) e (run_far r j i d p)))
      go i j p q e (no l) (no d) = omega arith
