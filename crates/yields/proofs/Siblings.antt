-- The children of a node, by the nodes' fields.
use Rattle.std.proofs.Common.{◌≡◌, ℕ, zero, suc, ◌<◌, ◌≤◌, Bool, true, false, ltb, List, [], ◌∷◌, length, get_or, refl, arith, ltb-false}
use Rattle.tree.specs.declared.node.Node.{Node}
use Rattle.tree.specs.Tree.{node, siblings, children}

-- what a test of `i < length ns` leaves of the siblings
abbrev tested : List Node → ℕ → ℕ → Bool → List ℕ
tested ns f i true = i ∷ siblings ns f (node ns i).next
tested ns f i false = []

module _ (ns : List Node) where
  siblings_head : (f i : ℕ) → 0 < length (siblings ns f i) → get_or (siblings ns f i) 0 0 ≡ i
  siblings_head zero i h = absurd (omega arith)
  siblings_head (suc f) i h = go (ltb i (length ns)) h
    where
      go : (t : Bool) → 0 < length (tested ns f i t) → get_or (tested ns f i t) 0 0 ≡ i
      go true h = refl
      go false h = absurd (omega arith)

  siblings_some : (f i : ℕ) → 0 < f → i < length ns → 0 < length (siblings ns f i)
  siblings_some zero i p r = absurd (omega arith)
  siblings_some (suc f) i p r = go (ltb i (length ns)) refl
    where
      go : (t : Bool) → ltb i (length ns) ≡ t → 0 < length (tested ns f i t)
      go true e = omega arith
      go false e = let q = ltb-false i (length ns) e in absurd (omega arith)

  siblings_next : (f i k : ℕ) → suc k < length (siblings ns f i) → get_or (siblings ns f i) (suc k) 0 ≡ (node ns (get_or (siblings ns f i) k 0)).next
  siblings_next zero i k h = absurd (omega arith)
  siblings_next (suc f) i k h = go (siblings_next f (node ns i).next) (ltb i (length ns)) k h
    where
      go : ((k : ℕ) → suc k < length (siblings ns f (node ns i).next) → get_or (siblings ns f (node ns i).next) (suc k) 0 ≡ (node ns (get_or (siblings ns f (node ns i).next) k 0)).next) → (t : Bool) (k : ℕ) → suc k < length (tested ns f i t) → get_or (tested ns f i t) (suc k) 0 ≡ (node ns (get_or (tested ns f i t) k 0)).next
      go ih false k h = absurd (omega arith)
      go ih true zero h = siblings_head f (node ns i).next (omega arith)
      go ih true (suc k) h = ih k (omega arith)

  -- after the last one, unless they were cut short
  siblings_last : (f i k : ℕ) → suc k ≡ length (siblings ns f i) → suc k < f → length ns ≤ (node ns (get_or (siblings ns f i) k 0)).next
  siblings_last zero i k h p = absurd (omega arith)
  siblings_last (suc f) i k h p = go (siblings_last f (node ns i).next) (ltb i (length ns)) k h p
    where
      none_after : (f j : ℕ) → 0 < f → length (siblings ns f j) ≡ 0 → length ns ≤ j
      none_after zero j q e = absurd (omega arith)
      none_after (suc f) j q e = at (ltb j (length ns)) refl e
        where
          at : (t : Bool) → ltb j (length ns) ≡ t → length (tested ns f j t) ≡ 0 → length ns ≤ j
          at true g e = absurd (omega arith)
          at false g e = ltb-false j (length ns) g

      go : ((k : ℕ) → suc k ≡ length (siblings ns f (node ns i).next) → suc k < f → length ns ≤ (node ns (get_or (siblings ns f (node ns i).next) k 0)).next) → (t : Bool) (k : ℕ) → suc k ≡ length (tested ns f i t) → suc k < suc f → length ns ≤ (node ns (get_or (tested ns f i t) k 0)).next
      go ih false k h p = absurd (omega arith)
      go ih true zero h p = none_after f (node ns i).next (omega arith) (omega arith)
      go ih true (suc k) h p = ih k (omega arith) (omega arith)

  -- the first child, each next one, and what stands behind the last
  pub first_child : (n : ℕ) → (node ns n).first < length ns → (0 < length (children ns n)) × (get_or (children ns n) 0 0 ≡ (node ns n).first)
  first_child n r = let h = siblings_some (length ns) (node ns n).first (omega arith) r in (h, siblings_head (length ns) (node ns n).first h)

  pub next_child : (n k : ℕ) → suc k < length (children ns n) → get_or (children ns n) (suc k) 0 ≡ (node ns (get_or (children ns n) k 0)).next
  next_child n k h = siblings_next (length ns) (node ns n).first k h

  pub last_child : (n k : ℕ) → suc k ≡ length (children ns n) → suc k < length ns → length ns ≤ (node ns (get_or (children ns n) k 0)).next
  last_child n k h p = siblings_last (length ns) (node ns n).first k h p
