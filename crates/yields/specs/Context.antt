-- How a node is met in the derivations from the start.
use Rattle.std.specs.Prelude.{◌≡◌, ℕ, ◌<◌, List, [], ◌∷◌, ◌++◌, length, slice_index}
use Rattle.tree.specs.declared.class.Class.TheVariants.{Name, Chain, Alternative, Optional, Repetition}
use Rattle.tree.specs.declared.node.Node.{Node}
use Rattle.tree.specs.Tree.{node, children}
use Rattle.yields.specs.WellFormed.{root_of, start_root, Place}
use Rattle.yields.specs.Yield.{Yields, YieldsAll}

-- the first of the kinds, or the end mark where there is none
abbrev pub mark_of : List ℕ → ℕ
mark_of [] = 0
mark_of (k ∷ ks) = k

module _ (ns : List Node) (rs : List ℕ) where
  -- Comes ks pile: the start can yield ks and then what the nodes of the pile yield, the top first
  pub data Comes : List ℕ → List ℕ → Type 0 where
    start : Comes [] (start_root rs ∷ [])
    name : {n : ℕ} {ks pile : List ℕ} → (node ns n).class ≡ Name → Comes ks (n ∷ pile) → Comes ks (root_of ns rs n ∷ pile)
    chain : {n : ℕ} {ks pile : List ℕ} → (node ns n).class ≡ Chain → Comes ks (n ∷ pile) → Comes ks (children ns n ++ pile)
    branch : {n : ℕ} {ks pile : List ℕ} (k : ℕ) → (node ns n).class ≡ Alternative → k < length (children ns n) → Comes ks (n ∷ pile) → Comes ks (slice_index (children ns n) k ∷ pile)
    option : {n : ℕ} {ks pile : List ℕ} → (node ns n).class ≡ Optional → Comes ks (n ∷ pile) → Comes ks ((node ns n).first ∷ pile)
    round : {n : ℕ} {ks pile : List ℕ} → (node ns n).class ≡ Repetition → Comes ks (n ∷ pile) → Comes ks ((node ns n).first ∷ n ∷ pile)
    past : {n v : ℕ} {ks pile cs ls : List ℕ} → Yields ns rs n cs ls v → Comes ks (n ∷ pile) → Comes (ks ++ ls) pile

  -- a kind list that the start's root yields
  pub record Sentence (ks : List ℕ) : Type 0 where
    pub choices : List ℕ
    pub visits : ℕ
    pub yields : Yields ns rs (start_root rs) choices ks visits

  -- n is met after the kinds before, and the kinds after can come right after it
  pub record Met (n : ℕ) (before after : List ℕ) : Type 0 where
    pub pile : List ℕ
    pub choices : List ℕ
    pub visits : ℕ
    pub comes : Comes before (n ∷ pile)
    pub rest : YieldsAll ns rs pile choices after visits

  -- the mark m can come right after n: it is the first of some kinds after n, or the end mark where nothing comes after n
  pub record After (n m : ℕ) : Type 0 where
    pub before : List ℕ
    pub after : List ℕ
    pub met : Met n before after
    pub mark : mark_of after ≡ m

  -- reached from the start
  pub data Reachable : ℕ → Type 0 where
    start : Reachable (start_root rs)
    name : {n : ℕ} → n < length ns → (node ns n).class ≡ Name → Reachable n → Reachable (root_of ns rs n)
    under : {p k c : ℕ} → Place ns p k c → Reachable p → Reachable c
