-- FOLLOW, over the FIRST of each node: what a node has by itself, which nodes it rests on, and the least solution.
use Rattle.std.specs.Prelude.{◌≡◌, ℕ, ◌<◌, List, [], ◌∷◌, length, slice_index}
use Rattle.tree.specs.declared.class.Class.TheVariants.{Name, Chain, Alternative, Optional, Repetition}
use Rattle.tree.specs.declared.node.Node.{Node}
use Rattle.tree.specs.Tree.{node, children}
use Rattle.yields.specs.WellFormed.{root_of, start_root}
use Rattle.yields.specs.Marks.{Has, end_mark, empty_mark, without_empty}

-- d stands right after c in the list
pub data Next : List ℕ → ℕ → ℕ → Type 0 where
  here : {c d : ℕ} {xs : List ℕ} → Next (c ∷ d ∷ xs) c d
  there : {x c d : ℕ} {xs : List ℕ} → Next xs c d → Next (x ∷ xs) c d

-- c stands last in the list
pub data Last : List ℕ → ℕ → Type 0 where
  only : {c : ℕ} → Last (c ∷ []) c
  further : {x c : ℕ} {xs : List ℕ} → Last xs c → Last (x ∷ xs) c

module _ (ns : List Node) (rs : List ℕ) (first : ℕ → ℕ) where
  -- Rests x y: x rests on y
  pub data Rests : ℕ → ℕ → Type 0 where
    root : {n : ℕ} → n < length ns → (node ns n).class ≡ Name → Rests (root_of ns rs n) n
    last : {n c : ℕ} → n < length ns → (node ns n).class ≡ Chain → Last (children ns n) c → Rests c n
    branch : {n : ℕ} (k : ℕ) → n < length ns → (node ns n).class ≡ Alternative → k < length (children ns n) → Rests (slice_index (children ns n) k) n
    option : {n : ℕ} → n < length ns → (node ns n).class ≡ Optional → Rests (node ns n).first n
    round : {n : ℕ} → n < length ns → (node ns n).class ≡ Repetition → Rests (node ns n).first n
    sibling : {n c d : ℕ} → n < length ns → (node ns n).class ≡ Chain → Next (children ns n) c d → Has (first d) empty_mark → Rests c d

  -- Direct x m: x has the mark m by itself
  pub data Direct : ℕ → ℕ → Type 0 where
    end : Direct (start_root rs) end_mark
    sibling : {n c d m : ℕ} → n < length ns → (node ns n).class ≡ Chain → Next (children ns n) c d → Has (without_empty (first d)) m → Direct c m
    round : {n m : ℕ} → n < length ns → (node ns n).class ≡ Repetition → Has (without_empty (first (node ns n).first)) m → Direct (node ns n).first m

  -- Follow x m: the least solution has the mark m at x
  pub data Follow : ℕ → ℕ → Type 0 where
    direct : {x m : ℕ} → Direct x m → Follow x m
    through : {x y m : ℕ} → Rests x y → Follow y m → Follow x m

  -- where FOLLOW is needed
  pub data Needed : ℕ → Type 0 where
    option : {n : ℕ} → n < length ns → (node ns n).class ≡ Optional → Needed n
    repetition : {n : ℕ} → n < length ns → (node ns n).class ≡ Repetition → Needed n
    alternative : {n : ℕ} → n < length ns → (node ns n).class ≡ Alternative → Has (first n) empty_mark → Needed n
    through : {x y : ℕ} → Needed x → Rests x y → Needed y

  -- x rests on y, itself or through others
  pub data RestsFar : ℕ → ℕ → Type 0 where
    near : {x y : ℕ} → Rests x y → RestsFar x y
    far : {x y z : ℕ} → Rests x y → RestsFar y z → RestsFar x z

  -- where FOLLOW is needed, the sets g have what each node has by itself and what it rests on has
  pub record Fed (g : ℕ → ℕ) : Type 0 where
    pub has : {x m : ℕ} → Needed x → Direct x m → Has (g x) m
    pub flows : {x y : ℕ} → Needed x → Rests x y → (m : ℕ) → Has (g y) m → Has (g x) m

  -- where FOLLOW is needed, the set is FOLLOW
  pub record HoldsFollow (g : ℕ → ℕ) : Type 0 where
    pub at : {x : ℕ} → Needed x → (m : ℕ) → (Has (g x) m → Follow x m) × (Follow x m → Has (g x) m)
