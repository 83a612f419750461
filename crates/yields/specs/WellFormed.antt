-- What every tree of a grammar is like: its nodes are in order, and each has one place.
use Rattle.std.specs.Prelude.{◌≡◌, ℕ, ◌<◌, ◌⊎◌, List, length, slice_index, slice_index_or}
use Rattle.tree.specs.declared.class.Class.TheVariants.{Token, Name, Chain, Alternative, Optional, Repetition}
use Rattle.tree.specs.declared.node.Node.{Node}
use Rattle.tree.specs.Tree.{node, children}

-- the root of the rule that the name node n names
abbrev pub root_of : List Node → List ℕ → ℕ → ℕ
root_of ns rs n = slice_index rs (node ns n).value

-- the root of the first rule
abbrev pub start_root : List ℕ → ℕ
start_root rs = slice_index rs 0

pub record WellFormed (ns : List Node) (rs : List ℕ) : Type 0 where
  pub kinds : (n : ℕ) → n < length ns → (node ns n).class ≡ Token → (0 < (node ns n).value) × ((node ns n).value < 127)
  pub names : (n : ℕ) → n < length ns → (node ns n).class ≡ Name → (node ns n).value < length rs
  pub roots : (r : ℕ) → r < length rs → slice_index rs r < length ns
  pub started : 0 < length rs
  pub below : (n k : ℕ) → n < length ns → k < length (children ns n) → slice_index (children ns n) k < n
  pub options : (n : ℕ) → n < length ns → (node ns n).class ≡ Optional → (node ns n).first < n
  pub repetitions : (n : ℕ) → n < length ns → (node ns n).class ≡ Repetition → (node ns n).first < n
  pub branches : (n : ℕ) → n < length ns → (node ns n).class ≡ Alternative → 0 < length (children ns n)

-- Place ns p k c: c stands right under p, at the place k
pub data Place (ns : List Node) : ℕ → ℕ → ℕ → Type 0 where
  link : {p : ℕ} (k : ℕ) → p < length ns → (node ns p).class ≡ Chain → k < length (children ns p) → Place ns p k (slice_index (children ns p) k)
  branch : {p : ℕ} (k : ℕ) → p < length ns → (node ns p).class ≡ Alternative → k < length (children ns p) → Place ns p k (slice_index (children ns p) k)
  option : {p : ℕ} → p < length ns → (node ns p).class ≡ Optional → Place ns p 0 (node ns p).first
  round : {p : ℕ} → p < length ns → (node ns p).class ≡ Repetition → Place ns p 0 (node ns p).first

-- c is the root of a rule
pub record Root (rs : List ℕ) (c : ℕ) : Type 0 where
  pub rule : ℕ
  pub within : rule < length rs
  pub is : slice_index_or rs rule 0 ≡ c

-- c stands right under some node
pub record Placed (ns : List Node) (c : ℕ) : Type 0 where
  pub parent : ℕ
  pub position : ℕ
  pub place : Place ns parent position c

-- each node is a root or stands right under one other node, and not both
pub record Forest (ns : List Node) (rs : List ℕ) : Type 0 where
  pub one : {p k q j c : ℕ} → Place ns p k c → Place ns q j c → (p ≡ q) × (k ≡ j)
  pub free : {p k c : ℕ} → Root rs c → ¬ Place ns p k c
  pub some : (n : ℕ) → n < length ns → Root rs n ⊎ Placed ns n
