-- What the yields of a node are like: whether there are any, whether one is empty, and how they begin.
use Rattle.std.specs.Prelude.{ℕ, List, [], ◌∷◌}
use Rattle.tree.specs.declared.node.Node.{Node}
use Rattle.yields.specs.Yield.{Yields, YieldsAll}

-- n yields something
pub record Productive (ns : List Node) (rs : List ℕ) (n : ℕ) : Type 0 where
  pub choices : List ℕ
  pub kinds : List ℕ
  pub visits : ℕ
  pub yields : Yields ns rs n choices kinds visits

-- n yields no kind
pub record Nullable (ns : List Node) (rs : List ℕ) (n : ℕ) : Type 0 where
  pub choices : List ℕ
  pub visits : ℕ
  pub yields : Yields ns rs n choices [] visits

-- something that n yields begins with the kind k
pub record Starts (ns : List Node) (rs : List ℕ) (n k : ℕ) : Type 0 where
  pub choices : List ℕ
  pub after : List ℕ
  pub visits : ℕ
  pub yields : Yields ns rs n choices (k ∷ after) visits

-- the nodes of xs, one after the other, yield something
pub record ProductiveAll (ns : List Node) (rs : List ℕ) (xs : List ℕ) : Type 0 where
  pub choices : List ℕ
  pub kinds : List ℕ
  pub visits : ℕ
  pub yields : YieldsAll ns rs xs choices kinds visits

-- something that the nodes of xs yield, one after the other, begins with the kind k
pub record StartsAll (ns : List Node) (rs : List ℕ) (xs : List ℕ) (k : ℕ) : Type 0 where
  pub choices : List ℕ
  pub after : List ℕ
  pub visits : ℕ
  pub yields : YieldsAll ns rs xs choices (k ∷ after) visits

pub record NullableAll (ns : List Node) (rs : List ℕ) (xs : List ℕ) : Type 0 where
  pub choices : List ℕ
  pub visits : ℕ
  pub yields : YieldsAll ns rs xs choices [] visits
