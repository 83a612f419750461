-- What passing promises: by FIRST and FOLLOW, and by what the nodes yield.
use Rattle.std.specs.Prelude.{◌≡◌, ℕ, ◌<◌, List, [], ◌∷◌, length, slice_index}
use Rattle.tree.specs.declared.class.Class.TheVariants.{Name, Chain, Alternative, Optional, Repetition}
use Rattle.tree.specs.declared.node.Node.{Node}
use Rattle.tree.specs.Tree.{node, children}
use Rattle.yields.specs.WellFormed.{root_of}
use Rattle.yields.specs.Marks.{Has, empty_mark}
use Rattle.yields.specs.Meaning.{Productive, Starts, Nullable}
use Rattle.yields.specs.Follow.{Follow}
use Rattle.yields.specs.Context.{Reachable, After}

-- the k-th child of n
abbrev pub child : List Node → ℕ → ℕ → ℕ
child ns n k = slice_index (children ns n) k

module _ (ns : List Node) (rs : List ℕ) (first : ℕ → ℕ) where
  -- NeedsFirst n c: the FIRST of n is made from that of c
  pub data NeedsFirst : ℕ → ℕ → Type 0 where
    name : {n : ℕ} → n < length ns → (node ns n).class ≡ Name → NeedsFirst n (root_of ns rs n)
    link : {n : ℕ} (k : ℕ) → n < length ns → (node ns n).class ≡ Chain → k < length (children ns n) → ((j : ℕ) → j < k → Has (first (child ns n j)) empty_mark) → NeedsFirst n (child ns n k)
    branch : {n : ℕ} (k : ℕ) → n < length ns → (node ns n).class ≡ Alternative → k < length (children ns n) → NeedsFirst n (child ns n k)
    option : {n : ℕ} → n < length ns → (node ns n).class ≡ Optional → NeedsFirst n (node ns n).first
    round : {n : ℕ} → n < length ns → (node ns n).class ≡ Repetition → NeedsFirst n (node ns n).first

  -- itself or through others
  pub data NeedsFar : ℕ → ℕ → Type 0 where
    near : {n c : ℕ} → NeedsFirst n c → NeedsFar n c
    far : {n c d : ℕ} → NeedsFirst n c → NeedsFar c d → NeedsFar n d

  -- Runs n xs: n needs the first of xs, and each of xs the next
  pub data Runs : ℕ → List ℕ → Type 0 where
    ends : {n : ℕ} → Runs n []
    step : {n c : ℕ} {xs : List ℕ} → NeedsFirst n c → Runs c xs → Runs n (c ∷ xs)

  -- none of the refusals 12 to 18 applies
  pub record ELL1 : Type 0 where
    -- refusal 12: each rule is reached from the start
    pub reached : (r : ℕ) → r < length rs → Reachable ns rs (slice_index rs r)
    -- refusal 13: each rule yields something
    pub yielding : (r : ℕ) → r < length rs → Productive ns rs (slice_index rs r)
    -- refusal 14: no node needs its own FIRST
    pub straight : (n : ℕ) → ¬ NeedsFar n n
    -- refusal 15: two branches share no mark
    pub apart : (n i j m : ℕ) → n < length ns → (node ns n).class ≡ Alternative → i < length (children ns n) → j < length (children ns n) → ¬ (i ≡ j) → Has (first (child ns n i)) m → ¬ Has (first (child ns n j)) m
    -- refusal 16: an alternative that can be empty shares no kind with its FOLLOW
    pub clear : (n m : ℕ) → n < length ns → (node ns n).class ≡ Alternative → Has (first n) empty_mark → m < empty_mark → Has (first n) m → ¬ Follow ns rs first n m
    -- refusal 17: the inside of an option or repetition cannot be empty
    pub option_full : (n : ℕ) → n < length ns → (node ns n).class ≡ Optional → ¬ Has (first (node ns n).first) empty_mark
    pub round_full : (n : ℕ) → n < length ns → (node ns n).class ≡ Repetition → ¬ Has (first (node ns n).first) empty_mark
    -- refusal 18: and shares no kind with the node's FOLLOW
    pub option_clear : (n m : ℕ) → n < length ns → (node ns n).class ≡ Optional → m < empty_mark → Has (first (node ns n).first) m → ¬ Follow ns rs first n m
    pub round_clear : (n m : ℕ) → n < length ns → (node ns n).class ≡ Repetition → m < empty_mark → Has (first (node ns n).first) m → ¬ Follow ns rs first n m

module _ (ns : List Node) (rs : List ℕ) where
  -- Begins n c: what n yields can begin with what c yields
  pub data Begins : ℕ → ℕ → Type 0 where
    name : {n : ℕ} → n < length ns → (node ns n).class ≡ Name → Begins n (root_of ns rs n)
    link : {n : ℕ} (k : ℕ) → n < length ns → (node ns n).class ≡ Chain → k < length (children ns n) → ((j : ℕ) → j < k → Nullable ns rs (child ns n j)) → Begins n (child ns n k)
    branch : {n : ℕ} (k : ℕ) → n < length ns → (node ns n).class ≡ Alternative → k < length (children ns n) → Begins n (child ns n k)
    option : {n : ℕ} → n < length ns → (node ns n).class ≡ Optional → Begins n (node ns n).first
    round : {n : ℕ} → n < length ns → (node ns n).class ≡ Repetition → Begins n (node ns n).first

  pub data BeginsFar : ℕ → ℕ → Type 0 where
    near : {n c : ℕ} → Begins n c → BeginsFar n c
    far : {n c d : ℕ} → Begins n c → BeginsFar c d → BeginsFar n d

  -- an ELL(1) grammar, by what its nodes yield and what can come after them
  pub record IsELL1 : Type 0 where
    pub reached : (n : ℕ) → n < length ns → Reachable ns rs n
    pub yielding : (n : ℕ) → n < length ns → Productive ns rs n
    -- no node begins with itself
    pub straight : (n : ℕ) → ¬ BeginsFar n n
    -- two branches never begin with the same kind, and are not both empty
    pub apart : (n i j k : ℕ) → n < length ns → (node ns n).class ≡ Alternative → i < length (children ns n) → j < length (children ns n) → ¬ (i ≡ j) → Starts ns rs (child ns n i) k → ¬ Starts ns rs (child ns n j) k
    pub one_empty : (n i j : ℕ) → n < length ns → (node ns n).class ≡ Alternative → i < length (children ns n) → j < length (children ns n) → ¬ (i ≡ j) → Nullable ns rs (child ns n i) → ¬ Nullable ns rs (child ns n j)
    -- where a branch can be empty, no kind that the alternative begins with can come right after that branch
    pub clear : (n i k : ℕ) → n < length ns → (node ns n).class ≡ Alternative → i < length (children ns n) → Nullable ns rs (child ns n i) → Starts ns rs n k → ¬ After ns rs (child ns n i) k
    -- the inside of an option or repetition is never empty, and no kind that it begins with can come right after the node
    pub option_full : (n : ℕ) → n < length ns → (node ns n).class ≡ Optional → ¬ Nullable ns rs (node ns n).first
    pub round_full : (n : ℕ) → n < length ns → (node ns n).class ≡ Repetition → ¬ Nullable ns rs (node ns n).first
    pub option_clear : (n k : ℕ) → n < length ns → (node ns n).class ≡ Optional → Starts ns rs (node ns n).first k → ¬ After ns rs n k
    pub round_clear : (n k : ℕ) → n < length ns → (node ns n).class ≡ Repetition → Starts ns rs (node ns n).first k → ¬ After ns rs n k
