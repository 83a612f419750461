-- What is proved of what can end, FIRST, FOLLOW and passing.
use Rattle.std.specs.Prelude.{◌≡◌, ℕ, ◌<◌, Bool, true, ◌↔◌, List, ◌++◌, length, replicate, slice_index, slice_set}
use Rattle.tree.specs.declared.node.Node.{Node}
use Rattle.yields.specs.Yield.{Yields}
use Rattle.yields.specs.WellFormed.{WellFormed, Forest}
use Rattle.yields.specs.Weighing.{Weighing, Laws}
use Rattle.yields.specs.Equations.{equation, Solves, Least, entry, heights, Rising, Reached, rounds}
use Rattle.yields.specs.Marks.{Has, first, ending, empty_mark}
use Rattle.yields.specs.Meaning.{Productive, Starts, Nullable}
use Rattle.yields.specs.Follow.{Follow, Fed, HoldsFollow}
use Rattle.yields.specs.Context.{Sentence, Met, After, Reachable}
use Rattle.yields.specs.Passing.{ELL1, IsELL1, Runs}
use Rattle.yields.specs.Predict.{Predicts, Unambiguous}

-- no replacement changes the table
abbrev pub Stable : {V : Type 0} → Weighing V → List Node → List ℕ → List V → Type 0
Stable w ns rs table = (n : ℕ) → n < length ns → equation w ns rs (entry w table) n ≡ entry w table n

-- how the equations are solved
pub record Climbs {V : Type 0} (w : Weighing V) (ns : List Node) (rs : List ℕ) : Type 0 where
  pub begins : Rising w ns rs (replicate (length ns) w.nothing)
  pub keeps : (table : List V) → Rising w ns rs table → (n : ℕ) → n < length ns → Rising w ns rs (slice_set table n (equation w ns rs (entry w table) n))
  pub falls : (table : List V) → Rising w ns rs table → (n : ℕ) → n < length ns → ¬ (equation w ns rs (entry w table) n ≡ entry w table n) → heights w (slice_set table n (equation w ns rs (entry w table) n)) < heights w table
  pub ends : (table : List V) → Rising w ns rs table → Stable w ns rs table → Least w ns rs (entry w table)
  pub in_any_order : (table : List V) → Reached w ns rs table → Stable w ns rs table → Least w ns rs (entry w table)
  pub enough_rounds : Least w ns rs (entry w (rounds w ns rs (heights w (replicate (length ns) w.nothing))))
  pub just_one : (f g : ℕ → V) → Least w ns rs f → Least w ns rs g → (n : ℕ) → n < length ns → f n ≡ g n

-- so for each weighing that keeps the laws
abbrev pub WeighingsClimb : Type 1
WeighingsClimb = (V : Type 0) (w : Weighing V) → Laws w → (ns : List Node) (rs : List ℕ) → WellFormed ns rs → Climbs w ns rs

-- the two weighings keep the laws, so that their equations are solved so
pub record BothClimb (ns : List Node) (rs : List ℕ) : Type 0 where
  pub ending_laws : Laws ending
  pub ending_climbs : Climbs ending ns rs
  pub first_laws : Laws first
  pub first_climbs : Climbs first ns rs

-- what can end is what yields something
pub record EndsRight (ns : List Node) (rs : List ℕ) (f : ℕ → Bool) : Type 0 where
  pub at : (n : ℕ) → n < length ns → (f n ≡ true) ↔ Productive ns rs n

-- FIRST is what the yields begin with: for any solution; the empty mark of the least one; its kinds, where every rule yields something
pub record FirstCovers (ns : List Node) (rs : List ℕ) (f : ℕ → ℕ) : Type 0 where
  pub kinds : (n k : ℕ) → n < length ns → Starts ns rs n k → (k < empty_mark) × Has (f n) k
  pub nulls : (n : ℕ) → n < length ns → Nullable ns rs n → Has (f n) empty_mark

pub record EmptyRight (ns : List Node) (rs : List ℕ) (f : ℕ → ℕ) : Type 0 where
  pub at : (n : ℕ) → n < length ns → Has (f n) empty_mark ↔ Nullable ns rs n

pub record FirstRight (ns : List Node) (rs : List ℕ) (f : ℕ → ℕ) : Type 0 where
  pub at : (n k : ℕ) → n < length ns → k < empty_mark → Has (f n) k ↔ Starts ns rs n k

-- what can come after a node is in its FOLLOW; and nothing else, where every rule is reached and yields something
pub record FollowCovers (ns : List Node) (rs : List ℕ) (f : ℕ → ℕ) : Type 0 where
  pub at : (n m : ℕ) → After ns rs n m → Follow ns rs f n m

pub record FollowRight (ns : List Node) (rs : List ℕ) (f : ℕ → ℕ) : Type 0 where
  pub at : (n m : ℕ) → Follow ns rs f n m ↔ After ns rs n m

-- what is met stands in a sentence
pub record MetInSentences (ns : List Node) (rs : List ℕ) : Type 0 where
  pub at : (n v : ℕ) (before after cs ks : List ℕ) → Met ns rs n before after → Yields ns rs n cs ks v → Sentence ns rs (before ++ (ks ++ after))

-- every rule yields something
abbrev pub Yielding : List Node → List ℕ → Type 0
Yielding ns rs = (r : ℕ) → r < length rs → Productive ns rs (slice_index rs r)

-- every rule is reached from the start
abbrev pub ReachedAll : List Node → List ℕ → Type 0
ReachedAll ns rs = (r : ℕ) → r < length rs → Reachable ns rs (slice_index rs r)

pub record AnalysisRight (ns : List Node) (rs : List ℕ) : Type 0 where
  pub climb : BothClimb ns rs
  pub ends : (f : ℕ → Bool) → Least ending ns rs f → EndsRight ns rs f
  pub first_covers : (f : ℕ → ℕ) → Solves first ns rs f → FirstCovers ns rs f
  pub empty_right : (f : ℕ → ℕ) → Least first ns rs f → EmptyRight ns rs f
  pub first_right : Yielding ns rs → (f : ℕ → ℕ) → Least first ns rs f → FirstRight ns rs f
  pub follow_covers : (f : ℕ → ℕ) → Solves first ns rs f → FollowCovers ns rs f
  pub follow_right : Forest ns rs → Yielding ns rs → ReachedAll ns rs → (f : ℕ → ℕ) → Least first ns rs f → FollowRight ns rs f
  pub sentences : MetInSentences ns rs
  -- what passing promises a reader: the next mark decides, and each sentence has one choice list
  pub predicts : (f : ℕ → ℕ) → Least first ns rs f → ELL1 ns rs f → Predicts ns rs f
  pub unambiguous : (f : ℕ → ℕ) → Least first ns rs f → ELL1 ns rs f → Unambiguous ns rs
  -- no chain of needs for FIRST is longer than the table; sets that are fed are FOLLOW; and passing is being ELL(1)
  pub shallow : (f : ℕ → ℕ) → ELL1 ns rs f → (n : ℕ) (xs : List ℕ) → n < length ns → Runs ns rs f n xs → length xs < length ns
  pub slots : (f g : ℕ → ℕ) → Fed ns rs f g → ((x m : ℕ) → Has (g x) m → Follow ns rs f x m) → HoldsFollow ns rs f g
  pub passing : Forest ns rs → (f : ℕ → ℕ) → Least first ns rs f → ELL1 ns rs f ↔ IsELL1 ns rs

-- all of it, for every grammar tree
abbrev pub AnalysisStands : Type 0
AnalysisStands = (ns : List Node) (rs : List ℕ) → WellFormed ns rs → AnalysisRight ns rs
