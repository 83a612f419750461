-- What the next mark tells a reader of a grammar that has passed.
use Rattle.std.specs.Prelude.{◌≡◌, ℕ, ◌<◌, List, ◌∷◌, ◌++◌, length}
use Rattle.tree.specs.declared.class.Class.TheVariants.{Alternative, Optional, Repetition}
use Rattle.tree.specs.declared.node.Node.{Node}
use Rattle.tree.specs.Tree.{node, children}
use Rattle.yields.specs.Marks.{Has, empty_mark}
use Rattle.yields.specs.Yield.{Yields, YieldsAll}
use Rattle.yields.specs.Context.{mark_of, Comes}
use Rattle.yields.specs.WellFormed.{start_root}
use Rattle.yields.specs.Passing.{child}

-- Picks ns first n m i: at the mark m the alternative n goes to its branch i, whose FIRST has m; or no branch's has, and i can be empty
pub data Picks (ns : List Node) (first : ℕ → ℕ) (n m : ℕ) : ℕ → Type 0 where
  has : {i : ℕ} → i < length (children ns n) → Has (first (child ns n i)) m → Picks ns first n m i
  none : {i : ℕ} → i < length (children ns n) → ((j : ℕ) → j < length (children ns n) → ¬ Has (first (child ns n j)) m) → Has (first (child ns n i)) empty_mark → Picks ns first n m i

module _ (ns : List Node) (rs : List ℕ) (first : ℕ → ℕ) where
  pub record Predicts : Type 0 where
    -- whatever a branch yields in a derivation from the start, the next mark picks that branch
    pub branch : (n i v u : ℕ) (before pile cs ks ds ls : List ℕ) → Comes ns rs before (n ∷ pile) → (node ns n).class ≡ Alternative → i < length (children ns n) → Yields ns rs (child ns n i) cs ks v → YieldsAll ns rs pile ds ls u → Picks ns first n (mark_of (ks ++ ls)) i
    -- and no other
    pub one : (n m i j : ℕ) → n < length ns → (node ns n).class ≡ Alternative → Picks ns first n m i → Picks ns first n m j → i ≡ j
    -- into the inside of an option or a repetition: its FIRST has the next mark; past it: its FIRST has not
    pub option_in : (n v u : ℕ) (before pile cs ks ds ls : List ℕ) → Comes ns rs before (n ∷ pile) → (node ns n).class ≡ Optional → Yields ns rs (node ns n).first cs ks v → YieldsAll ns rs pile ds ls u → Has (first (node ns n).first) (mark_of (ks ++ ls))
    pub option_past : (n u : ℕ) (before pile ds ls : List ℕ) → Comes ns rs before (n ∷ pile) → (node ns n).class ≡ Optional → YieldsAll ns rs pile ds ls u → ¬ Has (first (node ns n).first) (mark_of ls)
    pub round_in : (n v u : ℕ) (before pile cs ks ds ls : List ℕ) → Comes ns rs before (n ∷ pile) → (node ns n).class ≡ Repetition → Yields ns rs (node ns n).first cs ks v → YieldsAll ns rs (n ∷ pile) ds ls u → Has (first (node ns n).first) (mark_of (ks ++ ls))
    pub round_past : (n u : ℕ) (before pile ds ls : List ℕ) → Comes ns rs before (n ∷ pile) → (node ns n).class ≡ Repetition → YieldsAll ns rs pile ds ls u → ¬ Has (first (node ns n).first) (mark_of ls)

-- each sentence has one choice list, found in one number of visits
pub record Unambiguous (ns : List Node) (rs : List ℕ) : Type 0 where
  pub one : (cs ds ks : List ℕ) (v u : ℕ) → Yields ns rs (start_root rs) cs ks v → Yields ns rs (start_root rs) ds ks u → (cs ≡ ds) × (v ≡ u)
