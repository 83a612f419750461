-- A node without children, made for the token that stands first.
use Rattle.std.specs.Prelude.{◌≡◌, ℕ}
use Rattle.grammar.specs.Forest.{MadeOne, MadeNone}
use Rattle.grammar.specs.Parts.{Reader, with_forest}
use Rattle.grammar.specs.Words.{Advanced}
use Rattle.grammar.specs.declared.items.Item.{Item}
use Rattle.grammar.specs.declared.items.Item.TheVariants as item_is
use Rattle.grammar.specs.declared.refusal.Refusal.{Refusal}
use Rattle.grammar.specs.declared.refusal.Refusal.TheVariants.{NodesFull}
use Rattle.tables.specs.declared.full.Full.{Full}
use Rattle.tree.specs.declared.class.Class.{Class}

-- the node is made, and the token taken
pub record LeafMade (c : Class) (v : ℕ) (before after : Reader) (n : ℕ) : Type 0 where
  pub made : MadeOne c v 1024 before.forest after.forest n
  pub went : Advanced before.words after.words
  pub beside : after ≡ record { words = after.words; names = before.names; kinds = before.kinds; forest = after.forest; lenders = before.lenders }

abbrev pub LeafRead : Class → ℕ → Reader → Reader → Item → Type 0
LeafRead c v before after (item_is.Node n) = LeafMade c v before after n
LeafRead c v before after (item_is.Mark x) = ⊥

-- there can be no more nodes
pub record LeafRefused (before after : Reader) (e : Refusal) : Type 0 where
  pub full : Full
  pub told : e ≡ NodesFull full.limit
  pub none : MadeNone before.forest after.forest full
  pub beside : after ≡ with_forest before after.forest
