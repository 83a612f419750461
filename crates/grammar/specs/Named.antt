-- The number of the name that a word is.
use Rattle.std.specs.Prelude.{◌≡◌, ℕ}
use Rattle.grammar.specs.Parts.{Reader, with_names}
use Rattle.grammar.specs.Reader.{text_of}
use Rattle.grammar.specs.Words.{name_entry}
use Rattle.grammar.specs.declared.refusal.Refusal.{Refusal}
use Rattle.grammar.specs.declared.refusal.Refusal.TheVariants.{NamesFull}
use Rattle.grammar.specs.declared.words.Word.{Word}
use Rattle.tables.specs.Numbering.{Numbered, Refused}
use Rattle.tables.specs.declared.full.Full.{Full}

-- it has that number among the names
pub record NameNumbered (x : Word) (before after : Reader) (i : ℕ) : Type 0 where
  pub number : Numbered (λ e. e.place) (λ e. e.length) (text_of before) (name_entry x) before.names after.names i
  pub loan : after.names.table.ghost_name ≡ before.names.table.ghost_name
  pub beside : after ≡ with_names before after.names

-- it is new, and there can be no more
pub record NameOver (x : Word) (before after : Reader) (e : Refusal) : Type 0 where
  pub full : Full
  pub over : Refused (λ e. e.place) (λ e. e.length) (text_of before) (name_entry x) before.names after.names full
  pub told : e ≡ NamesFull x.place
  pub beside : after ≡ with_names before after.names
