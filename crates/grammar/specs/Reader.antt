-- What a reader of the notation has read and has to read.
use Rattle.std.specs.Prelude.{◌≡◌, ℕ, ◌<◌, false, List, ◌∷◌, length}
use Rattle.grammar.specs.Forest.{nodes_of, roots_of, limit_of, Place, place}
use Rattle.grammar.specs.Refusals.{RefusedAs}
use Rattle.grammar.specs.Words as words
use Rattle.grammar.specs.Words.{word_spot, rest_of, WordTold}
use Rattle.grammar.specs.declared.depth.Depth.{Depth}
use Rattle.grammar.specs.declared.piece.Piece.{Piece}
use Rattle.grammar.specs.declared.piece.Piece.TheVariants as piece_is
use Rattle.grammar.specs.declared.items.Item.{Item}
use Rattle.grammar.specs.declared.items.Item.TheVariants as item_is
use Rattle.grammar.specs.Parts.{Lenders, Reader}
use Rattle.grammar.specs.declared.refusal.Refusal.{Refusal}
use Rattle.grammar.specs.declared.words.Word.{Word}
use Rattle.grammar.specs.declared.words.Words.{Words}
use Rattle.notation.specs.Numbering.{Level, one_more}
use Rattle.notation.specs.Reading.{Limits, Levels, Outcome, bad_spelling, run}
use Rattle.notation.specs.Standing.{ready, inside}
use Rattle.notation.specs.Tables.{Tables}
use Rattle.notation.specs.Tokens.{Bracket, Terminal, Token, terminal, Ending}
use Rattle.tables.specs.Meant.{tables_meant}
use Rattle.tables.specs.Filling.{room}

abbrev pub text_of : Reader → List ℕ
text_of r = r.words.text.now

abbrev pub tokens_of : Reader → List Token
tokens_of r = words.tokens r.words

abbrev pub tables_of : Reader → Tables
tables_of r = tables_meant (text_of r) r.names r.kinds r.forest.nodes

-- what no call changes
pub record Fixed : Type 0 where
  pub text : List ℕ
  pub ending : Ending
  pub limits : Limits
  pub name_place : Place
  pub kind_place : Place
  pub node_place : Place
  pub lenders : Lenders

abbrev pub fixed : Reader → Fixed
fixed r = record {
  text = text_of r;
  ending = words.ending r.words;
  limits = record { names = room r.names; kinds = room r.kinds; nodes = limit_of r.forest };
  name_place = place r.names;
  kind_place = place r.kinds;
  node_place = place r.forest.nodes;
  lenders = r.lenders;
}

-- what the automaton of the notation makes of the tokens to come, within these brackets and levels
abbrev pub standing : Reader → (bs : List Bracket) → ℕ → Level → Levels bs → Outcome
standing r bs rule l outer =
    run (fixed r).limits (inside bs) (record { tables = tables_of r; rule = rule; level = l; outer = outer }) (tokens_of r) (fixed r).ending

-- and where a rule may begin
abbrev pub standing_ready : Reader → Tables → Outcome
standing_ready r T = run (fixed r).limits ready T (tokens_of r) (fixed r).ending

-- the first token is a name
pub record NamedFirst (w : Words) (x : Word) : Type 0 where
  pub first : WordTold w x
  pub is : x.piece ≡ piece_is.Name

-- a class word, or a spelling that may be one
pub record TerminalFirst (w : Words) (x : Word) : Type 0 where
  pub sort : Terminal
  pub first : words.tokens w ≡ terminal sort (word_spot w.text.now x) ∷ rest_of (words.tokens w)
  pub spelt : bad_spelling (terminal sort (word_spot w.text.now x)) ≡ false

-- a spelling in quotes
pub record SpellingFirst (w : Words) (x : Word) : Type 0 where
  pub first : WordTold w x
  pub is : x.piece ≡ piece_is.Spelling

-- a mark that ends a sequence
abbrev pub Ends : Piece → Type 0
Ends piece_is.Name = ⊥
Ends piece_is.ClassWord = ⊥
Ends piece_is.Spelling = ⊥
Ends piece_is.Arrow = ⊥
Ends piece_is.Bar = Unit {0}
Ends piece_is.Semicolon = Unit {0}
Ends (piece_is.Opening b) = ⊥
Ends (piece_is.Closing b) = Unit {0}

-- one part of a sequence is read, and its node is one more of its items
pub record NodeRead (depth : Depth) (before after : Reader) (n : ℕ) : Type 0 where
  pub same : fixed after ≡ fixed before
  pub same_roots : roots_of after.forest ≡ roots_of before.forest
  pub own : length (roots_of after.forest) < length (nodes_of after.forest)
  pub small : n < 1024
  pub shorter : length (tokens_of after) < length (tokens_of before)
  pub goes : (bs : List Bracket) → length bs ≡ depth.brackets → (rule : ℕ) (l : Level) (outer : Levels bs) → standing before bs rule l outer ≡ standing after bs rule (one_more l n) outer

-- a mark stands first, and nothing has changed
pub record MarkMet (before after : Reader) (x : Word) : Type 0 where
  pub same : after ≡ before
  pub first : WordTold before.words x
  pub ends : Ends x.piece

abbrev pub ItemTold : Depth → Reader → Reader → Item → Type 0
ItemTold depth before after (item_is.Node n) = NodeRead depth before after n
ItemTold depth before after (item_is.Mark x) = MarkMet before after x

-- the reading is refused so, whatever stands around
pub record ItemRefused (depth : Depth) (before after : Reader) (e : Refusal) : Type 0 where
  pub same : fixed after ≡ fixed before
  pub told : (bs : List Bracket) → length bs ≡ depth.brackets → (rule : ℕ) (l : Level) (outer : Levels bs) → RefusedAs e (standing before bs rule l outer)
