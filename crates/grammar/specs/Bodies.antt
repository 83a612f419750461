-- How branches and sequences are read.
use Rattle.std.specs.Prelude.{◌≡◌, ℕ, suc, ◌<◌, ◌≤◌, List, [], ◌∷◌, ◌++◌, length, take, drop, Some, None, Option}
use Rattle.grammar.specs.Forest.{nodes_of, roots_of}
use Rattle.grammar.specs.Reader.{tokens_of, tables_of, fixed, standing, standing_ready, Ends}
use Rattle.grammar.specs.Refusals.{RefusedAs}
use Rattle.grammar.specs.Words.{bracket, tokens, rest_of, WordTold}
use Rattle.grammar.specs.declared.depth.Depth.{Depth}
use Rattle.grammar.specs.declared.opened.Opened.{Opened}
use Rattle.grammar.specs.declared.piece.Bracket.{Bracket as BracketOf}
use Rattle.grammar.specs.declared.piece.Piece.{Piece}
use Rattle.grammar.specs.declared.piece.Piece.TheVariants as piece_is
use Rattle.grammar.specs.Parts.{Reader}
use Rattle.grammar.specs.declared.refusal.Refusal.{Refusal}
use Rattle.grammar.specs.declared.words.Word.{Word}
use Rattle.grammar.specs.declared.words.Words.{Words}
use Rattle.notation.specs.Numbering.{Level, one_more, rule_ended}
use Rattle.notation.specs.Reading.{Levels}
use Rattle.notation.specs.Tokens.{Bracket, Spot, Token, semi, closing}

-- the mark that ends branches: of a rule, or within a bracket
abbrev pub closing_piece : Option BracketOf → Piece
closing_piece None = piece_is.Semicolon
closing_piece (Some b) = piece_is.Closing b

abbrev pub closing_token : Option BracketOf → Spot → Token
closing_token None s = semi s
closing_token (Some b) s = closing (bracket b) s

-- such a token stands first
pub record MarkFirst (w : Words) (mark : Spot → Token) : Type 0 where
  pub spot : Spot
  pub first : tokens w ≡ mark spot ∷ rest_of (tokens w)

-- the roots are branches that have ended, and the items of the last sequence
abbrev pub level_at : Opened → List ℕ → Level
level_at o ns = record { ended = drop o.from (take o.begin ns); items = drop o.begin ns }

-- a sequence has ended at a bar
pub record BranchRead (begin : ℕ) (before after : Reader) : Type 0 where
  pub same : fixed after ≡ fixed before
  pub node : ℕ
  pub more : roots_of after.forest ≡ take begin (roots_of before.forest) ++ node ∷ []
  pub shorter : length (tokens_of after) < length (tokens_of before)
  pub goes : (bs : List Bracket) → length bs ≤ 32 → (rule : ℕ) (ended : List ℕ) (outer : Levels bs)
      → standing before bs rule (record { ended = ended; items = drop begin (roots_of before.forest) }) outer ≡ standing after bs rule (record { ended = ended ++ node ∷ []; items = [] }) outer

pub record BranchRefused (begin : ℕ) (before after : Reader) (e : Refusal) : Type 0 where
  pub same : fixed after ≡ fixed before
  pub told : (bs : List Bracket) → length bs ≤ 32 → (rule : ℕ) (ended : List ℕ) (outer : Levels bs)
      → RefusedAs e (standing before bs rule (record { ended = ended; items = drop begin (roots_of before.forest) }) outer)

-- a rule's branches stand in no bracket
abbrev pub FitsDepth : Option BracketOf → Depth → Type 0
FitsDepth None depth = depth.brackets ≡ 0
FitsDepth (Some b) depth = Unit {0}

-- from a level within branches to what their mark leads to
abbrev pub EndedGoes : Option BracketOf → Depth → Reader → Reader → Level → ℕ → Type 0
EndedGoes None depth before after l n = (rule : ℕ) → standing before [] rule l tt ≡ standing_ready after (rule_ended rule (record { tables = tables_of after; at = n }))
EndedGoes (Some b) depth before after l n =
    (bs : List Bracket) → suc (length bs) ≡ depth.brackets → (rule : ℕ) (around : Level) (outer : Levels bs)
    → standing before (bracket b ∷ bs) rule l (around, outer) ≡ standing after bs rule (one_more around n) outer

abbrev pub EndedRefused : Option BracketOf → Depth → Reader → Level → Refusal → Type 0
EndedRefused None depth before l e = (rule : ℕ) → RefusedAs e (standing before [] rule l tt)
EndedRefused (Some b) depth before l e =
    (bs : List Bracket) → suc (length bs) ≡ depth.brackets → (rule : ℕ) (around : Level) (outer : Levels bs) → RefusedAs e (standing before (bracket b ∷ bs) rule l (around, outer))

pub record Closed (c : Option BracketOf) (depth : Depth) (left : List ℕ) (l : Level) (before after : Reader) (n : ℕ) : Type 0 where
  pub same : fixed after ≡ fixed before
  pub roots_left : roots_of after.forest ≡ left
  pub own : length (roots_of after.forest) < length (nodes_of after.forest)
  pub small : n < 1024
  pub shorter : length (tokens_of after) < length (tokens_of before)
  pub goes : EndedGoes c depth before after l n

pub record Unclosed (c : Option BracketOf) (depth : Depth) (l : Level) (before after : Reader) (e : Refusal) : Type 0 where
  pub same : fixed after ≡ fixed before
  pub told : EndedRefused c depth before l e

-- more items of a sequence
abbrev pub with_items : Level → List ℕ → Level
with_items l ns = record { ended = l.ended; items = l.items ++ ns }

pub record SequenceOn (depth : Depth) (before after : Reader) : Type 0 where
  pub same : fixed after ≡ fixed before
  pub items : List ℕ
  pub more : roots_of after.forest ≡ roots_of before.forest ++ items
  pub no_longer : length (tokens_of after) ≤ length (tokens_of before)
  pub goes : (bs : List Bracket) → length bs ≡ depth.brackets → (rule : ℕ) (l : Level) (outer : Levels bs) → standing before bs rule l outer ≡ standing after bs rule (with_items l items) outer

-- items up to a mark that ends the sequence
pub record SequenceRead (depth : Depth) (before after : Reader) (x : Word) : Type 0 where
  pub on : SequenceOn depth before after
  pub first : WordTold after.words x
  pub ends : Ends x.piece
