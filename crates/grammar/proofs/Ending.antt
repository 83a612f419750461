-- The mark after the last sequence, and what cannot stand there.
use Rattle.std.proofs.Common.{◌≡◌, ℕ, List, [], ◌∷◌, Some, None, Option, refl, ap, ◌∙◌, arith}
use Rattle.grammar.proofs.Moves.{fronted}
use Rattle.grammar.specs.declared.depth.Depth.{Depth}
use Rattle.grammar.specs.Bodies.{closing_piece, closing_token, MarkFirst, EndedRefused, Unclosed}
use Rattle.grammar.specs.Reader.{text_of, tokens_of, tables_of, fixed, Ends}
use Rattle.grammar.specs.Words.{bracket, piece_token, word_spot, tokens, rest_of, WordTold}
use Rattle.grammar.specs.declared.piece.Bracket.{Bracket as BracketOf}
use Rattle.grammar.specs.declared.piece.Bracket.TheVariants.{Round, Square, Curly}
use Rattle.grammar.specs.declared.piece.Piece.{Piece}
use Rattle.grammar.specs.declared.piece.Piece.TheVariants as piece_is
use Rattle.grammar.specs.Parts.{Reader}
use Rattle.grammar.specs.declared.refusal.Refusal.TheVariants.{Misplaced}
use Rattle.grammar.specs.declared.words.Word.{Word}
use Rattle.grammar.specs.declared.words.Words.{Words}
use Rattle.notation.specs.Numbering.{Level}
use Rattle.notation.specs.Tokens.{Spot, Token, semi, closing}
use Rattle.notation.proofs.Steps.{semi_misplaced, closing_other_misplaced, closing_none_misplaced}

same_bracket : (b c : BracketOf) → bracket b ≡ bracket c → b ≡ c
same_bracket Round Round e = refl
same_bracket Round Square e = let z : ◌≡◌ {A = ℕ} 0 1 = cc in absurd (omega arith)
same_bracket Round Curly e = let z : ◌≡◌ {A = ℕ} 0 1 = cc in absurd (omega arith)
same_bracket Square Round e = let z : ◌≡◌ {A = ℕ} 0 1 = cc in absurd (omega arith)
same_bracket Square Square e = refl
same_bracket Square Curly e = let z : ◌≡◌ {A = ℕ} 0 1 = cc in absurd (omega arith)
same_bracket Curly Round e = let z : ◌≡◌ {A = ℕ} 0 1 = cc in absurd (omega arith)
same_bracket Curly Square e = let z : ◌≡◌ {A = ℕ} 0 1 = cc in absurd (omega arith)
same_bracket Curly Curly e = refl

module _ (r : Reader) (l : Level) (s : Spot) where
  abbrev rest : List Token
  rest = rest_of (tokens_of r)

  misplaced_mark : (c : Option BracketOf) (k : Piece) → tokens_of r ≡ piece_token k s ∷ rest_of (tokens_of r) → Ends k → (k ≡ piece_is.Bar → ⊥) → (k ≡ closing_piece c → ⊥) → (depth : Depth) → EndedRefused c depth r l (Misplaced s.place)
  misplaced_mark None piece_is.Semicolon first ends bar ne depth = absurd (ne refl)
  misplaced_mark None (piece_is.Closing b) first ends bar ne depth =
      λ rule. fronted [] rule tt r (closing (bracket b) s) rest l first ∙ closing_none_misplaced (fixed r).limits rest (fixed r).ending (record { tables = tables_of r; rule = rule; level = l; outer = tt }) (bracket b) s
  misplaced_mark (Some b) piece_is.Semicolon first ends bar ne depth =
      λ bs deep rule around outer.
      fronted (bracket b ∷ bs) rule (around, outer) r (semi s) rest l first ∙ semi_misplaced (fixed r).limits rest (fixed r).ending (bracket b) bs (record { tables = tables_of r; rule = rule; level = l; outer = (around, outer) }) s
  misplaced_mark (Some b) (piece_is.Closing c) first ends bar ne depth =
      λ bs deep rule around outer.
      fronted (bracket b ∷ bs) rule (around, outer) r (closing (bracket c) s) rest l first
      ∙ closing_other_misplaced (fixed r).limits rest (fixed r).ending (bracket b) bs (record { tables = tables_of r; rule = rule; level = l; outer = (around, outer) }) (bracket c) s (λ e. ne (ap piece_is.Closing (same_bracket c b e)))
  misplaced_mark c piece_is.Bar first ends bar ne depth = absurd (bar refl)
  misplaced_mark c piece_is.Name first ends bar ne depth = absurd ends
  misplaced_mark c piece_is.ClassWord first ends bar ne depth = absurd ends
  misplaced_mark c piece_is.Spelling first ends bar ne depth = absurd ends
  misplaced_mark c piece_is.Arrow first ends bar ne depth = absurd ends
  misplaced_mark c (piece_is.Opening b) first ends bar ne depth = absurd ends

pub unclosed_mark : (r : Reader) (l : Level) (c : Option BracketOf) (x : Word) → WordTold r.words x → Ends x.piece → (x.piece ≡ piece_is.Bar → ⊥) → (x.piece ≡ closing_piece c → ⊥) → (depth : Depth) → Unclosed c depth l r r (Misplaced x.place)
unclosed_mark r l c x first ends bar ne depth = record { same = refl; told = misplaced_mark r l (word_spot (text_of r) x) c x.piece first ends bar ne depth }

closing_is : (c : Option BracketOf) (s : Spot) → piece_token (closing_piece c) s ≡ closing_token c s
closing_is None s = refl
closing_is (Some b) s = refl

pub closing_first : (w : Words) (c : Option BracketOf) (x : Word) → WordTold w x → x.piece ≡ closing_piece c → MarkFirst w (closing_token c)
closing_first w c x first e = record {
  spot = word_spot w.text.now x;
  first = first ∙ ap (λ k. piece_token k (word_spot w.text.now x) ∷ rest_of (tokens w)) e ∙ ap (λ t. t ∷ rest_of (tokens w)) (closing_is c (word_spot w.text.now x));
}
