-- The items of a sequence, one after another, and groups among them.
use Rattle.std.proofs.Common.{◌≡◌, ℕ, ◌+◌, ◌<◌, List, [], ◌∷◌, length, Some, sym, refl, ap, ◌∙◌, arith}
use Rattle.std.proofs.lemmas.List.{append-nil}
use Rattle.grammar.proofs.Closing.{grown_same, grown_tables}
use Rattle.grammar.proofs.Cycle.{refused_so}
use Rattle.grammar.proofs.Leaves.{rest_shorter}
use Rattle.grammar.proofs.Moves.{fits, moved, fronted}
use Rattle.grammar.specs.declared.depth.Depth.{Depth}
use Rattle.grammar.specs.Bodies.{Closed, Unclosed, SequenceOn}
use Rattle.grammar.specs.Forest.{nodes_of, roots_of}
use Rattle.grammar.specs.Reader.{text_of, tokens_of, tables_of, fixed, standing, NodeRead, ItemRefused}
use Rattle.grammar.specs.Words.{bracket, piece_token, word_spot, rest_of, WordTold, Advanced}
use Rattle.grammar.specs.declared.piece.Bracket.{Bracket as BracketOf}
use Rattle.grammar.specs.declared.piece.Piece.{Piece}
use Rattle.grammar.specs.declared.piece.Piece.TheVariants as piece_is
use Rattle.grammar.specs.Parts.{Reader}
use Rattle.grammar.specs.declared.refusal.Refusal.{Refusal}
use Rattle.grammar.specs.declared.refusal.Refusal.TheVariants as refusal_is
use Rattle.grammar.specs.declared.words.Word.{Word}
use Rattle.grammar.specs.declared.words.Words.{Words}
use Rattle.notation.specs.Numbering.{Level, no_level}
use Rattle.notation.specs.Reading.{Levels}
use Rattle.notation.specs.Tokens.{Bracket, Spot, Token, opening, arrow}
use Rattle.notation.proofs.Steps.{opening_on, opening_too_deep, arrow_misplaced}

pub no_item_yet : (depth : Depth) (r : Reader) → SequenceOn depth r r
no_item_yet depth r = record {
  same = refl;
  items = [];
  more = sym (append-nil (roots_of r.forest));
  no_longer = omega arith;
  goes = λ bs deep rule l outer. ap (λ ns. standing r bs rule (record { ended = l.ended; items = ns }) outer) (sym (append-nil l.items));
}

-- a token that is no item and no mark at its place
module _ (depth : Depth) (r : Reader) (x : Word) (first : WordTold r.words x) where
  abbrev spot : Spot
  spot = word_spot (text_of r) x

  abbrev rest : List Token
  rest = rest_of (tokens_of r)

  first_is : (k : Piece) → x.piece ≡ k → tokens_of r ≡ piece_token k (word_spot (text_of r) x) ∷ rest_of (tokens_of r)
  first_is k e = first ∙ ap (λ p. piece_token p (word_spot (text_of r) x) ∷ rest_of (tokens_of r)) e

  pub arrow_unread : x.piece ≡ piece_is.Arrow → ItemRefused depth r r (refusal_is.Misplaced x.place)
  arrow_unread e = record {
    same = refl;
    told =
        λ bs deep rule l outer.
        fronted bs rule outer r (arrow spot) rest l (first_is piece_is.Arrow e) ∙ arrow_misplaced (fixed r).limits rest (fixed r).ending bs (record { tables = tables_of r; rule = rule; level = l; outer = outer }) spot;
  }

  module _ (b : BracketOf) (e : x.piece ≡ piece_is.Opening b) where
    pub group_too_deep : depth.brackets ≡ 32 → ItemRefused depth r r (refusal_is.TooDeep x.place)
    group_too_deep full = record {
      same = refl;
      told =
          λ bs deep rule l outer.
          fronted bs rule outer r (opening (bracket b) spot) rest l (first_is (piece_is.Opening b) e) ∙ opening_too_deep (fixed r).limits rest (fixed r).ending bs (record { tables = tables_of r; rule = rule; level = l; outer = outer }) (bracket b) spot (deep ∙ full);
    }

    module _ (inside : Depth) (deeper : inside.brackets ≡ depth.brackets + 1) (after : Words) (a : Advanced r.words after) where
      abbrev within : Reader
      within = record { words = after; names = r.names; kinds = r.kinds; forest = r.forest; lenders = r.lenders }

      pub within_shorter : length (tokens_of (record { words = after; names = r.names; kinds = r.kinds; forest = r.forest; lenders = r.lenders })) < length (tokens_of r)
      within_shorter = omega (arith, ap length a.rest, rest_shorter (tokens_of r) (opening (bracket b) spot) (first_is (piece_is.Opening b) e))

      -- past the opening bracket
      to_within : (bs : List Bracket) → length bs ≡ depth.brackets → (rule : ℕ) (l : Level) (outer : Levels bs) → standing r bs rule l outer ≡ standing (record { words = after; names = r.names; kinds = r.kinds; forest = r.forest; lenders = r.lenders }) (bracket b ∷ bs) rule no_level (l, outer)
      to_within bs deep rule l outer =
          fronted bs rule outer r (opening (bracket b) spot) rest l (first_is (piece_is.Opening b) e)
          ∙ opening_on (fixed r).limits rest (fixed r).ending bs (record { tables = tables_of r; rule = rule; level = l; outer = outer }) (bracket b) spot (omega arith) (fits r)
          ∙ moved (bracket b ∷ bs) rule (l, outer) r within (tables_of r) rest no_level no_level (grown_same r r.forest refl after a) (grown_tables r r.forest refl after a (nodes_of r.forest) refl) (sym a.rest) refl

      pub group_read : (n : Reader) (k : ℕ) → Closed (Some b) inside (roots_of r.forest) no_level (record { words = after; names = r.names; kinds = r.kinds; forest = r.forest; lenders = r.lenders }) n k → NodeRead depth r n k
      group_read n k h = record {
        same = h.same ∙ grown_same r r.forest refl after a;
        same_roots = h.roots_left;
        own = h.own;
        small = h.small;
        shorter = omega (arith, h.shorter, within_shorter);
        goes = λ bs deep rule l outer. to_within bs deep rule l outer ∙ h.goes bs (omega arith) rule l outer;
      }

      pub group_unread : (n : Reader) (x : Refusal) → Unclosed (Some b) inside no_level (record { words = after; names = r.names; kinds = r.kinds; forest = r.forest; lenders = r.lenders }) n x → ItemRefused depth r n x
      group_unread n x h = record {
        same = h.same ∙ grown_same r r.forest refl after a;
        told = λ bs deep rule l outer. refused_so x (standing r bs rule l outer) (standing within (bracket b ∷ bs) rule no_level (l, outer)) (to_within bs deep rule l outer) (h.told bs (omega arith) rule l outer);
      }
