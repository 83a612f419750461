-- A reader before and after a token.
use Rattle.std.proofs.Common.{◌≡◌, ℕ, min, List, ◌∷◌, sym, ap, ◌∙◌, subst, arith, length-take}
use lib.ListN.{length-map}
use Rattle.grammar.specs.Forest.{Place, place}
use Rattle.grammar.specs.Reader.{text_of, tokens_of, tables_of, Fixed, fixed, standing}
use Rattle.grammar.specs.Words as words
use Rattle.grammar.specs.Words.{Advanced}
use Rattle.grammar.specs.declared.words.Words.{Words}
use Rattle.grammar.specs.Parts.{Lenders, Reader}
use Rattle.notation.specs.Numbering.{Level}
use Rattle.notation.specs.Reading.{Levels, Outcome, run}
use Rattle.notation.specs.Standing.{inside}
use Rattle.notation.specs.Tables.{Entry, Tables}
use Rattle.notation.specs.Tokens.{Bracket, Spot, Token, Ending}
use Rattle.notation.proofs.Steps.{Fits}
use Rattle.tables.specs.Meant.{name_meant, kind_meant}
use Rattle.tables.specs.Filling.{entries}
use Rattle.tree.specs.declared.node.Node.{Node}

-- what is fixed, by its parts
abbrev fixed_by : List ℕ → Ending → Place → Place → Place → Lenders → Fixed
fixed_by text e names kinds nodes lenders = record {
  text = text;
  ending = e;
  limits = record { names = min 64 names.long; kinds = min 120 kinds.long; nodes = min 1024 nodes.long };
  name_place = names;
  kind_place = kinds;
  node_place = nodes;
  lenders = lenders;
}

pub fixed_same : (r q : Reader) → text_of q ≡ text_of r → words.ending q.words ≡ words.ending r.words → place q.names ≡ place r.names → place q.kinds ≡ place r.kinds → place q.forest.nodes ≡ place r.forest.nodes → q.lenders ≡ r.lenders → fixed q ≡ fixed r
fixed_same r q text e names kinds nodes lenders =
    ap (λ x. fixed_by x (words.ending q.words) (place q.names) (place q.kinds) (place q.forest.nodes) q.lenders) text
    ∙ ap (λ x. fixed_by (text_of r) x (place q.names) (place q.kinds) (place q.forest.nodes) q.lenders) e
    ∙ ap (λ x. fixed_by (text_of r) (words.ending r.words) x (place q.kinds) (place q.forest.nodes) q.lenders) names
    ∙ ap (λ x. fixed_by (text_of r) (words.ending r.words) (place r.names) x (place q.forest.nodes) q.lenders) kinds
    ∙ ap (λ x. fixed_by (text_of r) (words.ending r.words) (place r.names) (place r.kinds) x q.lenders) nodes
    ∙ ap (λ x. fixed_by (text_of r) (words.ending r.words) (place r.names) (place r.kinds) (place r.forest.nodes) x) lenders

-- the tables of a reader are within their limits
pub fits : (r : Reader) → Fits (fixed r).limits (tables_of r)
fits r = record {
  names = omega (arith, length-map (entries r.names) (name_meant (text_of r)), length-take r.names.count r.names.table.now, r.names.within, r.names.few);
  kinds = omega (arith, length-map (entries r.kinds) (kind_meant (text_of r)), length-take r.kinds.count r.kinds.table.now, r.kinds.within, r.kinds.few);
  nodes = omega (arith, length-take r.forest.nodes.count r.forest.nodes.table.now, r.forest.nodes.within, r.forest.nodes.few);
}

-- the automaton goes on from what the reader has come to
module _ (bs : List Bracket) (rule : ℕ) (outer : Levels bs) where
  abbrev on : Fixed → Tables → List Token → Level → Outcome
  on f T ts l = run f.limits (inside bs) (record { tables = T; rule = rule; level = l; outer = outer }) ts f.ending

  pub moved : (r q : Reader) (T : Tables) (ts : List Token) (k l : Level) → fixed q ≡ fixed r → T ≡ tables_of q → ts ≡ tokens_of q → k ≡ l → on (fixed r) T ts k ≡ standing q bs rule l outer
  moved r q T ts k l same t s e =
      ap (λ f. on f T ts k) (sym same) ∙ ap (λ x. on (fixed q) x ts k) t ∙ ap (λ x. on (fixed q) (tables_of q) x k) s ∙ ap (λ x. on (fixed q) (tables_of q) (tokens_of q) x) e

  -- the first token is known
  pub fronted : (r : Reader) (t : Token) (ts : List Token) (l : Level) → tokens_of r ≡ t ∷ ts → standing r bs rule l outer ≡ on (fixed r) (tables_of r) (t ∷ ts) l
  fronted r t ts l e = ap (λ x. on (fixed r) (tables_of r) x l) e

pub tables_same : (A a : List Entry) (B b : List Spot) (C c : List Node) → A ≡ a → B ≡ b → C ≡ c → ◌≡◌ {A = Tables} (record { names = A; kinds = B; nodes = C }) (record { names = a; kinds = b; nodes = c })
tables_same A a B b C c p q r =
    ap (λ x. record { names = x; kinds = B; nodes = C }) p ∙ ap (λ x. record { names = a; kinds = x; nodes = C }) q ∙ ap (λ x. record { names = a; kinds = b; nodes = x }) r

-- the same reader over the words after a token
abbrev pub words_gone : Words → Reader → Reader
words_gone after r = record { words = after; names = r.names; kinds = r.kinds; forest = r.forest; lenders = r.lenders }

pub advanced : (before same after : Words) → before ≡ same → Advanced before after → Advanced same after
advanced before same after e a = subst (λ w. Advanced w after) e a
