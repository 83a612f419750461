-- Branches, sequences and items, as they are read one after another.
use Rattle.std.proofs.Common.{◌≡◌, ℕ, ◌≤◌, List, [], ◌∷◌, ◌++◌, length, take, drop, Some, None, Ok, Err, Option, Result, sym, ap, ◌∙◌, subst, arith, length-append, MatchResult}
use Rattle.std.proofs.lemmas.List.{append_assoc, take_all, take-append-le, drop_all, drop-append-le}
use Rattle.grammar.specs.declared.depth.Depth.{Depth}
use Rattle.grammar.specs.Bodies.{MarkFirst, level_at, BranchRead, BranchRefused, FitsDepth, EndedGoes, EndedRefused, Closed, Unclosed, SequenceRead}
use Rattle.grammar.specs.Forest.{roots_of}
use Rattle.grammar.specs.Reader.{text_of, tokens_of, standing, fixed}
use Rattle.grammar.specs.Refusals.{RefusedAs}
use Rattle.grammar.specs.Words.{bracket, piece_token, word_spot, rest_of}
use Rattle.grammar.specs.declared.opened.Opened.{Opened}
use Rattle.grammar.specs.declared.piece.Bracket.{Bracket as BracketOf}
use Rattle.grammar.specs.declared.piece.Piece.TheVariants as piece_is
use Rattle.grammar.specs.Parts.{Reader}
use Rattle.grammar.specs.declared.refusal.Refusal.{Refusal}
use Rattle.grammar.specs.declared.words.Word.{Word}
use Rattle.notation.specs.Numbering.{Level, no_level}
use Rattle.notation.specs.Reading.{Levels, Outcome}
use Rattle.notation.specs.Tokens.{Bracket, bar}

-- some branches have ended
pub record BranchesOn (depth : Depth) (before after : Reader) : Type 0 where
  pub same : fixed after ≡ fixed before
  pub ended : List ℕ
  pub more : roots_of after.forest ≡ roots_of before.forest ++ ended
  pub no_longer : length (tokens_of after) ≤ length (tokens_of before)
  pub goes : (bs : List Bracket) → length bs ≡ depth.brackets → (rule : ℕ) (outer : Levels bs) → standing before bs rule no_level outer ≡ standing after bs rule (record { ended = ended; items = [] }) outer

pub refused_so : (e : Refusal) (o u : Outcome) → o ≡ u → RefusedAs e u → RefusedAs e o
refused_so e o u p h = subst (RefusedAs e) (sym p) h

take_front : (n : ℕ) (xs ys : List ℕ) → n ≡ length xs → take n (xs ++ ys) ≡ xs
take_front n xs ys e = take-append-le n xs ys (omega arith) ∙ take_all n xs (omega arith)

drop_front : (n : ℕ) (xs ys : List ℕ) → n ≡ length xs → drop n (xs ++ ys) ≡ ys
drop_front n xs ys e = drop-append-le n xs ys (omega arith) ∙ ap (λ l. l ++ ys) (drop_all n xs (omega arith))

-- what is refused within branches
pub refused_within : (c : Option BracketOf) (depth : Depth) (l : Level) (r : Reader) (e : Refusal) → FitsDepth c depth → ((bs : List Bracket) → length bs ≡ depth.brackets → (rule : ℕ) (outer : Levels bs) → RefusedAs e (standing r bs rule l outer)) → EndedRefused c depth r l e
refused_within None depth l r e d h = λ rule. h [] (sym d) rule tt
refused_within (Some b) depth l r e d h = λ bs deep rule around outer. h (bracket b ∷ bs) deep rule (around, outer)

-- from a reader r with the roots below index from, over ended branches to m, over a sequence to n, at a mark
module _ (depth : Depth) (r m n : Reader) (b : BranchesOn depth r m) (x : Word) (q : SequenceRead depth m n x) (from begin : ℕ) (low : from ≡ length (roots_of r.forest)) (high : begin ≡ length (roots_of m.forest)) where
  abbrev items : List ℕ
  items = q.on.items

  ended_part : take begin (roots_of n.forest) ≡ roots_of m.forest
  ended_part = ap (take begin) q.on.more ∙ take_front begin (roots_of m.forest) items high

  items_part : drop begin (roots_of n.forest) ≡ q.on.items
  items_part = ap (drop begin) q.on.more ∙ drop_front begin (roots_of m.forest) items high

  ended_is : drop from (take begin (roots_of n.forest)) ≡ b.ended
  ended_is = ap (drop from) (ended_part ∙ b.more) ∙ drop_front from (roots_of r.forest) b.ended low

  pub left_is : take from (roots_of n.forest) ≡ roots_of r.forest
  left_is = ap (take from) (q.on.more ∙ ap (λ l. l ++ items) b.more ∙ append_assoc (roots_of r.forest) b.ended items) ∙ take_front from (roots_of r.forest) (b.ended ++ items) low

  pub low_high : from ≤ begin
  low_high = omega (arith, ap length b.more, length-append (roots_of r.forest) b.ended)

  pub high_within : begin ≤ length (roots_of n.forest)
  high_within = omega (arith, ap length q.on.more, length-append (roots_of m.forest) items)

  abbrev pub at_mark : Option BracketOf → Opened
  at_mark c = record { closing = c; from = from; begin = begin; ordered = low_high }

  -- the level of the branches, as it is at the mark
  to_items : (bs : List Bracket) → length bs ≡ depth.brackets → (rule : ℕ) (outer : Levels bs) → standing r bs rule no_level outer ≡ standing n bs rule (record { ended = b.ended; items = drop begin (roots_of n.forest) }) outer
  to_items bs deep rule outer =
      b.goes bs deep rule outer ∙ q.on.goes bs deep rule (record { ended = b.ended; items = [] }) outer ∙ ap (λ l. standing n bs rule (record { ended = b.ended; items = l }) outer) (sym items_part)

  to_level : (bs : List Bracket) → length bs ≡ depth.brackets → (rule : ℕ) (outer : Levels bs) → standing r bs rule no_level outer ≡ standing n bs rule (record { ended = drop from (take begin (roots_of n.forest)); items = drop begin (roots_of n.forest) }) outer
  to_level bs deep rule outer = to_items bs deep rule outer ∙ ap (λ l. standing n bs rule (record { ended = l; items = drop begin (roots_of n.forest) }) outer) (sym ended_is)

  -- a bar
  pub bar_first : x.piece ≡ piece_is.Bar → MarkFirst n.words bar
  bar_first e = record { spot = word_spot (text_of n) x; first = q.first ∙ ap (λ k. piece_token k (word_spot (text_of n) x) ∷ rest_of (tokens_of n)) e }

  pub branch_more : (after : Reader) → BranchRead begin n after → BranchesOn depth r after
  branch_more after h = record {
    same = h.same ∙ q.on.same ∙ b.same;
    ended = b.ended ++ h.node ∷ [];
    more = h.more ∙ ap (λ l. l ++ h.node ∷ []) (ended_part ∙ b.more) ∙ append_assoc (roots_of r.forest) b.ended (h.node ∷ []);
    no_longer = omega (arith, h.shorter, q.on.no_longer, b.no_longer);
    goes = λ bs deep rule outer. to_items bs deep rule outer ∙ h.goes bs (omega arith) rule b.ended outer;
  }

  pub branch_unclosed : (c : Option BracketOf) → FitsDepth c depth → (after : Reader) (e : Refusal) → BranchRefused begin n after e → Unclosed c depth no_level r after e
  branch_unclosed c d after e h = record {
    same = h.same ∙ q.on.same ∙ b.same;
    told =
        refused_within c depth no_level r e d
        (λ bs deep rule outer. refused_so e (standing r bs rule no_level outer) (standing n bs rule (record { ended = b.ended; items = drop begin (roots_of n.forest) }) outer) (to_items bs deep rule outer) (h.told bs (omega arith) rule b.ended outer));
  }

  -- the mark that ends the branches
  goes_to_end : (c : Option BracketOf) → FitsDepth c depth → (after : Reader) (k : ℕ) → EndedGoes c depth n after (level_at (at_mark c) (roots_of n.forest)) k → EndedGoes c depth r after no_level k
  goes_to_end None d after k g = λ rule. to_level [] (sym d) rule tt ∙ g rule
  goes_to_end (Some b) d after k g = λ bs deep rule around outer. to_level (bracket b ∷ bs) deep rule (around, outer) ∙ g bs deep rule around outer

  refused_to_end : (c : Option BracketOf) → FitsDepth c depth → (e : Refusal) → EndedRefused c depth n (level_at (at_mark c) (roots_of n.forest)) e → EndedRefused c depth r no_level e
  refused_to_end None d e g = λ rule. refused_so e (standing r [] rule no_level tt) (standing n [] rule (level_at (at_mark None) (roots_of n.forest)) tt) (to_level [] (sym d) rule tt) (g rule)
  refused_to_end (Some b) d e g =
      λ bs deep rule around outer.
      refused_so e (standing r (bracket b ∷ bs) rule no_level (around, outer)) (standing n (bracket b ∷ bs) rule (level_at (at_mark (Some b)) (roots_of n.forest)) (around, outer)) (to_level (bracket b ∷ bs) deep rule (around, outer)) (g bs deep rule around outer)

  pub all_closed : (c : Option BracketOf) → FitsDepth c depth → (after : Reader) (res : Result ℕ Refusal)
      → ((k : Depth) → MatchResult res (Closed c k (take from (roots_of n.forest)) (level_at (at_mark c) (roots_of n.forest)) n after) (Unclosed c k (level_at (at_mark c) (roots_of n.forest)) n after))
      → MatchResult res (Closed c depth (roots_of r.forest) no_level r after) (Unclosed c depth no_level r after)
  all_closed c d after (Ok k) h =
      let g = h depth in
      record {
        same = g.same ∙ q.on.same ∙ b.same;
        roots_left = g.roots_left ∙ left_is;
        own = g.own;
        small = g.small;
        shorter = omega (arith, g.shorter, q.on.no_longer, b.no_longer);
        goes = goes_to_end c d after k g.goes;
      }
  all_closed c d after (Err e) h =
      let g = h depth in
      record { same = g.same ∙ q.on.same ∙ b.same; told = refused_to_end c d e g.told }
