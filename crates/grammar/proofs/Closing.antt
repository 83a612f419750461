-- Marks that end sequences and branches.
use Rattle.std.proofs.Common.{◌≡◌, ℕ, ◌<◌, ◌≤◌, List, [], ◌∷◌, ◌++◌, map, length, take, drop, Some, None, Option, sym, refl, ap, ◌∙◌, arith, length-append}
use Rattle.grammar.proofs.Leaves.{rest_shorter}
use Rattle.grammar.proofs.Moves.{fixed_same, fits, moved, fronted, tables_same}
use Rattle.grammar.specs.declared.depth.Depth.{Depth}
use Rattle.grammar.specs.Bodies.{closing_token, level_at, MarkFirst, BranchRead, EndedGoes, EndedRefused, Closed, Unclosed}
use Rattle.grammar.specs.Forest.{nodes_of, roots_of, place, over_group, over_branches, BranchEnded, Finished, Unfinished}
use Rattle.grammar.specs.Reader.{tokens_of, tables_of, fixed, standing_ready}
use Rattle.grammar.specs.Words.{bracket, rest_of, Advanced}
use Rattle.grammar.specs.Trees.{Forest}
use Rattle.grammar.specs.declared.opened.Opened.{Opened}
use Rattle.grammar.specs.declared.piece.Bracket.{Bracket as BracketOf}
use Rattle.grammar.specs.declared.piece.Bracket.TheVariants as bracket_is
use Rattle.grammar.specs.Parts.{Reader}
use Rattle.grammar.specs.declared.refusal.Refusal.TheVariants.{NodesFull}
use Rattle.grammar.specs.declared.words.Words.{Words}
use Rattle.notation.specs.Numbering.{Made, end_sequence, end_branches, end_level, end_group, rule_ended, Level, one_more, next_branch}
use Rattle.notation.specs.Reading.{nodes_full, refused, run}
use Rattle.notation.specs.Standing.{ready}
use Rattle.notation.specs.Tables.{Tables}
use Rattle.notation.specs.Tokens.{Token, bar, semi, closing}
use Rattle.notation.proofs.Steps.{bar_on, closing_on, closing_nodes_full, semi_on, semi_nodes_full}
use Rattle.tables.specs.Meant.{name_meant, kind_meant}
use Rattle.tables.specs.Nodes.{over_row}
use Rattle.tables.specs.Nodes as tables
use Rattle.tables.specs.Filling.{entries}
use Rattle.tables.specs.declared.full.Full.{Full}
use Rattle.tree.specs.declared.class.Class.TheVariants as class_is
use Rattle.tree.specs.declared.node.Node.{Node}

-- nodes made in these tables
abbrev pub made_in : Tables → tables.Made → Made
made_in T M = record { tables = record { names = T.names; kinds = T.kinds; nodes = M.nodes }; at = M.at }

pub sequence_row : (items : List ℕ) (T : Tables) → end_sequence items T ≡ made_in T (over_row class_is.Chain items T.nodes)
sequence_row [] T = refl
sequence_row (n ∷ []) T = refl
sequence_row (n ∷ m ∷ rest) T = refl

branches_row : (row : List ℕ) (T : Tables) → 0 < length row → end_branches row T ≡ made_in T (over_row class_is.Alternative row T.nodes)
branches_row [] T h = absurd (omega arith)
branches_row (n ∷ []) T h = refl
branches_row (n ∷ m ∷ rest) T h = refl

pub level_row : (ended items : List ℕ) (T : Tables) → end_level (record { ended = ended; items = items }) T ≡ made_in T (over_branches ended items T.nodes)
level_row ended items T =
    ap (λ M. end_branches (ended ++ M.at ∷ []) M.tables) (sequence_row items T)
    ∙ branches_row (ended ++ (over_row class_is.Chain items T.nodes).at ∷ []) (made_in T (over_row class_is.Chain items T.nodes)).tables (omega (arith, length-append ended ((over_row class_is.Chain items T.nodes).at ∷ [])))

group_row : (b : BracketOf) (T : Tables) (M : tables.Made) → end_group (bracket b) (made_in T M) ≡ made_in T (over_group (Some b) M)
group_row bracket_is.Round T M = refl
group_row bracket_is.Square T M = refl
group_row bracket_is.Curly T M = refl

pub closed_row : (b : BracketOf) (ended items : List ℕ) (T : Tables) → end_group (bracket b) (end_level (record { ended = ended; items = items }) T) ≡ made_in T (over_group (Some b) (over_branches ended items T.nodes))
closed_row b ended items T = ap (end_group (bracket b)) (level_row ended items T) ∙ group_row b T (over_branches ended items T.nodes)

-- a forest that has changed, and a token that is gone
module _ (r : Reader) (forest : Forest) (same_place : place forest.nodes ≡ place r.forest.nodes) where
  abbrev halfway : Reader
  halfway = record { words = r.words; names = r.names; kinds = r.kinds; forest = forest; lenders = r.lenders }

  pub half_same : fixed (record { words = r.words; names = r.names; kinds = r.kinds; forest = forest; lenders = r.lenders }) ≡ fixed r
  half_same = fixed_same r halfway refl refl refl refl same_place refl

  module _ (after : Words) (a : Advanced r.words after) where
    abbrev q : Reader
    q = record { words = after; names = r.names; kinds = r.kinds; forest = forest; lenders = r.lenders }

    pub grown_same : fixed (record { words = after; names = r.names; kinds = r.kinds; forest = forest; lenders = r.lenders }) ≡ fixed r
    grown_same = fixed_same r q a.text_same a.end_same refl refl same_place refl

    pub grown_tables : (ns : List Node) → nodes_of forest ≡ ns → ◌≡◌ {A = Tables} (record { names = (tables_of r).names; kinds = (tables_of r).kinds; nodes = ns }) (tables_of (record { words = after; names = r.names; kinds = r.kinds; forest = forest; lenders = r.lenders }))
    grown_tables ns e =
        tables_same (tables_of r).names (map (name_meant after.text.now) (entries r.names)) (tables_of r).kinds (map (kind_meant after.text.now) (entries r.kinds)) ns (nodes_of forest)
        (ap (λ t. map (name_meant t) (entries r.names)) (sym a.text_same))
        (ap (λ t. map (kind_meant t) (entries r.kinds)) (sym a.text_same))
        (sym e)

made_same : (T U : Tables) (m n : ℕ) → T ≡ U → m ≡ n → ◌≡◌ {A = Made} (record { tables = T; at = m }) (record { tables = U; at = n })
made_same T U m n e f = ap (λ X. record { tables = X; at = m }) e ∙ ap (λ k. record { tables = U; at = k }) f

-- where a rule may begin
ready_moved : (r q : Reader) (T U : Tables) (ts : List Token) → fixed q ≡ fixed r → T ≡ U → ts ≡ tokens_of q → run (fixed r).limits ready T ts (fixed r).ending ≡ standing_ready q U
ready_moved r q T U ts same t s =
    ap (λ f. run f.limits ready T ts f.ending) (sym same) ∙ ap (λ X. run (fixed q).limits ready X ts (fixed q).ending) t ∙ ap (λ x. run (fixed q).limits ready U x (fixed q).ending) s

-- a bar
module _ (r : Reader) (first : MarkFirst r.words bar) (begin : ℕ) where
  abbrev items : List ℕ
  items = drop begin (roots_of r.forest)

  abbrev row : tables.Made
  row = over_row class_is.Chain (drop begin (roots_of r.forest)) (nodes_of r.forest)

  pub branch_read : (forest : Forest) (h : BranchEnded begin r.forest forest) (after : Words) (a : Advanced r.words after) → BranchRead begin r (record { words = after; names = r.names; kinds = r.kinds; forest = forest; lenders = r.lenders })
  branch_read forest h after a = record {
    same = grown_same r forest h.place after a;
    node = row.at;
    more = h.more;
    shorter = omega (arith, ap length a.rest, rest_shorter (tokens_of r) (bar first.spot) first.first);
    goes =
        λ bs deep rule ended outer.
        fronted bs rule outer r (bar first.spot) (rest_of (tokens_of r)) (record { ended = ended; items = items }) first.first
        ∙ bar_on (fixed r).limits (rest_of (tokens_of r)) (fixed r).ending bs (record { tables = tables_of r; rule = rule; level = record { ended = ended; items = items }; outer = outer }) first.spot deep (fits r)
        (omega (arith, h.fits, ap length h.nodes, ap (λ M. length M.tables.nodes) (sequence_row items (tables_of r))))
        ∙ moved bs rule outer r (record { words = after; names = r.names; kinds = r.kinds; forest = forest; lenders = r.lenders }) (end_sequence items (tables_of r)).tables (rest_of (tokens_of r)) (next_branch (record { ended = ended; items = items }) (end_sequence items (tables_of r)).at) (record { ended = ended ++ row.at ∷ []; items = [] }) (grown_same r forest h.place after a)
        (ap (λ M. M.tables) (sequence_row items (tables_of r)) ∙ grown_tables r forest h.place after a row.nodes h.nodes) (sym a.rest)
        (ap (λ M. record { ended = ended ++ M.at ∷ []; items = [] }) (sequence_row items (tables_of r)));
  }

-- the mark after branches
module _ (r : Reader) (from begin : ℕ) (ordered : from ≤ begin) where
  abbrev pub with_mark : Option BracketOf → Opened
  with_mark c = record { closing = c; from = from; begin = begin; ordered = ordered }

  abbrev level : Level
  level = record { ended = drop from (take begin (roots_of r.forest)); items = drop begin (roots_of r.forest) }

  abbrev rest : List Token
  rest = rest_of (tokens_of r)

  full_told : (c : Option BracketOf) (first : MarkFirst r.words (closing_token c)) (forest : Forest) (e : Full) → Unfinished (with_mark c) r.forest forest e
      → (depth : Depth) → EndedRefused c depth r (level_at (with_mark c) (roots_of r.forest)) (NodesFull e.limit)
  full_told None first forest e h depth =
      λ rule.
      fronted [] rule tt r (semi first.spot) rest level first.first
      ∙ semi_nodes_full (fixed r).limits rest (fixed r).ending (record { tables = tables_of r; rule = rule; level = level; outer = tt }) first.spot (fits r)
      (omega (arith, h.full, ap (λ M. length M.tables.nodes) (level_row level.ended level.items (tables_of r))))
      ∙ ap (λ n. refused (nodes_full n)) (sym h.told)
  full_told (Some b) first forest e h depth =
      λ bs deep rule around outer.
      fronted (bracket b ∷ bs) rule (around, outer) r (closing (bracket b) first.spot) rest level first.first
      ∙ closing_nodes_full (fixed r).limits rest (fixed r).ending (bracket b) bs (record { tables = tables_of r; rule = rule; level = level; outer = (around, outer) }) first.spot (omega arith) (fits r)
      (omega (arith, h.full, ap (λ M. length M.tables.nodes) (closed_row b level.ended level.items (tables_of r))))
      ∙ ap (λ n. refused (nodes_full n)) (sym h.told)

  pub closed_full : (c : Option BracketOf) (first : MarkFirst r.words (closing_token c)) (forest : Forest) (e : Full) → Unfinished (with_mark c) r.forest forest e
      → (depth : Depth) → Unclosed c depth (level_at (with_mark c) (roots_of r.forest)) r (record { words = r.words; names = r.names; kinds = r.kinds; forest = forest; lenders = r.lenders }) (NodesFull e.limit)
  closed_full c first forest e h depth = record { same = half_same r forest h.place; told = full_told c first forest e h depth }

  closed_goes : (c : Option BracketOf) (first : MarkFirst r.words (closing_token c)) (forest : Forest) (n : ℕ) (h : Finished (with_mark c) r.forest forest n) (after : Words) (a : Advanced r.words after)
      → (depth : Depth) → EndedGoes c depth r (record { words = after; names = r.names; kinds = r.kinds; forest = forest; lenders = r.lenders }) (level_at (with_mark c) (roots_of r.forest)) n
  closed_goes None first forest n h after a depth =
      λ rule.
      let q : Reader = record { words = after; names = r.names; kinds = r.kinds; forest = forest; lenders = r.lenders } in
      let M : tables.Made = over_branches level.ended level.items (nodes_of r.forest) in
      let same = grown_same r forest h.place after a in
      let made : end_level level (tables_of r) ≡ record { tables = tables_of q; at = n } =
      level_row level.ended level.items (tables_of r) ∙ made_same (made_in (tables_of r) M).tables (tables_of q) M.at n (grown_tables r forest h.place after a M.nodes h.nodes) (sym h.number) in
      fronted [] rule tt r (semi first.spot) rest level first.first
      ∙ semi_on (fixed r).limits rest (fixed r).ending (record { tables = tables_of r; rule = rule; level = level; outer = tt }) first.spot (fits r)
      (omega (arith, h.fits, ap length h.nodes, ap (λ M. length M.tables.nodes) (level_row level.ended level.items (tables_of r))))
      ∙ ready_moved r q (rule_ended rule (end_level level (tables_of r))) (rule_ended rule (record { tables = tables_of q; at = n })) rest same (ap (rule_ended rule) made) (sym a.rest)
  closed_goes (Some b) first forest n h after a depth =
      λ bs deep rule around outer.
      let q : Reader = record { words = after; names = r.names; kinds = r.kinds; forest = forest; lenders = r.lenders } in
      let M : tables.Made = over_group (Some b) (over_branches level.ended level.items (nodes_of r.forest)) in
      let ended : Made = end_group (bracket b) (end_level level (tables_of r)) in
      let row = closed_row b level.ended level.items (tables_of r) in
      fronted (bracket b ∷ bs) rule (around, outer) r (closing (bracket b) first.spot) rest level first.first
      ∙ closing_on (fixed r).limits rest (fixed r).ending (bracket b) bs (record { tables = tables_of r; rule = rule; level = level; outer = (around, outer) }) first.spot (omega arith) (fits r)
      (omega (arith, h.fits, ap length h.nodes, ap (λ M. length M.tables.nodes) row))
      ∙ moved bs rule outer r q ended.tables rest (one_more around ended.at) (one_more around n) (grown_same r forest h.place after a)
      (ap (λ M. M.tables) row ∙ grown_tables r forest h.place after a M.nodes h.nodes) (sym a.rest) (ap (λ M. one_more around M.at) row ∙ ap (one_more around) (sym h.number))

  pub closed_read : (c : Option BracketOf) (first : MarkFirst r.words (closing_token c)) (forest : Forest) (n : ℕ) (h : Finished (with_mark c) r.forest forest n) (after : Words) (a : Advanced r.words after)
      → (depth : Depth) → Closed c depth (take from (roots_of r.forest)) (level_at (with_mark c) (roots_of r.forest)) r (record { words = after; names = r.names; kinds = r.kinds; forest = forest; lenders = r.lenders }) n
  closed_read c first forest n h after a depth = record {
    same = grown_same r forest h.place after a;
    roots_left = h.fewer;
    own = h.own;
    small = h.small;
    shorter = omega (arith, ap length a.rest, rest_shorter (tokens_of r) (closing_token c first.spot) first.first);
    goes = closed_goes c first forest n h after a depth;
  }
