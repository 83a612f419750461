-- Names and terminals as items of a sequence.
use Rattle.std.proofs.Common.{◌≡◌, ℕ, suc, ◌+◌, ◌<◌, ◌≤◌, false, not, List, [], ◌∷◌, map, length, Ok, Err, Result, MatchResult, subst, sym, refl, ap, ◌∙◌, arith, length-append}
use Rattle.grammar.proofs.Counted.{name_number, names_are, names_fit, names_over, kind_number, kinds_are, kinds_fit, kinds_over}
use Rattle.grammar.proofs.Moves.{fixed_same, fits, moved, fronted, tables_same}
use Rattle.grammar.proofs.Rooting.{kept_place}
use Rattle.grammar.specs.Forest.{nodes_of, roots_of, MadeOne, MadeNone}
use Rattle.grammar.specs.Reader.{text_of, tokens_of, tables_of, fixed, NamedFirst, SpellingFirst, TerminalFirst, NodeRead, ItemTold, ItemRefused}
use Rattle.grammar.specs.Words.{name_entry, kind_entry, word_spot, piece_token, rest_of, Advanced}
use Rattle.grammar.specs.Leaf.{LeafRead, LeafRefused}
use Rattle.grammar.specs.declared.depth.Depth.{Depth}
use Rattle.grammar.specs.Trees.{Forest}
use Rattle.grammar.specs.declared.items.Item.{Item}
use Rattle.grammar.specs.declared.items.Item.TheVariants.{Node, Mark}
use Rattle.grammar.specs.declared.refusal.Refusal.{Refusal}
use Rattle.grammar.specs.Parts.{Reader}
use Rattle.grammar.specs.declared.refusal.Refusal.TheVariants.{Misspelt, NamesFull, KindsFull, NodesFull}
use Rattle.grammar.specs.declared.words.Word.{Word}
use Rattle.grammar.specs.declared.words.Words.{Words}
use Rattle.lexer.specs.declared.vocabulary.Spelling.{Spelling}
use Rattle.notation.specs.Numbering.{one_more, make_name, make_token}
use Rattle.notation.specs.Reading.{nodes_full, refused}
use Rattle.notation.specs.Tables.{with_name, with_kind, find_name, find_kind, add}
use Rattle.notation.specs.Tokens.{Spot, spelling, Token, name, terminal, is_spelling}
use Rattle.notation.proofs.Steps.{name_on, name_names_full, name_nodes_full, terminal_on, terminal_misspelt, terminal_kinds_full, terminal_nodes_full}
use Rattle.tables.specs.Meant.{name_meant, kind_meant}
use Rattle.tables.specs.Filling.{entries}
use Rattle.tables.specs.Numbering.{Numbered, Refused}
use Rattle.tables.specs.Spots.{cut}
use Rattle.tables.specs.declared.full.Full.{Full}
use Rattle.tables.specs.declared.name.Name.{Name}
use Rattle.tables.specs.declared.filling.Filling.{Filling}
use Rattle.tree.specs.declared.class.Class.TheVariants as class_is

pub rest_shorter : (ts : List Token) (t : Token) → ts ≡ t ∷ rest_of ts → length (rest_of ts) < length ts
rest_shorter ts t e = omega (arith, ap length e)

one_add_right : (i : ℕ) → i + 1 ≡ suc i
one_add_right i = omega arith

module _ (r : Reader) (x : Word) where
  abbrev spot : Spot
  spot = word_spot (text_of r) x

  -- the reader once an entry is numbered
  abbrev numbered_names : Filling Name 64 → Reader
  numbered_names names = record { words = r.words; names = names; kinds = r.kinds; forest = r.forest; lenders = r.lenders }

  abbrev numbered_kinds : Filling Spelling 120 → Reader
  numbered_kinds kinds = record { words = r.words; names = r.names; kinds = kinds; forest = r.forest; lenders = r.lenders }

  module _ (first : NamedFirst r.words x) where
    name_first : tokens_of r ≡ name (word_spot (text_of r) x) ∷ rest_of (tokens_of r)
    name_first = first.first ∙ ap (λ p. piece_token p (word_spot (text_of r) x) ∷ rest_of (tokens_of r)) first.is

    pub name_over : (names : Filling Name 64) (e : Full) → Refused (λ e. e.place) (λ e. e.length) (text_of r) (name_entry x) r.names names e
        → (depth : Depth) → ItemRefused depth r (record { words = r.words; names = names; kinds = r.kinds; forest = r.forest; lenders = r.lenders }) (NamesFull x.place)
    name_over names e m depth = record {
      same = ap (λ n. fixed (record { words = r.words; names = n; kinds = r.kinds; forest = r.forest; lenders = r.lenders })) m.same;
      told =
          λ bs deep rule l outer.
          fronted bs rule outer r (name spot) (rest_of (tokens_of r)) l name_first
          ∙ name_names_full (fixed r).limits (rest_of (tokens_of r)) (fixed r).ending bs (record { tables = tables_of r; rule = rule; level = l; outer = outer }) spot (omega arith) (names_over (text_of r) r.names names (name_entry x) refl e m);
    }

    module _ (names : Filling Name 64) (i : ℕ) (m : Numbered (λ e. e.place) (λ e. e.length) (text_of r) (name_entry x) r.names names i) (loan : names.table.ghost_name ≡ r.names.table.ghost_name) where
      few_names : length (with_name (word_spot (text_of r) x) (tables_of r).names) ≤ (fixed r).limits.names
      few_names = names_fit (text_of r) r.names names (name_entry x) refl i m

      pub name_nodes_over : (forest : Forest) (e : Full) → MadeNone r.forest forest e
          → (depth : Depth) → ItemRefused depth r (record { words = r.words; names = names; kinds = r.kinds; forest = forest; lenders = r.lenders }) (NodesFull e.limit)
      name_nodes_over forest e h depth = record {
        same = fixed_same r (record { words = r.words; names = names; kinds = r.kinds; forest = forest; lenders = r.lenders }) refl refl (kept_place r.names names m.kept loan) refl h.place refl;
        told =
            λ bs deep rule l outer.
            fronted bs rule outer r (name spot) (rest_of (tokens_of r)) l name_first
            ∙ name_nodes_full (fixed r).limits (rest_of (tokens_of r)) (fixed r).ending bs (record { tables = tables_of r; rule = rule; level = l; outer = outer }) spot (omega arith) (fits r) few_names h.full
            ∙ ap (λ n. refused (nodes_full n)) (sym h.told);
      }

      module _ (forest : Forest) (n : ℕ) (h : MadeOne class_is.Name i 1024 r.forest forest n) (after : Words) (a : Advanced r.words after) where
        abbrev q : Reader
        q = record { words = after; names = names; kinds = r.kinds; forest = forest; lenders = r.lenders }

        same : fixed (record { words = after; names = names; kinds = r.kinds; forest = forest; lenders = r.lenders }) ≡ fixed r
        same = fixed_same r q a.text_same a.end_same (kept_place r.names names m.kept loan) refl h.place refl

        tables : (make_name (word_spot (text_of r) x) (tables_of r)).tables ≡ tables_of (record { words = after; names = names; kinds = r.kinds; forest = forest; lenders = r.lenders })
        tables =
            tables_same (with_name spot (tables_of r).names) (map (name_meant after.text.now) (entries names)) (tables_of r).kinds (map (kind_meant after.text.now) (entries r.kinds)) (add class_is.Name (find_name spot.bytes (tables_of r).names) 1024 (nodes_of r.forest)) (nodes_of forest)
            (sym (names_are (text_of r) r.names names (name_entry x) refl i m) ∙ ap (λ t. map (name_meant t) (entries names)) (sym a.text_same))
            (ap (λ t. map (kind_meant t) (entries r.kinds)) (sym a.text_same))
            (ap (λ k. add class_is.Name k 1024 (nodes_of r.forest)) (sym (name_number (text_of r) r.names names (name_entry x) refl i m)) ∙ sym h.nodes)

        pub name_read : (few : length (roots_of r.forest) ≤ length (nodes_of r.forest)) (depth : Depth) → NodeRead depth r (record { words = after; names = names; kinds = r.kinds; forest = forest; lenders = r.lenders }) n
        name_read few depth = record {
          same = same;
          same_roots = h.same_roots;
          own = omega (arith, ap length h.same_roots, ap length h.nodes, length-append (nodes_of r.forest) (record { class = class_is.Name; value = i; first = 1024; next = 1024 } ∷ []), few);
          small = omega (arith, h.number, h.room);
          shorter = omega (arith, ap length a.rest, rest_shorter (tokens_of r) (name spot) name_first);
          goes =
              λ bs deep rule l outer.
              fronted bs rule outer r (name spot) (rest_of (tokens_of r)) l name_first
              ∙ name_on (fixed r).limits (rest_of (tokens_of r)) (fixed r).ending bs (record { tables = tables_of r; rule = rule; level = l; outer = outer }) spot (omega arith) (fits r) few_names h.room
              ∙ moved bs rule outer r q (make_name spot (tables_of r)).tables (rest_of (tokens_of r)) (one_more l (make_name spot (tables_of r)).at) (one_more l n) same tables (sym a.rest) (ap (one_more l) (sym h.number));
        }

      pub name_leaf : (after : Reader) (res : Result Item Refusal) → MatchResult res (LeafRead class_is.Name i (numbered_names names) after) (LeafRefused (numbered_names names) after) → length (roots_of r.forest) ≤ length (nodes_of r.forest) → (depth : Depth) → MatchResult res (ItemTold depth r after) (ItemRefused depth r after)
      name_leaf after (Ok (Node n)) h few depth = subst (λ q. NodeRead depth r q n) (sym h.beside) (name_read after.forest n h.made after.words h.went few depth)
      name_leaf after (Ok (Mark y)) none few depth = absurd none
      name_leaf after (Err e) h few depth = rw (h.beside, h.told) (name_nodes_over after.forest h.full h.none depth)

  module _ (first : TerminalFirst r.words x) where
    pub token_over : (kinds : Filling Spelling 120) (e : Full) → Refused (λ e. e.place) (λ e. e.length) (text_of r) (kind_entry x) r.kinds kinds e
        → (depth : Depth) → ItemRefused depth r (record { words = r.words; names = r.names; kinds = kinds; forest = r.forest; lenders = r.lenders }) (KindsFull x.place)
    token_over kinds e m depth = record {
      same = ap (λ n. fixed (record { words = r.words; names = r.names; kinds = n; forest = r.forest; lenders = r.lenders })) m.same;
      told =
          λ bs deep rule l outer.
          fronted bs rule outer r (terminal first.sort spot) (rest_of (tokens_of r)) l first.first
          ∙ terminal_kinds_full (fixed r).limits (rest_of (tokens_of r)) (fixed r).ending bs (record { tables = tables_of r; rule = rule; level = l; outer = outer }) first.sort spot (omega arith) (fits r) first.spelt (kinds_over (text_of r) r.kinds kinds (kind_entry x) e m);
    }

    module _ (kinds : Filling Spelling 120) (i : ℕ) (m : Numbered (λ e. e.place) (λ e. e.length) (text_of r) (kind_entry x) r.kinds kinds i) (loan : kinds.table.ghost_name ≡ r.kinds.table.ghost_name) where
      few_kinds : length (with_kind (word_spot (text_of r) x) (tables_of r).kinds) ≤ (fixed r).limits.kinds
      few_kinds = kinds_fit (text_of r) r.kinds kinds (kind_entry x) i m

      pub token_nodes_over : (forest : Forest) (e : Full) → MadeNone r.forest forest e
          → (depth : Depth) → ItemRefused depth r (record { words = r.words; names = r.names; kinds = kinds; forest = forest; lenders = r.lenders }) (NodesFull e.limit)
      token_nodes_over forest e h depth = record {
        same = fixed_same r (record { words = r.words; names = r.names; kinds = kinds; forest = forest; lenders = r.lenders }) refl refl refl (kept_place r.kinds kinds m.kept loan) h.place refl;
        told =
            λ bs deep rule l outer.
            fronted bs rule outer r (terminal first.sort spot) (rest_of (tokens_of r)) l first.first
            ∙ terminal_nodes_full (fixed r).limits (rest_of (tokens_of r)) (fixed r).ending bs (record { tables = tables_of r; rule = rule; level = l; outer = outer }) first.sort spot (omega arith) (fits r) first.spelt few_kinds h.full
            ∙ ap (λ n. refused (nodes_full n)) (sym h.told);
      }

      module _ (forest : Forest) (n : ℕ) (h : MadeOne class_is.Token (i + 1) 1024 r.forest forest n) (after : Words) (a : Advanced r.words after) where
        abbrev q_token : Reader
        q_token = record { words = after; names = r.names; kinds = kinds; forest = forest; lenders = r.lenders }

        token_same : fixed (record { words = after; names = r.names; kinds = kinds; forest = forest; lenders = r.lenders }) ≡ fixed r
        token_same = fixed_same r q_token a.text_same a.end_same refl (kept_place r.kinds kinds m.kept loan) h.place refl

        token_tables : (make_token (word_spot (text_of r) x) (tables_of r)).tables ≡ tables_of (record { words = after; names = r.names; kinds = kinds; forest = forest; lenders = r.lenders })
        token_tables =
            tables_same (tables_of r).names (map (name_meant after.text.now) (entries r.names)) (with_kind spot (tables_of r).kinds) (map (kind_meant after.text.now) (entries kinds)) (add class_is.Token (suc (find_kind spot.bytes (tables_of r).kinds)) 1024 (nodes_of r.forest)) (nodes_of forest)
            (ap (λ t. map (name_meant t) (entries r.names)) (sym a.text_same))
            (sym (kinds_are (text_of r) r.kinds kinds (kind_entry x) i m) ∙ ap (λ t. map (kind_meant t) (entries kinds)) (sym a.text_same))
            (ap (λ k. add class_is.Token k 1024 (nodes_of r.forest)) (sym (one_add_right i ∙ ap suc (kind_number (text_of r) r.kinds kinds (kind_entry x) i m))) ∙ sym h.nodes)

        pub token_read : (few : length (roots_of r.forest) ≤ length (nodes_of r.forest)) (depth : Depth) → NodeRead depth r (record { words = after; names = r.names; kinds = kinds; forest = forest; lenders = r.lenders }) n
        token_read few depth = record {
          same = token_same;
          same_roots = h.same_roots;
          own = omega (arith, ap length h.same_roots, ap length h.nodes, length-append (nodes_of r.forest) (record { class = class_is.Token; value = i + 1; first = 1024; next = 1024 } ∷ []), few);
          small = omega (arith, h.number, h.room);
          shorter = omega (arith, ap length a.rest, rest_shorter (tokens_of r) (terminal first.sort spot) first.first);
          goes =
              λ bs deep rule l outer.
              fronted bs rule outer r (terminal first.sort spot) (rest_of (tokens_of r)) l first.first
              ∙ terminal_on (fixed r).limits (rest_of (tokens_of r)) (fixed r).ending bs (record { tables = tables_of r; rule = rule; level = l; outer = outer }) first.sort spot (omega arith) (fits r) first.spelt few_kinds h.room
              ∙ moved bs rule outer r q_token (make_token spot (tables_of r)).tables (rest_of (tokens_of r)) (one_more l (make_token spot (tables_of r)).at) (one_more l n) token_same token_tables (sym a.rest) (ap (one_more l) (sym h.number));
        }

      pub token_leaf : (after : Reader) (res : Result Item Refusal) → MatchResult res (LeafRead class_is.Token (i + 1) (numbered_kinds kinds) after) (LeafRefused (numbered_kinds kinds) after) → length (roots_of r.forest) ≤ length (nodes_of r.forest) → (depth : Depth) → MatchResult res (ItemTold depth r after) (ItemRefused depth r after)
      token_leaf after (Ok (Node n)) h few depth = subst (λ q. NodeRead depth r q n) (sym h.beside) (token_read after.forest n h.made after.words h.went few depth)
      token_leaf after (Ok (Mark y)) none few depth = absurd none
      token_leaf after (Err e) h few depth = rw (h.beside, h.told) (token_nodes_over after.forest h.full h.none depth)

-- a spelling that may be none
module _ (r : Reader) (x : Word) (first : SpellingFirst r.words x) (w : List ℕ) (is : w ≡ cut (text_of r) x.place x.length) where
  spelling_token : tokens_of r ≡ terminal spelling (word_spot (text_of r) x) ∷ rest_of (tokens_of r)
  spelling_token = first.first ∙ ap (λ p. piece_token p (word_spot (text_of r) x) ∷ rest_of (tokens_of r)) first.is

  pub misspelt : is_spelling w ≡ false → (depth : Depth) → ItemRefused depth r r (Misspelt x.place)
  misspelt bad depth = record {
    same = refl;
    told =
        λ bs deep rule l outer.
        fronted bs rule outer r (terminal spelling (word_spot (text_of r) x)) (rest_of (tokens_of r)) l spelling_token
        ∙ terminal_misspelt (fixed r).limits (rest_of (tokens_of r)) (fixed r).ending bs (record { tables = tables_of r; rule = rule; level = l; outer = outer }) spelling (word_spot (text_of r) x) (omega arith) (ap not (ap is_spelling (sym is) ∙ bad));
  }
