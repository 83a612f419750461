-- Rules, one after another.
use Rattle.std.proofs.Common.{◌≡◌, ℕ, zero, suc, ◌<◌, ◌≤◌, true, false, List, [], ◌∷◌, map, length, None, sym, refl, ap, ◌∙◌, subst, ⊎_elim, arith, Ok, Err, Result, MatchResult}
use lib.ListN.{length-map}
use Rattle.grammar.proofs.Closing.{grown_same, grown_tables}
use Rattle.grammar.proofs.Counted.{name_number, names_are, names_fit, names_over}
use Rattle.grammar.proofs.Cycle.{refused_so}
use Rattle.grammar.proofs.Leaves.{rest_shorter}
use Rattle.grammar.proofs.Moves.{fixed_same, fits, tables_same}
use Rattle.grammar.proofs.Rooting.{kept_place}
use Rattle.grammar.specs.declared.depth.Depth.{Depth}
use Rattle.grammar.specs.Bodies.{Closed}
use Rattle.grammar.specs.Forest.{nodes_of, roots_of}
use Rattle.grammar.specs.Reader.{text_of, tokens_of, tables_of, fixed}
use Rattle.grammar.specs.Refusals.{RefusedAs}
use Rattle.grammar.specs.Rules.{at_rule, at_arrow, HeadRead, HeadRefused, ArrowRead, ArrowRefused, RuleRead, NamesRuled, NamesLack, AllRead}
use Rattle.grammar.specs.Words.{name_entry, piece_token, word_spot, rest_of, WordTold, Advanced}
use Rattle.grammar.specs.Words as words
use Rattle.grammar.specs.declared.piece.Piece.{Piece}
use Rattle.grammar.specs.declared.piece.Piece.TheVariants as piece_is
use Rattle.grammar.specs.Parts.{Reader}
use Rattle.grammar.specs.declared.refusal.Refusal.{Refusal}
use Rattle.grammar.specs.declared.refusal.Refusal.TheVariants as refusal_is
use Rattle.grammar.specs.declared.words.Word.{Word}
use Rattle.grammar.specs.declared.words.Words.{Words}
use Rattle.notation.specs.Numbering.{name_known, no_level, rule_ended}
use Rattle.notation.specs.Reading.{Limits, Headed, misplaced, read, refused, has_rule, run}
use Rattle.notation.specs.Standing.{ready, heading, inside}
use Rattle.notation.specs.Tables.{Tables, with_name, find_name}
use Rattle.notation.specs.Tokens.{Spot, Token, name, arrow, Ending, end}
use Rattle.notation.proofs.Steps.{head_on, head_names_full, head_second_rule, arrow_on, end_empty, end_no_rule, end_read}
use Rattle.tables.proofs.Meant.{name_ruled, name_rooted, unruled_meant, none_unruled}
use Rattle.tables.specs.Meant.{name_meant, kind_meant}
use Rattle.tables.specs.Names.{ruled, rooted}
use Rattle.tables.specs.Filling.{entries, RestKept}
use Rattle.tables.specs.Numbering.{with_new, Numbered, Refused}
use Rattle.tables.specs.declared.name.Name.{Name}
use Rattle.tables.specs.declared.filling.Filling.{Filling}
use Rattle.tables.specs.declared.full.Full.{Full}

module _ (L : Limits) (ts : List Token) (e : Ending) (s : Spot) where
  ready_told : (T : Tables) (k : Piece) → (k ≡ piece_is.Name → ⊥) → run L ready T (piece_token k s ∷ ts) e ≡ refused (misplaced s.place)
  ready_told T piece_is.Name ne = absurd (ne refl)
  ready_told T piece_is.ClassWord ne = refl
  ready_told T piece_is.Spelling ne = refl
  ready_told T piece_is.Arrow ne = refl
  ready_told T piece_is.Bar ne = refl
  ready_told T piece_is.Semicolon ne = refl
  ready_told T (piece_is.Opening b) ne = refl
  ready_told T (piece_is.Closing b) ne = refl

  heading_told : (H : Headed) (k : Piece) → (k ≡ piece_is.Arrow → ⊥) → run L heading H (piece_token k s ∷ ts) e ≡ refused (misplaced s.place)
  heading_told H piece_is.Name ne = refl
  heading_told H piece_is.ClassWord ne = refl
  heading_told H piece_is.Spelling ne = refl
  heading_told H piece_is.Arrow ne = absurd (ne refl)
  heading_told H piece_is.Bar ne = refl
  heading_told H piece_is.Semicolon ne = refl
  heading_told H (piece_is.Opening b) ne = refl
  heading_told H (piece_is.Closing b) ne = refl

-- the first token, where a rule may begin and after its name
ready_front : (r : Reader) (t : Token) (ts : List Token) → tokens_of r ≡ t ∷ ts → at_rule r ≡ run (fixed r).limits ready (tables_of r) (t ∷ ts) (fixed r).ending
ready_front r t ts e = ap (λ x. run (fixed r).limits ready (tables_of r) x (fixed r).ending) e

arrow_front : (r : Reader) (rule : ℕ) (t : Token) (ts : List Token) → tokens_of r ≡ t ∷ ts → at_arrow r rule ≡ run (fixed r).limits heading (record { tables = tables_of r; rule = rule }) (t ∷ ts) (fixed r).ending
arrow_front r rule t ts e = ap (λ x. run (fixed r).limits heading (record { tables = tables_of r; rule = rule }) x (fixed r).ending) e

module _ (r : Reader) (x : Word) (first : WordTold r.words x) where
  abbrev spot : Spot
  spot = word_spot (text_of r) x

  abbrev rest : List Token
  rest = rest_of (tokens_of r)

  pub head_misplaced : (x.piece ≡ piece_is.Name → ⊥) → HeadRefused r r (refusal_is.Misplaced x.place)
  head_misplaced ne = record { same = refl; told = ready_front r (piece_token x.piece spot) rest first ∙ ready_told (fixed r).limits rest (fixed r).ending spot (tables_of r) x.piece ne }

  pub arrow_misplaced : (x.piece ≡ piece_is.Arrow → ⊥) → ArrowRefused r r (refusal_is.Misplaced x.place)
  arrow_misplaced ne = record { same = refl; told = λ rule. arrow_front r rule (piece_token x.piece spot) rest first ∙ heading_told (fixed r).limits rest (fixed r).ending spot (record { tables = tables_of r; rule = rule }) x.piece ne }

  -- an arrow
  pub arrow_read : x.piece ≡ piece_is.Arrow → (after : Words) (a : Advanced r.words after) → ArrowRead r (record { words = after; names = r.names; kinds = r.kinds; forest = r.forest; lenders = r.lenders })
  arrow_read e after a =
      let q : Reader = record { words = after; names = r.names; kinds = r.kinds; forest = r.forest; lenders = r.lenders } in
      let front : tokens_of r ≡ arrow spot ∷ rest = first ∙ ap (λ k. piece_token k spot ∷ rest) e in
      let same : fixed q ≡ fixed r = grown_same r r.forest refl after a in
      let tables : tables_of r ≡ tables_of q = grown_tables r r.forest refl after a (nodes_of r.forest) refl in
      record {
        same = same;
        shorter = omega (arith, ap length a.rest, rest_shorter (tokens_of r) (arrow spot) front);
        goes =
            λ rule.
            arrow_front r rule (arrow spot) rest front
            ∙ arrow_on (fixed r).limits rest (fixed r).ending (record { tables = tables_of r; rule = rule }) spot (fits r)
            ∙ ap (λ f. run f.limits (inside []) (record { tables = tables_of r; rule = rule; level = no_level; outer = tt }) rest f.ending) (sym same)
            ∙ ap (λ T. run (fixed q).limits (inside []) (record { tables = T; rule = rule; level = no_level; outer = tt }) rest (fixed q).ending) tables
            ∙ ap (λ ts. run (fixed q).limits (inside []) (record { tables = tables_of q; rule = rule; level = no_level; outer = tt }) ts (fixed q).ending) (sym a.rest);
      }

  -- the name of a rule
  module _ (e : x.piece ≡ piece_is.Name) where
    abbrev entry : Name
    entry = name_entry x

    name_front : tokens_of r ≡ name (word_spot (text_of r) x) ∷ rest_of (tokens_of r)
    name_front = first ∙ ap (λ k. piece_token k spot ∷ rest) e

    pub head_over : (names : Filling Name 64) (e : Full) → Refused (λ e. e.place) (λ e. e.length) (text_of r) (name_entry x) r.names names e
        → HeadRefused r (record { words = r.words; names = names; kinds = r.kinds; forest = r.forest; lenders = r.lenders }) (refusal_is.NamesFull x.place)
    head_over names e m = record {
      same = ap (λ n. fixed (record { words = r.words; names = n; kinds = r.kinds; forest = r.forest; lenders = r.lenders })) m.same;
      told = ready_front r (name spot) rest name_front ∙ head_names_full (fixed r).limits rest (fixed r).ending (tables_of r) spot (names_over (text_of r) r.names names entry refl e m);
    }

    module _ (names : Filling Name 64) (i : ℕ) (m : Numbered (λ e. e.place) (λ e. e.length) (text_of r) (name_entry x) r.names names i) (loan : names.table.ghost_name ≡ r.names.table.ghost_name) where
      few : length (with_name (word_spot (text_of r) x) (tables_of r).names) ≤ (fixed r).limits.names
      few = names_fit (text_of r) r.names names entry refl i m

      has_it : ruled i (entries names) ≡ has_rule (word_spot (text_of r) x).bytes (tables_of r).names
      has_it =
          ap (ruled i) m.list ∙ ap (λ j. ruled j (with_new j entry (entries r.names))) m.is ∙ name_ruled (text_of r) entry (entries r.names) refl

      pub head_again : ruled i (entries names) ≡ true → HeadRefused r (record { words = r.words; names = names; kinds = r.kinds; forest = r.forest; lenders = r.lenders }) (refusal_is.SecondRule x.place)
      head_again h = record {
        same = fixed_same r (record { words = r.words; names = names; kinds = r.kinds; forest = r.forest; lenders = r.lenders }) refl refl (kept_place r.names names m.kept loan) refl refl refl;
        told = ready_front r (name spot) rest name_front ∙ head_second_rule (fixed r).limits rest (fixed r).ending (tables_of r) spot (fits r) few (sym has_it ∙ h);
      }

      pub head_read : ruled i (entries names) ≡ false → (after : Words) (a : Advanced r.words after) → HeadRead r (record { words = after; names = names; kinds = r.kinds; forest = r.forest; lenders = r.lenders }) i
      head_read h after a =
          let q : Reader = record { words = after; names = names; kinds = r.kinds; forest = r.forest; lenders = r.lenders } in
          let same : fixed q ≡ fixed r = fixed_same r q a.text_same a.end_same (kept_place r.names names m.kept loan) refl refl refl in
          let tables : name_known spot (tables_of r) ≡ tables_of q =
          tables_same (with_name spot (tables_of r).names) (map (name_meant after.text.now) (entries names)) (tables_of r).kinds (map (kind_meant after.text.now) (entries r.kinds)) (nodes_of r.forest) (nodes_of r.forest)
          (sym (names_are (text_of r) r.names names entry refl i m) ∙ ap (λ t. map (name_meant t) (entries names)) (sym a.text_same))
          (ap (λ t. map (kind_meant t) (entries r.kinds)) (sym a.text_same)) refl in
          record {
            same = same;
            shorter = omega (arith, ap length a.rest, rest_shorter (tokens_of r) (name spot) name_front);
            goes =
                ready_front r (name spot) rest name_front
                ∙ head_on (fixed r).limits rest (fixed r).ending (tables_of r) spot (fits r) few (sym has_it ∙ h)
                ∙ ap (λ f. run f.limits heading (record { tables = name_known spot (tables_of r); rule = find_name spot.bytes (tables_of r).names }) rest f.ending) (sym same)
                ∙ ap (λ T. run (fixed q).limits heading (record { tables = T; rule = find_name spot.bytes (tables_of r).names }) rest (fixed q).ending) tables
                ∙ ap (λ k. run (fixed q).limits heading (record { tables = tables_of q; rule = k }) rest (fixed q).ending) (sym (name_number (text_of r) r.names names entry refl i m))
                ∙ ap (λ ts. run (fixed q).limits heading (record { tables = tables_of q; rule = i }) ts (fixed q).ending) (sym a.rest);
          }

-- a rule with its root
module _ (m : Reader) (i n : ℕ) (small : n < 1024) (names : Filling Name 64) (list : entries names ≡ rooted i n (entries m.names)) (kept : RestKept m.names names) (loan : names.table.ghost_name ≡ m.names.table.ghost_name) where
  abbrev rooted_reader : Reader
  rooted_reader = record { words = m.words; names = names; kinds = m.kinds; forest = m.forest; lenders = m.lenders }

  rooted_tables : rule_ended i (record { tables = tables_of m; at = n }) ≡ tables_of (record { words = m.words; names = names; kinds = m.kinds; forest = m.forest; lenders = m.lenders })
  rooted_tables =
      ap (λ ns. record { names = ns; kinds = (tables_of m).kinds; nodes = (tables_of m).nodes })
      (sym (name_rooted (text_of m) (entries m.names) i n (λ e. omega arith)) ∙ ap (map (name_meant (text_of m))) (sym list))

  rooted_same : fixed (record { words = m.words; names = names; kinds = m.kinds; forest = m.forest; lenders = m.lenders }) ≡ fixed m
  rooted_same = fixed_same m rooted_reader refl refl (kept_place m.names names kept loan) refl refl refl

  pub rule_rooted : (r a b : Reader) (depth : Depth) → HeadRead r a i → ArrowRead a b → Closed None depth (roots_of b.forest) no_level b m n → RuleRead r (record { words = m.words; names = names; kinds = m.kinds; forest = m.forest; lenders = m.lenders })
  rule_rooted r a b depth head mid closed =
      let same = rooted_same in
      record {
        same = same ∙ closed.same ∙ mid.same ∙ head.same;
        shorter = omega (arith, head.shorter, mid.shorter, closed.shorter);
        goes =
            head.goes ∙ mid.goes i ∙ closed.goes i
            ∙ ap (λ f. run f.limits ready (rule_ended i (record { tables = tables_of m; at = n })) (tokens_of m) f.ending) (sym same)
            ∙ ap (λ T. run (fixed rooted_reader).limits ready T (tokens_of m) (fixed rooted_reader).ending) rooted_tables;
      }

-- the end of the text
module _ (r : Reader) (p : ℕ) (none : tokens_of r ≡ []) (ended : words.ending r.words ≡ end p) where
  at_end_is : at_rule r ≡ run (fixed r).limits ready (tables_of r) [] (end p)
  at_end_is = ap (λ ts. run (fixed r).limits ready (tables_of r) ts (fixed r).ending) none ∙ ap (λ e. run (fixed r).limits ready (tables_of r) [] e) ended

  empty_map : (ns : List Name) → length ns ≡ 0 → map (name_meant (text_of r)) ns ≡ []
  empty_map [] e = refl
  empty_map (n ∷ ns) e = absurd (omega arith)

  some_name : (n : ℕ) → (n ≡ 0 → ⊥) → 0 < n
  some_name zero h = absurd (h refl)
  some_name (suc n) h = omega arith

  pub ended_well : NamesRuled (entries r.names) → at_rule r ≡ read (tables_of r)
  ended_well h =
      at_end_is
      ∙ end_read (fixed r).limits (tables_of r) p (omega (arith, some_name (length (entries r.names)) h.some_name, length-map (entries r.names) (name_meant (text_of r)))) (none_unruled (text_of r) (entries r.names) h.all_ruled)

  lacking : (e : Refusal) → NamesLack p (entries r.names) e → RefusedAs e (at_rule r)
  lacking e h =
      ⊎_elim
      (λ m. subst (λ x. RefusedAs x (at_rule r)) (sym m.1) (at_end_is ∙ end_empty (fixed r).limits (tables_of r) p (empty_map (entries r.names) m.0)))
      (λ m. subst (λ x. RefusedAs x (at_rule r)) (sym m.2) (at_end_is ∙ end_no_rule (fixed r).limits (tables_of r) p m.0 (unruled_meant (text_of r) (entries r.names) m.0 m.1)))
      h

  pub ended_ill : (e : Refusal) → NamesLack p (entries r.names) e → HeadRefused r r e
  ended_ill e h = record { same = refl; told = lacking e h }

-- some rules are read
pub record RulesOn (before after : Reader) : Type 0 where
  pub same : fixed after ≡ fixed before
  pub goes : at_rule before ≡ at_rule after

all_read : (r m : Reader) → RulesOn r m → at_rule m ≡ read (tables_of m) → AllRead r m
all_read r m on h = record { same = on.same; outcome = on.goes ∙ h }

rules_refused : (r m n : Reader) (e : Refusal) → RulesOn r m → HeadRefused m n e → HeadRefused r n e
rules_refused r m n e on h = record { same = h.same ∙ on.same; told = refused_so e (at_rule r) (at_rule m) on.goes h.told }

-- the end of the text as it is told
pub end_told : (r m : Reader) (p : ℕ) → RulesOn r m → tokens_of m ≡ [] → words.ending m.words ≡ end p → (x : Result Unit Refusal) → MatchResult x (λ _. NamesRuled (entries m.names)) (NamesLack p (entries m.names)) → MatchResult x (λ _. AllRead r m) (HeadRefused r m)
end_told r m p on none ended (Ok u) h = all_read r m on (ended_well m p none ended h)
end_told r m p on none ended (Err e) h = rules_refused r m m e on (ended_ill m p none ended e h)
