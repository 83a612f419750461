-- A reading from its first token on, and what it leaves in the tables.
use Rattle.std.proofs.Common.{◌≡◌, ℕ, ◌-◌, List, [], ◌∷◌, map, length, take, drop, replicate, Some, filter, sym, refl, ap, ◌∙◌, inr, arith, length-take}
use Rattle.std.proofs.lemmas.List.{length-replicate}
use Rattle.grammar.proofs.Soundness.{Sound}
use Rattle.grammar.proofs.Cycle.{refused_so}
use Rattle.grammar.proofs.Moves.{tables_same}
use Rattle.grammar.specs.Filled.{behind, Fresh, outcome, Filled, Unfilled}
use Rattle.grammar.specs.Forest.{nodes_of, Clean}
use Rattle.grammar.specs.Judged.{Lent, limits_of, held, Used, AsLong}
use Rattle.grammar.specs.Notation.{notation_kinds}
use Rattle.grammar.specs.Parts.{Reader}
use Rattle.grammar.specs.Reader.{text_of, tokens_of, tables_of, fixed}
use Rattle.grammar.specs.Sound.{zero_name, zero_spelling}
use Rattle.grammar.specs.Rules.{at_rule, HeadRefused, AllRead}
use Rattle.grammar.specs.Source.{source_token, sorted, ending_meant, scanned, grammar_tokens, grammar_ending}
use Rattle.grammar.specs.declared.refusal.Refusal.{Refusal}
use Rattle.notation.specs.Reading.{read, run}
use Rattle.notation.specs.Standing.{ready}
use Rattle.notation.specs.Tables.{no_tables}
use Rattle.notation.specs.Tokens.{sort}
use Rattle.tables.specs.Meant.{name_meant, kind_meant}
use Rattle.tables.specs.Nodes.{zero_node}
use Rattle.tables.specs.Filling.{entries, IsNew}
use Rattle.tables.specs.declared.filling.Filling.{Filling}
use Rattle.token.specs.declared.token.Token.{Token as TextToken}
use Rattle.tokens.specs.Layered.{seen, Layered}

map_sorted : (text : List ℕ) (ts : List TextToken) → map (sorted text) ts ≡ map sort (map (source_token text) ts)
map_sorted text [] = refl
map_sorted text (t ∷ ts) = ap (λ l. sorted text t ∷ l) (map_sorted text ts)

module _ {E : Type 0} {L : ℕ} (t : Filling E L) (n : ℕ) where
  counted : n ≡ length (entries t) → n ≡ t.count
  counted is = omega (arith, is, t.within, length-take t.count t.table.now)

  part : n ≡ length (entries t) → entries t ≡ take n t.table.now
  part is = ap (λ k. take k t.table.now) (sym (counted is))

  used : (zero : E) → n ≡ length (entries t) → Clean t zero → Used n zero t.table.now
  used zero is clean =
      let e = counted is in
      record { fits = omega (arith, e, t.within); rest = ap (λ k. drop k t.table.now) e ∙ clean ∙ ap (λ k. replicate (length t.table.now - k) zero) (sym e) }

-- a table that was just wiped
pub new_clean : {E : Type 0} {L : ℕ} (table : List E) (blank value : E) (t : Filling E L) → IsNew table value t → value ≡ blank → Clean t blank
new_clean table blank value t new e =
    let none : t.count ≡ 0 = omega (arith, ap length new.none, length-take t.count t.table.now, t.within) in
    let long = ap length new.wiped ∙ length-replicate (length table) value in
    let left : length table ≡ length t.table.now - t.count = omega arith in
    ap (λ k. drop k t.table.now) none ∙ new.wiped ∙ ap (replicate (length table)) e ∙ ap (λ k. replicate k blank) left

-- before the first token
module _ (r : Reader) (s : Layered (map Some notation_kinds) r.words.text.now r.words.source) (fresh : Fresh r.names r.kinds r.forest.nodes) where
  abbrev text : List ℕ
  text = r.words.text.now

  abbrev before : Lent
  before = behind r.names r.kinds r.forest.nodes

  tokens_are : tokens_of r ≡ map sort (grammar_tokens r.words.text.now)
  tokens_are = ap (map (sorted text)) s.tokens ∙ map_sorted text (filter seen (scanned text).tokens)

  ending_is : (fixed r).ending ≡ grammar_ending r.words.text.now
  ending_is = ap ending_meant s.ending

  tables_none : tables_of r ≡ no_tables
  tables_none =
      tables_same (map (name_meant text) (entries r.names)) [] (map (kind_meant text) (entries r.kinds)) [] (nodes_of r.forest) []
      (ap (map (name_meant text)) fresh.no_name) (ap (map (kind_meant text)) fresh.no_kind) fresh.no_node

  start : at_rule r ≡ outcome r.words.text.now (limits_of (behind r.names r.kinds r.forest.nodes))
  start =
      ap (λ T. run (limits_of before) ready T (tokens_of r) (fixed r).ending) tables_none
      ∙ ap (λ ts. run (limits_of before) ready no_tables ts (fixed r).ending) tokens_are
      ∙ ap (λ e. run (limits_of before) ready no_tables (map sort (grammar_tokens text)) e) ending_is

  module _ (q : Reader) where
    long : fixed q ≡ fixed r → AsLong (behind r.names r.kinds r.forest.nodes) (behind q.names q.kinds q.forest.nodes)
    long same = record { names = ap (λ x. x.name_place.long) same; kinds = ap (λ x. x.kind_place.long) same; nodes = ap (λ x. x.node_place.long) same }

    pub unfilled : (e : Refusal) → HeadRefused r q e → Unfilled r.words.text.now (behind r.names r.kinds r.forest.nodes) (behind q.names q.kinds q.forest.nodes) e
    unfilled e h = record { why = inr (s.short, refused_so e (outcome text (limits_of before)) (at_rule r) (sym start) h.told); long = long h.same }

    -- the counts as they are told
    module _ (names kinds nodes : ℕ) (kn : names ≡ length (entries q.names)) (kk : kinds ≡ length (entries q.kinds)) (kd : nodes ≡ length (entries q.forest.nodes)) where
      tables_held : fixed q ≡ fixed r → tables_of q ≡ held r.words.text.now (record { names = names; kinds = kinds; nodes = nodes }) (behind q.names q.kinds q.forest.nodes)
      tables_held same =
          let same_text : text_of q ≡ text = ap (λ x. x.text) same in
          tables_same (map (name_meant (text_of q)) (entries q.names)) (map (name_meant text) (take names q.names.table.now)) (map (kind_meant (text_of q)) (entries q.kinds)) (map (kind_meant text) (take kinds q.kinds.table.now)) (nodes_of q.forest) (take nodes q.forest.nodes.table.now)
          (ap (λ t. map (name_meant t) (entries q.names)) same_text ∙ ap (map (name_meant text)) (part q.names names kn))
          (ap (λ t. map (kind_meant t) (entries q.kinds)) same_text ∙ ap (map (kind_meant text)) (part q.kinds kinds kk))
          (part q.forest.nodes nodes kd)

      pub filled : Sound q.names q.kinds q.forest.nodes q.forest.roots → AllRead r q → Filled r.words.text.now (behind r.names r.kinds r.forest.nodes) (behind q.names q.kinds q.forest.nodes) (record { names = names; kinds = kinds; nodes = nodes })
      filled holds h = record {
        short = s.short;
        all_read = sym start ∙ h.outcome ∙ ap read (tables_held h.same);
        used = record {
          names = used q.names names zero_name kn holds.names_clean;
          kinds = used q.kinds kinds zero_spelling kk holds.kinds_clean;
          nodes = used q.forest.nodes nodes zero_node kd holds.healthy.clean;
        };
        long = long h.same;
      }
