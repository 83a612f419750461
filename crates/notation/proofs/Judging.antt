-- A judging says all: what is read is right, what is refused is wrong, for the reason told.
use Rattle.std.proofs.Common.{◌≡◌, ℕ, List, sym, ap, ◌∙◌, ⊎_elim, arith}
use Rattle.notation.specs.Judging.{Says, GrammarOf, Right, Wrong, ReadIsRight, RefusedIsWrong}
use Rattle.notation.specs.Numbering.{numbering}
use Rattle.notation.specs.Reading.{Limits, Refusal, faulty, misplaced, too_deep, misspelt, names_full, kinds_full, nodes_full, second_rule, no_rule, read, refused, reading}
use Rattle.notation.specs.Syntax.{Rule}
use Rattle.notation.specs.Tables.{Tables}
use Rattle.notation.specs.Tokens.{SourceToken, Ending}
use Rattle.notation.proofs.Proved.{reading_sound, reading_complete, reading_in_order, tables_mean, numbering_listed, fault_right, misplaced_right, depth_right, spelling_right, names_right, kinds_right, nodes_right, nodes_passed, second_right, unruled_right, refusals_told}

not_both : (T : Tables) (x : Refusal) → read T ≡ refused x → ⊥
not_both T x e = let z : ◌≡◌ {A = ℕ} 0 1 = cc in absurd (omega arith)

same_refusal : (x y : Refusal) → refused x ≡ refused y → x ≡ y
same_refusal x y e = cc

module _ (L : Limits) (ts : List SourceToken) (e : Ending) where
  -- a refusal is told wherever its words are true
  says_told : (x : Refusal) → Says L ts e x → reading L ts e ≡ refused x
  says_told (faulty p c) (is, fine, begun) = ap (reading L ts) is ∙ refusals_told.fault_told L ts p c fine begun
  says_told (misplaced p) h = ⊎_elim (λ m. refusals_told.misplaced_told L ts e p m) (λ m. refusals_told.early_told L ts e p m) h
  says_told (too_deep p) h = refusals_told.depth_told L ts e p h
  says_told (misspelt p) h = refusals_told.spelling_told L ts e p h
  says_told (names_full p) h = refusals_told.names_told L ts e p h
  says_told (kinds_full p) h = refusals_told.kinds_told L ts e p h
  says_told (nodes_full n) h = refusals_told.nodes_told L ts e n h.0
  says_told (second_rule p) h = refusals_told.second_told L ts e p h
  says_told (no_rule p) h = refusals_told.unruled_told L ts e p h

  -- and its words are true wherever it is told
  told_says : (x : Refusal) → reading L ts e ≡ refused x → Says L ts e x
  told_says (faulty p c) h = fault_right L ts e p c h
  told_says (misplaced p) h = misplaced_right L ts e p h
  told_says (too_deep p) h = depth_right L ts e p h
  told_says (misspelt p) h = spelling_right L ts e p h
  told_says (names_full p) h = names_right L ts e p h
  told_says (kinds_full p) h = kinds_right L ts e p h
  told_says (nodes_full n) h = (nodes_right L ts e n h, nodes_passed L ts e n h)
  told_says (second_rule p) h = second_right L ts e p h
  told_says (no_rule p) h = unruled_right L ts e p h

  grammar_read : (rules : List Rule) → GrammarOf L ts e rules → reading L ts e ≡ read (numbering rules)
  grammar_read rules g = ap (reading L ts) g.ended.1 ∙ reading_complete L ts rules g.ended.0 g.text g.in_order

  pub read_is_right : ReadIsRight L ts e
  read_is_right T h =
      let s = reading_sound L ts e T h in
      record {
        rules = s.rules;
        grammar = record { text = s.text; in_order = reading_in_order L ts e T s.rules h s.text; ended = s.ended };
        only = s.only;
        listed = sym s.tables ∙ numbering_listed s.rules;
        mean = tables_mean L ts e T s.rules h s.text;
        no_refusal = λ x says. not_both T x (sym h ∙ says_told x says);
      }

  pub refused_is_wrong : RefusedIsWrong L ts e
  refused_is_wrong x h = record {
    says = told_says x h;
    only = λ y says. same_refusal y x (sym (says_told y says) ∙ h);
    no_grammar = λ rules g. not_both (numbering rules) x (sym (grammar_read rules g) ∙ h);
  }

  -- what is right is read so
  pub right_is_read : (T : Tables) → Right L ts e T → reading L ts e ≡ read T
  right_is_read T r = grammar_read r.rules r.grammar ∙ ap read (numbering_listed r.rules ∙ sym r.listed)

  -- and what is wrong is refused so
  pub wrong_is_refused : (x : Refusal) → Wrong L ts e x → reading L ts e ≡ refused x
  wrong_is_refused x w = says_told x w.says
