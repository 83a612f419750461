-- The line of a grammar's text, from what judging it says.
use Rattle.std.proofs.Common.{◌≡◌, ℕ, ◌≤◌, ltb, List, map, length, take, sym, ap, ◌∙◌, subst, length-take-le}
use lib.ListN.{length-map}
use Rattle.std.proofs.lemmas.Bool.{cond-true, cond-false, lt-ltb, le-ltb}
use Rattle.grammar.specs.Judged.{Lent, limits_of, held, AsLong, Accepted, RefusedFor, RefusedRight, Rejected}
use Rattle.grammar.specs.Refusals.{numbered}
use Rattle.grammar.specs.Source.{grammar_tokens, grammar_ending}
use Rattle.grammar.specs.declared.judging.Counts.{Counts}
use Rattle.grammar.specs.declared.refusal.Refusal.{Refusal}
use Rattle.grammar.specs.declared.refusal.Refusal.TheVariants.{TooLong, Fault, Misplaced, TooDeep, Misspelt, NamesFull, KindsFull, NodesFull, SecondRule, NoRule}
use Rattle.lines.specs.GrammarLines.{told_text, sizes_text, outcome_text, standard_limits, grammar_line}
use Rattle.notation.proofs.Judging.{right_is_read, wrong_is_refused}
use Rattle.notation.specs.Judging.{Right, Wrong}
use Rattle.notation.specs.Reading.{Limits, Refusal as ReadingRefusal, faulty, misplaced, too_deep, misspelt, names_full, kinds_full, nodes_full, second_rule, no_rule, numbered as reading_numbered, Outcome, read, refused, reading}
use Rattle.token.specs.Faults.{fault_number}

limits_same : (before after : Lent) → AsLong before after → limits_of after ≡ limits_of before
limits_same before after l = cc

taken : {A B : Type 0} (f : A → B) (n : ℕ) (xs : List A) → n ≤ length xs → length (map f (take n xs)) ≡ n
taken f n xs h = length-map (take n xs) f ∙ length-take-le n xs h

sizes_same : (a b c p q r : ℕ) → a ≡ p → b ≡ q → c ≡ r → sizes_text p q r ≡ sizes_text a b c
sizes_same a b c p q r x y z = cc

module _ (text : List ℕ) where
  -- a text that is not too long has the line of its reading
  short_line : length text ≤ 32768 → (o : Outcome) → reading standard_limits (grammar_tokens text) (grammar_ending text) ≡ o → outcome_text o ≡ grammar_line text
  short_line short o h = ap outcome_text (sym h) ∙ sym (cond-false (ltb 32768 (length text)) _ _ (le-ltb 32768 (length text) short))

  pub accepted_line : (before after : Lent) (c : Counts) → limits_of before ≡ standard_limits → Accepted text before after c → sizes_text c.names c.nodes c.kinds ≡ grammar_line text
  accepted_line before after c most a =
      let T = held text c after in
      let right = subst (λ L. Right L (grammar_tokens text) (grammar_ending text) T) (limits_same before after a.long ∙ most) a.grammar.right in
      let used = a.grammar.used in
      sizes_same _ _ _ _ _ _ (taken _ _ _ used.names.fits) (length-take-le _ _ used.nodes.fits) (taken _ _ _ used.kinds.fits)
      ∙ short_line a.grammar.short (read T) (right_is_read standard_limits (grammar_tokens text) (grammar_ending text) T right)

  module _ (L : Limits) (most : L ≡ standard_limits) where
    because : (x : ReadingRefusal) → RefusedFor text L x → told_text (reading_numbered x) ≡ grammar_line text
    because x h =
        let wrong = subst (λ M. Wrong M (grammar_tokens text) (grammar_ending text) x) most h.wrong in
        short_line h.short (refused x) (wrong_is_refused standard_limits (grammar_tokens text) (grammar_ending text) x wrong)

    refused_line : (e : Refusal) → RefusedRight text L e → told_text (numbered e) ≡ grammar_line text
    refused_line (TooLong x) h = ap told_text h.1 ∙ sym (cond-true (ltb 32768 (length text)) _ _ (lt-ltb 32768 (length text) h.0))
    refused_line (Fault f) h = because (faulty f.place (fault_number f.code)) h
    refused_line (Misplaced p) h = because (misplaced p) h
    refused_line (TooDeep p) h = because (too_deep p) h
    refused_line (Misspelt p) h = because (misspelt p) h
    refused_line (NamesFull p) h = because (names_full p) h
    refused_line (KindsFull p) h = because (kinds_full p) h
    refused_line (NodesFull n) h = because (nodes_full n) h
    refused_line (SecondRule p) h = because (second_rule p) h
    refused_line (NoRule p) h = because (no_rule p) h

  pub rejected_line : (before after : Lent) (e : Refusal) → limits_of before ≡ standard_limits → Rejected text before after e → told_text (numbered e) ≡ grammar_line text
  rejected_line before after e most r = refused_line (limits_of before) most e r.why
