-- From what a reading comes to, to what judging says.
use Rattle.std.proofs.Common.{◌≡◌, ℕ, ◌≤◌, true, false, min, List, length, replicate, Ok, Err, Result, sym, ap, ◌∙◌, subst, ⊎_elim, MatchResult}
use Rattle.std.proofs.lemmas.Bool.{true≢false, false≢true}
use Rattle.std.specs.Result.{is_err}
use Rattle.grammar.specs.Filled.{outcome, Filled, WhyNot, Unfilled}
use Rattle.grammar.specs.Judged.{Lent, lent, limits_of, held, AsLong, Accepted, RefusedFor, RefusedRight, Rejected}
use Rattle.grammar.specs.Sound.{zero_name, zero_spelling}
use Rattle.grammar.specs.Refusals.{RefusedAs}
use Rattle.grammar.specs.Source.{grammar_tokens, grammar_ending}
use Rattle.grammar.specs.declared.judging.Counts.{Counts}
use Rattle.grammar.specs.declared.refusal.Refusal.{Refusal}
use Rattle.grammar.specs.declared.refusal.Refusal.TheVariants.{TooLong, Fault, Misplaced, TooDeep, Misspelt, NamesFull, KindsFull, NodesFull, SecondRule, NoRule}
use Rattle.lexer.specs.declared.vocabulary.Spelling.{Spelling}
use Rattle.notation.proofs.Judging.{read_is_right, refused_is_wrong}
use Rattle.notation.specs.Judging.{Right}
use Rattle.notation.specs.Reading.{Limits, Refusal as ReadingRefusal, faulty, misplaced, too_deep, misspelt, names_full, kinds_full, nodes_full, second_rule, no_rule, refused}
use Rattle.tables.specs.Nodes.{zero_node}
use Rattle.tables.specs.declared.name.Name.{Name}
use Rattle.token.specs.Faults.{fault_number}
use Rattle.tree.specs.declared.node.Node.{Node}

-- tables of the same lengths have the same limits
limits_same : (before after : Lent) → AsLong before after → limits_of after ≡ limits_of before
limits_same before after l =
    ap (λ n. record { names = min 64 n; kinds = min 120 (length after.kinds); nodes = min 1024 (length after.nodes) }) l.names
    ∙ ap (λ n. record { names = min 64 (length before.names); kinds = min 120 n; nodes = min 1024 (length after.nodes) }) l.kinds
    ∙ ap (λ n. record { names = min 64 (length before.names); kinds = min 120 (length before.kinds); nodes = min 1024 n }) l.nodes

accepted : (text : List ℕ) (before after : Lent) (c : Counts) → Filled text before after c → Accepted text before after c
accepted text before after c f = record {
  grammar = record {
    short = f.short;
    right = subst (λ L. Right L (grammar_tokens text) (grammar_ending text) (held text c after)) (sym (limits_same before after f.long)) (read_is_right (limits_of before) (grammar_tokens text) (grammar_ending text) (held text c after) f.all_read);
    used = f.used;
  };
  long = f.long;
}

module _ (text : List ℕ) (L : Limits) (short : length text ≤ 32768) where
  because : (x : ReadingRefusal) → outcome text L ≡ refused x → RefusedFor text L x
  because x h = record { short = short; wrong = refused_is_wrong L (grammar_tokens text) (grammar_ending text) x h }

  why : (e : Refusal) → RefusedAs e (outcome text L) → RefusedRight text L e
  why (TooLong x) h = absurd h
  why (Fault f) h = because (faulty f.place (fault_number f.code)) h
  why (Misplaced p) h = because (misplaced p) h
  why (TooDeep p) h = because (too_deep p) h
  why (Misspelt p) h = because (misspelt p) h
  why (NamesFull p) h = because (names_full p) h
  why (KindsFull p) h = because (kinds_full p) h
  why (NodesFull n) h = because (nodes_full n) h
  why (SecondRule p) h = because (second_rule p) h
  why (NoRule p) h = because (no_rule p) h

why_right : (text : List ℕ) (L : Limits) (e : Refusal) → WhyNot text L e → RefusedRight text L e
why_right text L e h = ⊎_elim (λ m. subst (RefusedRight text L) (sym m.1) m.2) (λ m. why text L m.0 e m.1) h

lent_same : (A a : List Name) (B b : List Spelling) (C c : List Node) → A ≡ a → B ≡ b → C ≡ c → lent A B C ≡ lent a b c
lent_same A a B b C c p q r = ap (λ x. lent x B C) p ∙ ap (λ x. lent a x C) q ∙ ap (lent a b) r

-- what was filled is accepted
pub kept_filled : (text : List ℕ) (before after : Lent) (r : Result Counts Refusal) → is_err r ≡ false → MatchResult r (Filled text before after) (Unfilled text before after) → MatchResult r (Accepted text before after) (Rejected text before after)
kept_filled text before after (Ok c) is f = accepted text before after c f
kept_filled text before after (Err e) is u = absurd (true≢false is)

-- and tables are wiped after a refusal
rejected : (text : List ℕ) (before after : Lent) (e : Refusal) (names : List Name) (kinds : List Spelling) (nodes : List Node)
    → names ≡ replicate (length after.names) zero_name → kinds ≡ replicate (length after.kinds) zero_spelling → nodes ≡ replicate (length after.nodes) zero_node
    → Unfilled text before after e → Rejected text before (lent names kinds nodes) e
rejected text before after e names kinds nodes n k d u = record {
  why = why_right text (limits_of before) e u.why;
  zero =
      lent_same names (replicate (length before.names) zero_name) kinds (replicate (length before.kinds) zero_spelling) nodes (replicate (length before.nodes) zero_node)
      (n ∙ ap (λ m. replicate m zero_name) u.long.names) (k ∙ ap (λ m. replicate m zero_spelling) u.long.kinds) (d ∙ ap (λ m. replicate m zero_node) u.long.nodes);
}

pub wiped_unfilled : (text : List ℕ) (before after : Lent) (r : Result Counts Refusal) (names : List Name) (kinds : List Spelling) (nodes : List Node) → is_err r ≡ true
    → names ≡ replicate (length after.names) zero_name → kinds ≡ replicate (length after.kinds) zero_spelling → nodes ≡ replicate (length after.nodes) zero_node
    → MatchResult r (Filled text before after) (Unfilled text before after) → MatchResult r (Accepted text before (lent names kinds nodes)) (Rejected text before (lent names kinds nodes))
wiped_unfilled text before after (Ok c) names kinds nodes is n k d f = absurd (false≢true is)
wiped_unfilled text before after (Err e) names kinds nodes is n k d u = rejected text before after e names kinds nodes n k d u
