-- What judging a grammar's text promises.
use Rattle.std.specs.Prelude.{◌≡◌, ℕ, ◌-◌, ◌≤◌, min, List, map, length, take, drop, replicate}
use Rattle.grammar.specs.Sound.{zero_name, zero_spelling}
use Rattle.grammar.specs.Source.{grammar_tokens, grammar_ending}
use Rattle.grammar.specs.declared.judging.Counts.{Counts}
use Rattle.grammar.specs.declared.refusal.Refusal.{Refusal}
use Rattle.grammar.specs.declared.refusal.Refusal.TheVariants.{TooLong, Fault, Misplaced, TooDeep, Misspelt, NamesFull, KindsFull, NodesFull, SecondRule, NoRule}
use Rattle.lexer.specs.declared.vocabulary.Spelling.{Spelling}
use Rattle.notation.specs.Judging.{Right, Wrong}
use Rattle.notation.specs.Reading.{Limits, Refusal as ReadingRefusal, faulty, misplaced, too_deep, misspelt, names_full, kinds_full, nodes_full, second_rule, no_rule}
use Rattle.notation.specs.Tables.{Tables}
use Rattle.tables.specs.Meant.{name_meant, kind_meant}
use Rattle.tables.specs.Nodes.{zero_node}
use Rattle.tables.specs.declared.name.Name.{Name}
use Rattle.token.specs.Faults.{fault_number}
use Rattle.token.specs.Refusals.{IsTooLong}
use Rattle.tree.specs.declared.node.Node.{Node}

-- the lent tables
pub record Lent : Type 0 where
  pub names : List Name
  pub kinds : List Spelling
  pub nodes : List Node

abbrev pub lent : List Name → List Spelling → List Node → Lent
lent names kinds nodes = record { names = names; kinds = kinds; nodes = nodes }

-- each limit is the lesser of its stated number and the table's length
abbrev pub limits_of : Lent → Limits
limits_of t = record { names = min 64 (length t.names); kinds = min 120 (length t.kinds); nodes = min 1024 (length t.nodes) }

-- the first places of each table, as tables of the notation
abbrev pub held : List ℕ → Counts → Lent → Tables
held text c t = record { names = map (name_meant text) (take c.names t.names); kinds = map (kind_meant text) (take c.kinds t.kinds); nodes = take c.nodes t.nodes }

-- a table has so many entries, and 0 in every place after them
pub record Used {E : Type 0} (n : ℕ) (zero : E) (table : List E) : Type 0 where
  pub fits : n ≤ length table
  pub rest : drop n table ≡ replicate (length table - n) zero

pub record AllUsed (c : Counts) (t : Lent) : Type 0 where
  pub names : Used c.names zero_name t.names
  pub kinds : Used c.kinds zero_spelling t.kinds
  pub nodes : Used c.nodes zero_node t.nodes

-- no table is longer or shorter than it was
pub record AsLong (before after : Lent) : Type 0 where
  pub names : length after.names ≡ length before.names
  pub kinds : length after.kinds ≡ length before.kinds
  pub nodes : length after.nodes ≡ length before.nodes

-- the tables hold the one grammar that the text is
pub record GrammarHeld (text : List ℕ) (t : Lent) (c : Counts) : Type 0 where
  pub short : length text ≤ 32768
  pub right : Right (limits_of t) (grammar_tokens text) (grammar_ending text) (held text c t)
  pub used : AllUsed c t

pub record Accepted (text : List ℕ) (before after : Lent) (c : Counts) : Type 0 where
  pub grammar : GrammarHeld text after c
  pub long : AsLong before after

-- every place of every table is 0
abbrev pub wiped : Lent → Lent
wiped t = record { names = replicate (length t.names) zero_name; kinds = replicate (length t.kinds) zero_spelling; nodes = replicate (length t.nodes) zero_node }

-- a refusal of a text that is not too long
pub record RefusedFor (text : List ℕ) (L : Limits) (x : ReadingRefusal) : Type 0 where
  pub short : length text ≤ 32768
  pub wrong : Wrong L (grammar_tokens text) (grammar_ending text) x

-- why a text is refused, by number and values
abbrev pub RefusedRight : List ℕ → Limits → Refusal → Type 0
RefusedRight text L (TooLong x) = IsTooLong text x
RefusedRight text L (Fault f) = RefusedFor text L (faulty f.place (fault_number f.code))
RefusedRight text L (Misplaced p) = RefusedFor text L (misplaced p)
RefusedRight text L (TooDeep p) = RefusedFor text L (too_deep p)
RefusedRight text L (Misspelt p) = RefusedFor text L (misspelt p)
RefusedRight text L (NamesFull p) = RefusedFor text L (names_full p)
RefusedRight text L (KindsFull p) = RefusedFor text L (kinds_full p)
RefusedRight text L (NodesFull n) = RefusedFor text L (nodes_full n)
RefusedRight text L (SecondRule p) = RefusedFor text L (second_rule p)
RefusedRight text L (NoRule p) = RefusedFor text L (no_rule p)

pub record Rejected (text : List ℕ) (before after : Lent) (e : Refusal) : Type 0 where
  pub why : RefusedRight text (limits_of before) e
  pub zero : after ≡ wiped before
