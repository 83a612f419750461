-- How rules are read.
use Rattle.std.specs.Prelude.{◌≡◌, ℕ, ◌<◌, ◌⊎◌, List, [], length, Some, None}
use Rattle.grammar.specs.Reader.{tokens_of, tables_of, fixed, standing, standing_ready}
use Rattle.grammar.specs.Refusals.{RefusedAs}
use Rattle.grammar.specs.Parts.{Reader}
use Rattle.grammar.specs.declared.refusal.Refusal.{Refusal}
use Rattle.grammar.specs.declared.refusal.Refusal.TheVariants.{Misplaced, NoRule}
use Rattle.notation.specs.Numbering.{no_level}
use Rattle.notation.specs.Reading.{Outcome, read, run}
use Rattle.notation.specs.Standing.{heading}
use Rattle.tables.specs.Names.{lowest_unruled}
use Rattle.tables.specs.declared.name.Name.{Name}

-- what the automaton makes of the tokens to come where a rule may begin
abbrev pub at_rule : Reader → Outcome
at_rule r = standing_ready r (tables_of r)

-- and after the name of a rule
abbrev pub at_arrow : Reader → ℕ → Outcome
at_arrow r rule = run (fixed r).limits heading (record { tables = tables_of r; rule = rule }) (tokens_of r) (fixed r).ending

pub record HeadRead (before after : Reader) (name : ℕ) : Type 0 where
  pub same : fixed after ≡ fixed before
  pub shorter : length (tokens_of after) < length (tokens_of before)
  pub goes : at_rule before ≡ at_arrow after name

pub record HeadRefused (before after : Reader) (e : Refusal) : Type 0 where
  pub same : fixed after ≡ fixed before
  pub told : RefusedAs e (at_rule before)

pub record ArrowRead (before after : Reader) : Type 0 where
  pub same : fixed after ≡ fixed before
  pub shorter : length (tokens_of after) < length (tokens_of before)
  pub goes : (rule : ℕ) → at_arrow before rule ≡ standing after [] rule no_level tt

pub record ArrowRefused (before after : Reader) (e : Refusal) : Type 0 where
  pub same : fixed after ≡ fixed before
  pub told : (rule : ℕ) → RefusedAs e (at_arrow before rule)

pub record RuleRead (before after : Reader) : Type 0 where
  pub same : fixed after ≡ fixed before
  pub shorter : length (tokens_of after) < length (tokens_of before)
  pub goes : at_rule before ≡ at_rule after

-- at the end of the text there has to be a name, and a rule for each
pub record NamesRuled (ns : List Name) : Type 0 where
  pub some_name : length ns ≡ 0 → ⊥
  pub all_ruled : lowest_unruled ns ≡ None

abbrev pub NamesLack : (place : ℕ) → List Name → Refusal → Type 0
NamesLack place ns e = ((length ns ≡ 0) × (e ≡ Misplaced place)) ⊎ ((first : ℕ) × (lowest_unruled ns ≡ Some first) × (e ≡ NoRule first))

-- all is read, and stands in the tables
pub record AllRead (before after : Reader) : Type 0 where
  pub same : fixed after ≡ fixed before
  pub outcome : at_rule before ≡ read (tables_of after)
