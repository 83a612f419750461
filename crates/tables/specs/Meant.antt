-- What the tables of records mean in the notation: names with their roots, kinds and nodes.
use Rattle.std.specs.Prelude.{ℕ, cond, List, map, ◌==◌}
use Rattle.std.proofs.Math.Option.{Option, none, some}
use Rattle.lexer.specs.declared.vocabulary.Spelling.{Spelling}
use Rattle.notation.specs.Tables.{Entry, Tables}
use Rattle.notation.specs.Tokens.{Spot}
use Rattle.tables.specs.Filling.{entries}
use Rattle.tables.specs.Nodes.{Nodes}
use Rattle.tables.specs.Spots.{cut}
use Rattle.tables.specs.declared.name.Name.{Name}
use Rattle.tables.specs.declared.filling.Filling.{Filling}

-- what the text has at a place
abbrev pub spot_at : List ℕ → ℕ → ℕ → Spot
spot_at text p n = record { bytes = cut text p n; place = p }

abbrev pub kind_meant : List ℕ → Spelling → Spot
kind_meant text s = spot_at text s.place s.length

-- 1,024 stands for no rule
abbrev pub root_meant : ℕ → Option ℕ
root_meant r = cond (r == 1024) none (some r)

abbrev pub name_meant : List ℕ → Name → Entry
name_meant text n = record { first = spot_at text n.place n.length; root = root_meant n.root }

abbrev pub tables_meant : List ℕ → Filling Name 64 → Filling Spelling 120 → Nodes → Tables
tables_meant text names kinds nodes = record { names = map (name_meant text) (entries names); kinds = map (kind_meant text) (entries kinds); nodes = entries nodes }
