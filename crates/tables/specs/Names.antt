-- Names and the roots of their rules.
use Rattle.std.specs.Prelude.{ℕ, zero, suc, Bool, false, cond, not, List, [], ◌∷◌, Some, None, Option, ◌==◌, slice_index_or, slice_set}
use Rattle.tables.specs.declared.name.Name.{Name}

abbrev pub with_root_of : Name → ℕ → Name
with_root_of x r = record { place = x.place; length = x.length; root = r }

-- the root of name i is r
abbrev pub rooted : ℕ → ℕ → List Name → List Name
rooted i r ns = slice_set ns i (with_root_of (slice_index_or ns i (record { place = 0; length = 0; root = 0 })) r)

-- name i is known and has a rule
abbrev pub ruled : ℕ → List Name → Bool
ruled i [] = false
ruled zero (n ∷ ns) = not (n.root == 1024)
ruled (suc i) (n ∷ ns) = ruled i ns

-- the first place of the lowest name without a rule
abbrev pub lowest_unruled : List Name → Option ℕ
lowest_unruled [] = None
lowest_unruled (n ∷ ns) = cond (n.root == 1024) (Some n.place) (lowest_unruled ns)
