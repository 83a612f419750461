-- What the tables of a grammar give: nodes in order, each with one place.
use Rattle.std.specs.Prelude.{◌≡◌, ℕ, ◌≤◌, List, length, slice_index}
use Rattle.std.proofs.Math.Option.{some}
use Rattle.notation.specs.Tables.{Tables}
use Rattle.notation.specs.Shaped.{root_at, IsWellFormed}
use Rattle.yields.specs.WellFormed.{WellFormed, Forest}

-- the roots of the names, in their order
pub record RootsOf (T : Tables) (rs : List ℕ) : Type 0 where
  pub long : length rs ≡ length T.names
  pub at : (k r : ℕ) → root_at T.names k ≡ some r → slice_index rs k ≡ r

abbrev pub DraftsFormed : Type 0
DraftsFormed =
    (T : Tables) (rs : List ℕ) → IsWellFormed T → length T.kinds ≤ 120 → RootsOf T rs
    → WellFormed T.nodes rs × Forest T.nodes rs
