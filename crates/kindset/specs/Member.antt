-- Membership in a set of kinds.
use Rattle.std.specs.Prelude.{◌≡◌, ℕ, ◌/◌, ◌%◌, ◌^◌, ◌<◌, Bool, true, false, ◌&&◌, Some, None, Option, ◌==◌, nat_lt}
use Rattle.kindset.specs.declared.KindSet.{KindSet}

-- the set has k: k is below 128, and bit k is one
abbrev pub member : KindSet → ℕ → Bool
member s k = nat_lt k 128 && s.bits / 2 ^ k % 2 == 1

-- a member of both
abbrev pub shared : KindSet → KindSet → ℕ → Bool
shared s t k = member s k && member t k

-- the lowest such, or that there is none
abbrev pub LowestShared : KindSet → KindSet → Option ℕ → Type 0
LowestShared s t None = (k : ℕ) → shared s t k ≡ false
LowestShared s t (Some k) = (shared s t k ≡ true) × ((j : ℕ) → j < k → shared s t j ≡ false)
