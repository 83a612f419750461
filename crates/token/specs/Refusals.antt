-- The numbers of refusals, with their values.
use Rattle.std.specs.Prelude.{List, [], ◌∷◌, ◌≡◌, ℕ, ◌<◌, length}
use Rattle.token.specs.declared.refusal.NothingLeft.{NothingLeft}
use Rattle.token.specs.declared.refusal.TooLong.{TooLong}

abbrev pub too_long : TooLong → List ℕ
too_long r = 1 ∷ r.limit ∷ []

-- a text is refused by 1, at 32,768, where it has more bytes than that
abbrev pub IsTooLong : List ℕ → TooLong → Type 0
IsTooLong text r = (32768 < length text) × (too_long r ≡ 1 ∷ 32768 ∷ [])

abbrev pub nothing_left : NothingLeft → List ℕ
nothing_left r = 25 ∷ r.place ∷ []
