-- Entries that are known by how the text writes them.
use Rattle.std.specs.Prelude.{◌≡◌, ℕ, ◌≤◌, Bool, cond, List, [], ◌∷◌, ◌++◌, length, nat_lt}
use Rattle.std.specs.List.{position_or_len}
use Rattle.std.specs.Str.{bytes_eq}
use Rattle.tables.specs.Filling.{entries, room, RestKept}
use Rattle.tables.specs.Spots.{cut}
use Rattle.tables.specs.declared.filling.Filling.{Filling}
use Rattle.tables.specs.declared.full.Full.{Full}

-- the list with one more, unless index i lies within it
abbrev pub with_new : {E : Type 0} → ℕ → E → List E → List E
with_new i e es = cond (nat_lt i (length es)) es (es ++ e ∷ [])

module _ {E : Type 0} (begins spans : E → ℕ) (text : List ℕ) (e : E) where
  -- another entry is written as e
  abbrev pub is_written : E → Bool
  is_written other = bytes_eq (cut text (begins other) (spans other)) (cut text (begins e) (spans e))

  -- the index of the first entry that is written as e, or how many there are
  abbrev pub place_among : List E → ℕ
  place_among es = position_or_len is_written es

  module _ {L : ℕ} where
    -- e has that index among the entries, and stands there now if none was written so
    pub record Numbered (before after : Filling E L) (i : ℕ) : Type 0 where
      pub is : i ≡ place_among (entries before)
      pub list : entries after ≡ with_new i e (entries before)
      pub kept : RestKept before after
      pub fits : length (entries after) ≤ room before

    -- none is written as e, and there can be no more
    pub record Refused (before after : Filling E L) (x : Full) : Type 0 where
      pub new : place_among (entries before) ≡ length (entries before)
      pub full : room before ≤ length (entries before)
      pub told : x.limit ≡ room before
      pub same : after ≡ before
