-- What a table holds that is filled from place 0 on.
use Rattle.std.specs.Prelude.{◌≡◌, ℕ, ◌≤◌, min, List, [], ◌∷◌, ◌++◌, length, take, drop, replicate}
use Rattle.tables.specs.declared.filling.Filling.{Filling}
use Rattle.tables.specs.declared.full.Full.{Full}

module _ {E : Type 0} {L : ℕ} where
  -- its entries
  abbrev pub entries : Filling E L → List E
  entries t = take t.count t.table.now

  -- how many there can be
  abbrev pub room : Filling E L → ℕ
  room t = min L (length t.table.now)

  -- there is no entry, and every place is wiped
  pub record IsNew (table : List E) (zero : E) (t : Filling E L) : Type 0 where
    pub none : entries t ≡ []
    pub wiped : t.table.now ≡ replicate (length table) zero

  -- the first places are entries, count of them or as many as there can be, and nothing is written
  pub record IsResumed (table : List E) (count : ℕ) (t : Filling E L) : Type 0 where
    pub part : entries t ≡ take (min count (min L (length table))) table
    pub same : t.table.now ≡ table

  -- places past the entries are as they were, and no entry is given up
  pub record RestKept (before after : Filling E L) : Type 0 where
    pub grows : before.count ≤ after.count
    pub rest : drop after.count after.table.now ≡ drop after.count before.table.now
    pub long : length after.table.now ≡ length before.table.now

  -- one more entry, at that index
  pub record Added (e : E) (before after : Filling E L) (n : ℕ) : Type 0 where
    pub index : n ≡ length (entries before)
    pub more : entries after ≡ entries before ++ e ∷ []
    pub kept : RestKept before after
    pub fits : length (entries after) ≤ room before

  -- as many entries as there can be
  pub record IsFull (before after : Filling E L) (e : Full) : Type 0 where
    pub full : room before ≤ length (entries before)
    pub told : e.limit ≡ room before
    pub same : after ≡ before
