-- A table that is filled from its front, read by read.
use Rattle.std.proofs.Common.{◌≡◌, ℕ, ◌+◌, ◌-◌, ◌≤◌, List, ◌++◌, length, take, drop, sym, ap, ◌∙◌, subst, take-add, drop_at, length-take-le}
use Rattle.std.proofs.lemmas.List.{take-append-le}
use Rattle.std.specs.declared.option.Option.{Option}
use Rattle.std.specs.Io.KnownBytes.{Consumes, Keeps}
use Rattle.std.proofs.KnownBytes.{Consumes-trans, Consumes-kept}
use borrow.Rule.Slice.PartMut.{put_mid, post_of, take_put}

-- the reader has a at first, b before this read and c after it; the part is what lies behind the filled front
module _ (a b c : Option (List ℕ)) (table part : List ℕ) (at count : ℕ) (within : at ≤ length table) where
  abbrev after : List ℕ
  after = put_mid at (length table - at) table part

  -- a read of n bytes fills the front on
  pub filled_on : (n : ℕ) → n ≤ length part → count ≡ at + n → Consumes a b (take at table) → Consumes b c (take n part) → Consumes a c (take count after)
  filled_on n fits more before read =
      let begun : take at after ≡ take at table = take_put at _ table part within in
      let behind : take n (drop at after) ≡ take n part =
      ap (take n) (drop_at (take at table) _ at (length-take-le at table within)) ∙ take-append-le n part (post_of at (length table - at) table) fits in
      let front : take count after ≡ take at table ++ take n part =
      ap (λ k. take k after) more ∙ take-add at n after ∙ ap (λ l. l ++ take n (drop at after)) begun ∙ ap (λ l. take at table ++ l) behind in
      subst (Consumes a c) (sym front) (Consumes-trans a b c _ _ before read)

  -- a read that failed leaves the front
  pub filled_still : count ≡ at → Consumes a b (take at table) → Keeps b c → Consumes a c (take count after)
  filled_still same before kept =
      let front : take count after ≡ take at table = ap (λ k. take k after) same ∙ take_put at _ table part within in
      subst (Consumes a c) (sym front) (Consumes-kept a b c _ before kept)
