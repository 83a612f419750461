-- One that is known, or new, or one too many.
use Rattle.std.proofs.Common.{◌≡◌, ℕ, ◌+◌, ◌<◌, ◌≤◌, not, ltb, List, ◌++◌, ◌∷◌, [], length, take, drop, set, Ok, Err, Some, None, Result, sym, ap, ◌∙◌, ⊎_elim, arith, MatchResult, length-set, length-take, drop-set-lt}
use Rattle.std.proofs.lemmas.Bool.{cases_lt, cond-true, cond-false, lt-ltb, le-ltb}
use Rattle.std.proofs.lemmas.List.{take_more_set}
use Rattle.std.proofs.lemmas.List.Sums.{prefix_len-le-length}
use Rattle.std.proofs.lemmas.Option.{none-some}
use Rattle.std.specs.List.{position}
use Rattle.tables.specs.Filling.{entries, Added, IsFull}
use Rattle.tables.specs.Numbering.{is_written, place_among, Numbered, Refused}
use Rattle.tables.specs.declared.filling.Filling.{Filling}
use Rattle.tables.specs.declared.full.Full.{Full}

module _ {E : Type 0} (begins spans : E → ℕ) (text : List ℕ) (e : E) where
  -- where no entry is written as e, as many are passed as there are
  none_among : (es : List E) → None ≡ position (is_written begins spans text e) es → place_among begins spans text e es ≡ length es
  none_among es none =
      let i = place_among begins spans text e es in
      ⊎_elim
      (λ less. absurd (none-some i (none ∙ cond-true (ltb i (length es)) (Some i) None (lt-ltb i (length es) less))))
      (λ all. omega (arith, prefix_len-le-length (λ x. not (is_written begins spans text e x)) es))
      (cases_lt i (length es))

  -- where as many are passed as there are, no entry is written as e
  none_written : (es : List E) → length es ≤ place_among begins spans text e es → None ≡ position (is_written begins spans text e) es
  none_written es all = let i = place_among begins spans text e es in sym (cond-false (ltb i (length es)) (Some i) None (le-ltb i (length es) all))

  module _ {L : ℕ} (before after : Filling E L) (none : None ≡ position (is_written begins spans text e) (entries before)) where
    pub numbered : (r : Result ℕ Full) → MatchResult r (Added e before after) (IsFull before after) → MatchResult r (Numbered begins spans text e before after) (Refused begins spans text e before after)
    numbered (Ok n) a =
        let last = a.index in
        record {
          is = a.index ∙ sym (none_among (entries before) none);
          list = a.more ∙ sym (cond-false (ltb n (length (entries before))) (entries before) (entries before ++ e ∷ []) (le-ltb n (length (entries before)) (omega arith)));
          kept = a.kept;
          fits = a.fits;
        }
    numbered (Err x) f = record { new = none_among (entries before) none; full = f.full; told = f.told; same = f.same }

  module _ {L : ℕ} (before after : Filling E L) where
    -- what is written right after the entries is one more of them
    added : before.count < L → before.count < length before.table.now → after.table.now ≡ set before.table.now before.count e → after.count ≡ before.count + 1 → Added e before after before.count
    added few inside table count =
        let xs = before.table.now in
        let n = before.count in
        let long = ap length table ∙ length-set xs n e in
        record {
          index = omega (arith, length-take n xs);
          more = ap (λ m. take m after.table.now) count ∙ ap (take (n + 1)) table ∙ take_more_set xs n e inside;
          kept = record { grows = omega arith; rest = ap (drop after.count) table ∙ drop-set-lt after.count xs n e (omega arith); long = long };
          fits = omega (arith, length-take after.count after.table.now);
        }

    -- so it is numbered, where no entry was written as e
    pub known_now : (i : ℕ) → i ≡ place_among begins spans text e (entries before) → before.count ≤ i → before.count < L → before.count < length before.table.now → after.table.now ≡ set before.table.now before.count e → after.count ≡ before.count + 1 → Numbered begins spans text e before after before.count
    known_now i is last few inside table count =
        let none = none_written (entries before) (omega (arith, length-take before.count before.table.now)) in
        numbered before after none (Ok before.count) (added few inside table count)
