-- Sets of marks, as numbers below 2 ^ 128, and the two weighings: what can end, and FIRST.
use Rattle.std.specs.Prelude.{◌≡◌, ℕ, zero, suc, ◌+◌, ◌-◌, ◌%◌, ◌^◌, ◌<◌, Bool, true, false, cond, ◌&&◌, ◌||◌, ◌==◌, bit_or}
use Rattle.kindset.specs.Bits.{bit}
use Rattle.yields.specs.Weighing.{Weighing}

abbrev pub Has : ℕ → ℕ → Type 0
Has s m = bit s m ≡ 1

abbrev pub end_mark : ℕ
end_mark = 0

abbrev pub empty_mark : ℕ
empty_mark = 127

abbrev pub without_empty : ℕ → ℕ
without_empty s = s % 2 ^ 127

-- then(a, b): a if it lacks the empty mark, else a without it joined with b
abbrev pub first_then : ℕ → ℕ → ℕ
first_then a b = cond (bit a empty_mark == 1) (bit_or (without_empty a) b) a

-- how many of the first k marks the set lacks
unfoldable pub lacking : ℕ → ℕ → ℕ
lacking s zero = 0
lacking s (suc k) = (1 - bit s k) + lacking s k

-- what can end: nothing cannot, the rest can; either is or, then is and
abbrev pub ending : Weighing Bool
ending = record {
  nothing = false;
  empty = true;
  kind = λ k. true;
  either = ◌||◌;
  «then» = ◌&&◌;
  height = λ b. cond b 0 1;
  Fits = λ b. Unit {0};
}

-- sets of marks, either being union
abbrev pub first : Weighing ℕ
first = record {
  nothing = 0;
  empty = 2 ^ empty_mark;
  kind = λ k. 2 ^ k;
  either = bit_or;
  «then» = first_then;
  height = λ s. lacking s 128;
  Fits = λ s. s < 2 ^ 128;
}
