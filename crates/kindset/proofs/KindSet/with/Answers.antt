use Rattle.std.proofs.Common.{◌≡◌, ◌*◌, ◌%◌, ◌^◌, ◌&&◌, eqb, ltb, ap, ◌∙◌, mod-eq_of_lt, one-mul, arith}
use lib.Bits.{bit_or}
use Rattle.std.proofs.lemmas.Nat.{pow_below}
use Rattle.kindset.specs.Bits.{bit}
use Rattle.kindset.proofs.Members.{with_member}
use Rattle.kindset.proofs.KindSet.with.Goals as goal

pub returns-then-kind-lt128 : goal.returns-then-kind-lt128
returns-then-kind-lt128 c m =
    let s = c.args.self.bits in
    let k = c.args.kind in
    let shifted : 1 * 2 ^ k % 2 ^ 128 ≡ 2 ^ k = ap (λ n. n % 2 ^ 128) (one-mul (2 ^ k)) ∙ mod-eq_of_lt (pow_below k 128 (omega arith)) in
    ap (λ b. ltb m 128 && eqb (bit (bit_or s b) m) 1) shifted ∙ with_member s k m
