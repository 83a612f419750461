use Rattle.std.proofs.Common.{◌^◌, ◌<◌, rules}
use lib.Bits.{bit_and}
use Rattle.kindset.proofs.Members.{none_shared, lowest_in, none_lower}
use Rattle.kindset.proofs.KindSet.lowest_shared.Goals as goal

pub returns-then-shared-eq0 : goal.returns-then-shared-eq0
returns-then-shared-eq0 c = none_shared c.args.self.bits c.args.other.bits c.if-shared-eq0.true

pub returns : goal.returns
returns c =
    let s = c.args.self.bits in
    let t = c.args.other.bits in
    let small : bit_and s t < 2 ^ 128 = search rules in
    (lowest_in s t c.if-shared-eq0.false small, none_lower s t c.if-shared-eq0.false small)
