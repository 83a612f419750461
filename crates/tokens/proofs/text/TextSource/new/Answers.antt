use Rattle.std.proofs.Common.{refl, arith}
use Rattle.scanning.proofs.Cuts.{cut_as_scanned}
use Rattle.scanning.proofs.OneWay.{only_scanned}
use Rattle.tokens.proofs.text.TextSource.new.Goals as goal

pub returns : goal.returns
returns c =
    let scanned = c.lex_at-ahead.ensures in
    record {
      short = omega arith;
      tokens = scanned.tokens;
      ending = scanned.ending;
      input = refl;
      law = cut_as_scanned _ _ _ _ scanned.tokens scanned.ending;
      only = only_scanned _ _ _ _ scanned.tokens scanned.ending;
    }
