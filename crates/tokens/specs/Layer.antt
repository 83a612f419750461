-- What the skipping layer means: the inner list without some kinds, and the same ending.
use Rattle.std.specs.Prelude.{Bool, not, List, filter, Ok, Err, Result}
use Rattle.kindset.specs.Member.{member}
use Rattle.kindset.specs.declared.KindSet.{KindSet}
use Rattle.std.specs.List.{AllByRecursion}
use Rattle.std.proofs.ByRecursion.{all_kept_by}
use Rattle.tokens.specs.Held.{Held, with_held, NextFits}
use Rattle.scanning.specs.Scan.{KindFits}
use Rattle.token.specs.declared.token.Fault.{Fault}
use Rattle.token.specs.declared.token.Next.{Next}
use Rattle.token.specs.declared.token.Next.TheVariants as next_is
use Rattle.token.specs.declared.token.Token.{Token}

-- a token is kept whose kind is not skipped
abbrev pub keeps : KindSet → Token → Bool
keeps skipped t = not (member skipped t.kind)

-- the list without the skipped kinds
abbrev pub without : KindSet → List Token → List Token
without skipped ts = filter (keeps skipped) ts

-- the law of kinds, for a source that holds its first token, and for the layer
pub held_kinds : (h : Held) (ts : List Token) → AllByRecursion KindFits ts → AllByRecursion KindFits (with_held h.next ts)
held_kinds h ts a = go h.next h.fits
  where
    go : (n : Result Next Fault) → NextFits n → AllByRecursion KindFits (with_held n ts)
    go (Ok (next_is.Token t)) f = (f, a)
    go (Ok (next_is.End p)) f = tt
    go (Err e) f = tt

pub layer_kinds : (h : Held) (skipped : KindSet) (ts : List Token) → AllByRecursion KindFits ts → AllByRecursion KindFits (with_held h.next (without skipped ts))
layer_kinds h skipped ts a = held_kinds h (without skipped ts) (all_kept_by (keeps skipped) KindFits ts a)
