-- What a source means that holds ready what a look answers.
use Rattle.std.specs.Prelude.{List, [], ◌∷◌, Ok, Err, Result}
use Rattle.std.specs.Coded.{×_prop, Unit-prop, le_prop}
use Rattle.scanning.specs.Scan.{KindFits}
use Rattle.token.specs.declared.token.Ending.{Ending}
use Rattle.token.specs.declared.token.Ending.TheVariants as ending_is
use Rattle.token.specs.declared.token.Fault.{Fault}
use Rattle.token.specs.declared.token.Next.{Next}
use Rattle.token.specs.declared.token.Next.TheVariants as next_is
use Rattle.token.specs.declared.token.Token.{Token}

-- the tokens to come, given those after the one that is held
abbrev pub with_held : Result Next Fault → List Token → List Token
with_held (Ok (next_is.Token t)) ts = t ∷ ts
with_held (Ok (next_is.End p)) ts = []
with_held (Err f) ts = []

-- the ending, given that of what comes after the token that is held
abbrev pub held_ending : Result Next Fault → Ending → Ending
held_ending (Ok (next_is.Token t)) e = e
held_ending (Ok (next_is.End p)) e = ending_is.End p
held_ending (Err f) e = ending_is.Fault f

-- a token among what comes next has a kind from 1 to 122
abbrev pub NextFits : Result Next Fault → Type 0
NextFits (Ok (next_is.Token t)) = KindFits t
NextFits (Ok (next_is.End p)) = Unit {0}
NextFits (Err f) = Unit {0}

-- and that has one proof at most, as a ghost field wants it
pub next_fits_prop : (n : Result Next Fault) → IsProp (NextFits n)
next_fits_prop (Ok (next_is.Token t)) = ×_prop le_prop le_prop
next_fits_prop (Ok (next_is.End p)) = Unit-prop
next_fits_prop (Err f) = Unit-prop

-- what a source holds ready: what a look answers, and that a token among it has a kind
pub record Held : Type 0 where
  pub next : Result Next Fault
  pub fits : NextFits next
