-- What a source answers, by its tokens to come and its ending.
use Rattle.std.specs.Prelude.{◌≡◌, ℕ, List, [], ◌∷◌, Ok, Err, Result}
use Rattle.scanning.specs.Scan.{ending_place}
use Rattle.token.specs.Refusals.{nothing_left}
use Rattle.token.specs.declared.refusal.NothingLeft.{NothingLeft}
use Rattle.token.specs.declared.token.Ending.{Ending}
use Rattle.token.specs.declared.token.Ending.TheVariants as ending_is
use Rattle.token.specs.declared.token.Fault.{Fault}
use Rattle.token.specs.declared.token.Next.{Next}
use Rattle.token.specs.declared.token.Next.TheVariants as next_is
use Rattle.token.specs.declared.token.Token.{Token}

abbrev pub at_ending : Ending → Result Next Fault
at_ending (ending_is.End p) = Ok (next_is.End p)
at_ending (ending_is.Fault f) = Err f

-- what a look answers: the first token, or else the ending
abbrev pub looked : List Token → Ending → Result Next Fault
looked [] e = at_ending e
looked (t ∷ ts) e = Ok (next_is.Token t)

-- what a take answers: the first token, or else refusal 25 with the ending's place
abbrev pub taken : List Token → Ending → Result Token (List ℕ)
taken [] e = Err (25 ∷ ending_place e ∷ [])
taken (t ∷ ts) e = Ok t

-- an answer with its refusal told by number and values
abbrev pub told : Result Token NothingLeft → Result Token (List ℕ)
told (Ok t) = Ok t
told (Err r) = Err (nothing_left r)

-- the tokens to come after a take
abbrev pub left : List Token → List Token
left [] = []
left (t ∷ ts) = ts

-- nothing changes where no token is left
abbrev pub SameIfNone : {S : Type 0} → List Token → S → S → Type 0
SameIfNone [] s s' = s ≡ s'
SameIfNone (t ∷ ts) s s' = Unit {0}

-- no token comes next, but the ending at that place
abbrev pub EndsAt : Result Next Fault → NothingLeft → Type 0
EndsAt (Ok (next_is.Token t)) r = ⊥
EndsAt (Ok (next_is.End p)) r = r.place ≡ p
EndsAt (Err f) r = r.place ≡ f.place
