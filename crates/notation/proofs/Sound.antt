-- Reading gives the tables of a text, and of no other.
use Rattle.std.proofs.Common.{◌≡◌, ℕ, List, [], ◌∷◌, refl, ap, ◌∙◌, arith}
use mathlib.Core.Option.{Option, none, some}
use Rattle.notation.specs.Tokens.{Token, Ending, end, fault}
use Rattle.notation.specs.Tables.{Tables, Entry}
use Rattle.notation.specs.Standing.{Shape, ready, heading, inside, Stood, stand?}
use Rattle.notation.specs.Reading.{State, go, Limits, Refusal, no_rule, refusal, Outcome, read, refused, ruleless, at_end, finish, or_on, step, run}
use Rattle.notation.proofs.Rest.{Rest, spell_rest, build, spell_build, number_rest, number_build}

pub read≢refused : {T : Tables} {r : Refusal} → refused r ≡ read T → ⊥
read≢refused h = let z : ◌≡◌ {A = ℕ} 0 1 = cc in omega arith

abbrev pub Ended : Ending → Type 0
Ended e = (p : ℕ) × (e ≡ end p)

-- tables X come from a state by the rest of a text
pub record Came (sh : Shape) (st : State sh) (ts : List Token) (e : Ending) (X : Tables) : Type 0 where
  pub rest : Rest sh
  pub spelled : spell_rest sh rest ≡ ts
  pub numbered : number_rest sh st rest ≡ X
  pub ended : Ended e

pub ruleless_read : (o : Option ℕ) (T X : Tables) → elim o [ none ↦ read T | some q ↦ refused (no_rule q) ] ≡ read X → (T ≡ X) × (o ≡ none)
ruleless_read none T X h = (cc, refl)
ruleless_read (some q) T X h = absurd (read≢refused h)

pub at_end_read : (T : Tables) (es : List Entry) (p : ℕ) (X : Tables) → at_end T es p ≡ read X → T ≡ X
at_end_read T [] p X h = absurd (read≢refused h)
at_end_read T (e ∷ es) p X h = (ruleless_read (ruleless (e ∷ es)) T X h).0

pub or_on_read : (o : Option Refusal) (r : Outcome) (X : Tables) → or_on o r ≡ read X → (o ≡ none) × (r ≡ read X)
or_on_read none r X h = (refl, h)
or_on_read (some q) r X h = absurd (read≢refused h)

came_finish : (sh : Shape) (st : State sh) (e : Ending) (X : Tables) → finish sh st e ≡ read X → Came sh st [] e X
came_finish ready T (end p) X h = record { rest = []; spelled = refl; numbered = at_end_read T T.names p X h; ended = (p, refl) }
came_finish heading H (end p) X h = absurd (read≢refused h)
came_finish (inside bs) W (end p) X h = absurd (read≢refused h)
came_finish ready T (fault p c) X h = absurd (read≢refused h)
came_finish heading H (fault p c) X h = absurd (read≢refused h)
came_finish (inside bs) W (fault p c) X h = absurd (read≢refused h)

came_step : (L : Limits) (sh : Shape) (t : Token) (d : Dec (Stood sh t)) (st : State sh) (ts : List Token) (e : Ending) (X : Tables)
    → ((to : Shape) (st' : State to) → run L to st' ts e ≡ read X → Came to st' ts e X)
    → step L d st (λ to st'. run L to st' ts e) ≡ read X → Came sh st (t ∷ ts) e X
came_step L sh t (no x) st ts e X ih h = absurd (read≢refused h)
came_step L sh t (yes (to, v)) st ts e X ih h =
    let g : run L to (go v st) ts e ≡ read X = (or_on_read (refusal L v st) (run L to (go v st) ts e) X h).1 in
    let c : Came to (go v st) ts e X = ih to (go v st) g in
    record { rest = build v c.rest; spelled = spell_build v c.rest ∙ ap (λ xs. t ∷ xs) c.spelled; numbered = number_build v st c.rest ∙ c.numbered; ended = c.ended }

pub came : (L : Limits) (sh : Shape) (st : State sh) (ts : List Token) (e : Ending) (X : Tables) → run L sh st ts e ≡ read X → Came sh st ts e X
came L sh st [] e X h = came_finish sh st e X h
came L sh st (t ∷ ts) e X h = came_step L sh t (stand? sh t) st ts e X (λ to st' g. came L to st' ts e X g) h
