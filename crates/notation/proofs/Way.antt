-- The way that reading goes through the tokens.
use Rattle.std.proofs.Common.{◌≡◌, ℕ, List, [], ◌∷◌, ◌++◌, sym, refl, ap, ◌∙◌, subst, arith}
use mathlib.Core.Option.{Option, none, some}
use Rattle.notation.specs.Tokens.{Token, spot, Ending}
use Rattle.notation.specs.Standing.{Shape, ready, Stands, Stood, stand?}
use Rattle.notation.specs.Reading.{State, go, Limits, Refusal, misplaced, refusal, refused, finish, or_on, step, run}
use Rattle.notation.proofs.Rest.{Rest, spell_rest, build, spell_build, number_rest, number_build, First, none_left, one_left, first}
use Rattle.notation.proofs.Unique.{one_way}

-- the tokens ts lead from here to there, and none is refused
pub data Way (L : Limits) : (sh : Shape) → State sh → List Token → (to : Shape) → State to → Type 0 where
  here : {sh : Shape} {st : State sh} → Way L sh st [] sh st
  on : {sh : Shape} {st : State sh} {t : Token} {mid : Shape} {ts : List Token} {to : Shape} {st' : State to}
      (v : Stands sh t mid) → refusal L v st ≡ none → Way L mid (go v st) ts to st' → Way L sh st (t ∷ ts) to st'

-- how reading comes to a refusal
pub data Stopped (L : Limits) (sh : Shape) (st : State sh) (ts : List Token) (e : Ending) (r : Refusal) : Type 0 where
  strayed : (before : List Token) (t : Token) (after : List Token) (to : Shape) (st' : State to)
      → ts ≡ before ++ (t ∷ after) → Way L sh st before to st' → (Stood to t → ⊥) → r ≡ misplaced (spot t).place → Stopped L sh st ts e r
  hindered : (before : List Token) (t : Token) (after : List Token) (mid : Shape) (st' : State mid) (to : Shape) (v : Stands mid t to)
      → ts ≡ before ++ (t ∷ after) → Way L sh st before mid st' → refusal L v st' ≡ some r → Stopped L sh st ts e r
  ended : (to : Shape) (st' : State to) → Way L sh st ts to st' → finish to st' e ≡ refused r → Stopped L sh st ts e r

later : {L : Limits} {sh : Shape} {st : State sh} {t : Token} {mid : Shape} {ts : List Token} {e : Ending} {r : Refusal} (v : Stands sh t mid) → refusal L v st ≡ none
    → Stopped L mid (go v st) ts e r → Stopped L sh st (t ∷ ts) e r
later {t = t} v n (strayed before u after to st' p w x q) = strayed (t ∷ before) u after to st' (ap (λ xs. t ∷ xs) p) (on v n w) x q
later {t = t} v n (hindered before u after mid st' to v' p w q) = hindered (t ∷ before) u after mid st' to v' (ap (λ xs. t ∷ xs) p) (on v n w) q
later v n (ended to st' w q) = ended to st' (on v n w) q

stopped_or : (L : Limits) {sh : Shape} {t : Token} {to : Shape} (v : Stands sh t to) (st : State sh) (ts : List Token) (e : Ending) (r : Refusal)
    → (run L to (go v st) ts e ≡ refused r → Stopped L to (go v st) ts e r)
    → (o : Option Refusal) → refusal L v st ≡ o → or_on o (run L to (go v st) ts e) ≡ refused r → Stopped L sh st (t ∷ ts) e r
stopped_or L v st ts e r ih none n h = later v n (ih h)
stopped_or L {sh} {t} {to} v st ts e r ih (some q) n h = hindered [] t ts sh st to v refl here (n ∙ cc)

stopped_step : (L : Limits) (sh : Shape) (t : Token) (d : Dec (Stood sh t)) (st : State sh) (ts : List Token) (e : Ending) (r : Refusal)
    → ((to : Shape) (st' : State to) → run L to st' ts e ≡ refused r → Stopped L to st' ts e r)
    → step L d st (λ to st'. run L to st' ts e) ≡ refused r → Stopped L sh st (t ∷ ts) e r
stopped_step L sh t (no x) st ts e r ih h = strayed [] t ts sh st refl here x (cc)
stopped_step L sh t (yes (to, v)) st ts e r ih h = stopped_or L v st ts e r (ih to (go v st)) (refusal L v st) refl h

pub stopped : (L : Limits) (sh : Shape) (st : State sh) (ts : List Token) (e : Ending) (r : Refusal) → run L sh st ts e ≡ refused r → Stopped L sh st ts e r
stopped L sh st [] e r h = ended sh st here h
stopped L sh st (t ∷ ts) e r h = stopped_step L sh t (stand? sh t) st ts e r (λ to st' g. stopped L to st' ts e r g) h

-- a text that begins with a token that leads there
pub record Peeled {sh : Shape} {t : Token} {to : Shape} (v : Stands sh t to) (k : Rest sh) (ts : List Token) : Type 0 where
  pub rest : Rest to
  pub built : build v rest ≡ k
  pub spelled : spell_rest to rest ≡ ts

peel_way : {sh : Shape} {t : Token} {to to' : Shape} (v : Stands sh t to) (v' : Stands sh t to') (rest : Rest to') (k : Rest sh) (ts : List Token)
    → build v' rest ≡ k → spell_rest to' rest ≡ ts → Peeled v k ts
peel_way {sh} {t} {to} {to'} v v' rest k ts p h =
    subst (λ (w : Stood sh t). (a : Rest w.0) → build w.1 a ≡ k → spell_rest w.0 a ≡ ts → Peeled v k ts) (one_way v v')
    (λ a q g. record { rest = a; built = q; spelled = g }) rest p h

peel_token : {sh : Shape} {t t' : Token} {to to' : Shape} (v : Stands sh t to) (v' : Stands sh t' to') (rest : Rest to') (k : Rest sh) (ts : List Token)
    → t' ≡ t → build v' rest ≡ k → spell_rest to' rest ≡ ts → Peeled v k ts
peel_token {sh} {t} {t'} {to} {to'} v v' rest k ts e p h =
    subst (λ (u : Token). (w : Stands sh u to) → Peeled w k ts) e (λ w. peel_way w v' rest k ts p h) v

pub peel_first : {sh : Shape} {t : Token} {to : Shape} (v : Stands sh t to) (k : Rest sh) (ts : List Token) → First sh k → spell_rest sh k ≡ t ∷ ts → Peeled v k ts
peel_first v k ts none_left h = let z : ◌≡◌ {A = ℕ} 0 1 = cc in absurd (omega arith)
peel_first {sh} {t} v k ts (one_left {t = t'} {to = to'} v' rest p) h =
    let g : t' ∷ spell_rest to' rest ≡ t ∷ ts = sym (spell_build v' rest) ∙ ap (spell_rest sh) p ∙ h in
    peel_token v v' rest k ts (cc) p (cc)

pub peel : {sh : Shape} {t : Token} {to : Shape} (v : Stands sh t to) (k : Rest sh) (ts : List Token) → spell_rest sh k ≡ t ∷ ts → Peeled v k ts
peel {sh} v k ts h = peel_first v k ts (first sh k) h

-- what a text is after the tokens of a way
pub record Left (sh : Shape) (st : State sh) (k : Rest sh) (to : Shape) (st' : State to) (ts : List Token) : Type 0 where
  pub rest : Rest to
  pub spelled : spell_rest to rest ≡ ts
  pub numbered : number_rest sh st k ≡ number_rest to st' rest

pub left : {L : Limits} {sh : Shape} {st : State sh} {before : List Token} {to : Shape} {st' : State to} (w : Way L sh st before to st') (k : Rest sh) (ts : List Token)
    → spell_rest sh k ≡ before ++ ts → Left sh st k to st' ts
left here k ts h = record { rest = k; spelled = h; numbered = refl }
left {sh = sh} {st = st} (on {ts = us} v n w) k ts h =
    let p = peel v k (us ++ ts) h in
    let l = left w p.rest ts p.spelled in
    record { rest = l.rest; spelled = l.spelled; numbered = ap (number_rest sh st) (sym p.built) ∙ number_build v st p.rest ∙ l.numbered }

-- what stood before, put back
pub record Whole (sh : Shape) (st : State sh) (before : List Token) (to : Shape) (st' : State to) (rest : Rest to) : Type 0 where
  pub all : Rest sh
  pub spelled : spell_rest sh all ≡ before ++ spell_rest to rest
  pub numbered : number_rest sh st all ≡ number_rest to st' rest

pub whole : {L : Limits} {sh : Shape} {st : State sh} {before : List Token} {to : Shape} {st' : State to} (w : Way L sh st before to st') (k : Rest to) → Whole sh st before to st' k
whole here k = record { all = k; spelled = refl; numbered = refl }
whole {st = st} (on {t = t} v n w) k =
    let r = whole w k in
    record { all = build v r.all; spelled = spell_build v r.all ∙ ap (λ xs. t ∷ xs) r.spelled; numbered = number_build v st r.all ∙ r.numbered }

-- a token that a text has next can stand
next_first : {sh : Shape} (k : Rest sh) (t : Token) (ts : List Token) → First sh k → spell_rest sh k ≡ t ∷ ts → Stood sh t
next_first k t ts none_left g = let z : ◌≡◌ {A = ℕ} 0 1 = cc in absurd (omega arith)
next_first {sh} k t ts (one_left {t = t'} {to = to'} v' rest p) g =
    let q : t' ∷ spell_rest to' rest ≡ t ∷ ts = sym (spell_build v' rest) ∙ ap (spell_rest sh) p ∙ g in
    let e : t' ≡ t = cc in
    (to', subst (λ u. Stands sh u to') e v')

pub next_stands : (sh : Shape) (k : Rest sh) (t : Token) (ts : List Token) → spell_rest sh k ≡ t ∷ ts → Stood sh t
next_stands sh k t ts h = next_first k t ts (first sh k) h

-- where nothing is left of a text a rule may begin
none_first : {sh : Shape} (k : Rest sh) → First sh k → spell_rest sh k ≡ [] → sh ≡ ready
none_first k none_left g = refl
none_first {sh} k (one_left v' rest p) g =
    let q = sym (spell_build v' rest) ∙ ap (spell_rest sh) p ∙ g in
    let z : ◌≡◌ {A = ℕ} 0 1 = cc in absurd (omega arith)

pub none_left_ready : (sh : Shape) (k : Rest sh) → spell_rest sh k ≡ [] → sh ≡ ready
none_left_ready sh k h = none_first k (first sh k) h
