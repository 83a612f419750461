-- Which token can stand where.
use Rattle.std.specs.Prelude.{ℕ, List, [], ◌∷◌, length}
use Rattle.notation.specs.Tokens.{Bracket, round, square, curly, Spot, Terminal, Token, name, terminal, arrow, bar, semi, opening, closing}

-- between two tokens: where a rule may begin, after a rule's name, or within branches and these open brackets, the innermost first
pub data Shape : Type 0 where
  ready : Shape
  heading : Shape
  inside : List Bracket → Shape

-- this token can stand here, and leads there
pub data Stands : Shape → Token → Shape → Type 0 where
  heads : {s : Spot} → Stands ready (name s) heading
  becomes : {s : Spot} → Stands heading (arrow s) (inside [])
  names : {s : Spot} {bs : List Bracket} → Stands (inside bs) (name s) (inside bs)
  spells : {k : Terminal} {s : Spot} {bs : List Bracket} → Stands (inside bs) (terminal k s) (inside bs)
  parts : {s : Spot} {bs : List Bracket} → Stands (inside bs) (bar s) (inside bs)
  opens : {b : Bracket} {s : Spot} {bs : List Bracket} → Stands (inside bs) (opening b s) (inside (b ∷ bs))
  closes : {b : Bracket} {s : Spot} {bs : List Bracket} → Stands (inside (b ∷ bs)) (closing b s) (inside bs)
  stops : {s : Spot} → Stands (inside []) (semi s) ready

abbrev pub Stood : Shape → Token → Type 0
Stood sh t = (to : Shape) × Stands sh t to

abbrev pub stand? : (sh : Shape) (t : Token) → Dec (Stood sh t)
stand? ready (name s) = yes (heading, heads)
stand? ready (terminal k s) = no (λ p. elim p.1 [ ])
stand? ready (arrow s) = no (λ p. elim p.1 [ ])
stand? ready (bar s) = no (λ p. elim p.1 [ ])
stand? ready (semi s) = no (λ p. elim p.1 [ ])
stand? ready (opening b s) = no (λ p. elim p.1 [ ])
stand? ready (closing b s) = no (λ p. elim p.1 [ ])
stand? heading (name s) = no (λ p. elim p.1 [ ])
stand? heading (terminal k s) = no (λ p. elim p.1 [ ])
stand? heading (arrow s) = yes (inside [], becomes)
stand? heading (bar s) = no (λ p. elim p.1 [ ])
stand? heading (semi s) = no (λ p. elim p.1 [ ])
stand? heading (opening b s) = no (λ p. elim p.1 [ ])
stand? heading (closing b s) = no (λ p. elim p.1 [ ])
stand? (inside bs) (name s) = yes (inside bs, names)
stand? (inside bs) (terminal k s) = yes (inside bs, spells)
stand? (inside []) (arrow s) = no (λ p. elim p.1 [ ])
stand? (inside (b ∷ bs)) (arrow s) = no (λ p. elim p.1 [ ])
stand? (inside bs) (bar s) = yes (inside bs, parts)
stand? (inside bs) (opening b s) = yes (inside (b ∷ bs), opens)
stand? (inside []) (semi s) = yes (ready, stops)
stand? (inside (b ∷ bs)) (semi s) = no (λ p. elim p.1 [ ])
stand? (inside []) (closing c s) = no (λ p. elim p.1 [ ])
stand? (inside (round ∷ bs)) (closing round s) = yes (inside bs, closes)
stand? (inside (round ∷ bs)) (closing square s) = no (λ p. elim p.1 [ ])
stand? (inside (round ∷ bs)) (closing curly s) = no (λ p. elim p.1 [ ])
stand? (inside (square ∷ bs)) (closing round s) = no (λ p. elim p.1 [ ])
stand? (inside (square ∷ bs)) (closing square s) = yes (inside bs, closes)
stand? (inside (square ∷ bs)) (closing curly s) = no (λ p. elim p.1 [ ])
stand? (inside (curly ∷ bs)) (closing round s) = no (λ p. elim p.1 [ ])
stand? (inside (curly ∷ bs)) (closing square s) = no (λ p. elim p.1 [ ])
stand? (inside (curly ∷ bs)) (closing curly s) = yes (inside bs, closes)

-- how many brackets are open
abbrev pub depth : Shape → ℕ
depth ready = 0
depth heading = 0
depth (inside bs) = length bs
