-- The refusals of a grammar's text.
use Rattle.std.specs.Prelude.{◌≡◌, ℕ, List, [], ◌∷◌, Some, None, Option}
use Rattle.grammar.specs.declared.refusal.Refusal.{Refusal}
use Rattle.grammar.specs.declared.refusal.Refusal.TheVariants.{TooLong, Fault, Misplaced, TooDeep, Misspelt, NamesFull, KindsFull, NodesFull, SecondRule, NoRule}
use Rattle.notation.specs.Reading.{Outcome, refused, faulty, misplaced, too_deep, misspelt, names_full, kinds_full, nodes_full as too_many_nodes, second_rule, no_rule}
use Rattle.tables.specs.declared.full.Full.{Full}
use Rattle.token.specs.Faults.{fault_number}
use Rattle.token.specs.declared.refusal.TooLong.{TooLong as TooLongTold}
use Rattle.token.specs.declared.token.Fault.{Fault as AFault}

-- its number, and then its values
abbrev pub numbered : Refusal → List ℕ
numbered (TooLong x) = 1 ∷ x.limit ∷ []
numbered (Fault x) = 2 ∷ x.place ∷ fault_number x.code ∷ []
numbered (Misplaced p) = 3 ∷ p ∷ []
numbered (TooDeep p) = 4 ∷ p ∷ []
numbered (Misspelt p) = 5 ∷ p ∷ []
numbered (NamesFull p) = 6 ∷ p ∷ []
numbered (KindsFull p) = 7 ∷ p ∷ []
numbered (NodesFull n) = 8 ∷ n ∷ []
numbered (SecondRule p) = 9 ∷ p ∷ []
numbered (NoRule p) = 10 ∷ p ∷ []

-- after the number and the first value comes the code, if there is one
abbrev pub third : List ℕ → Option ℕ
third [] = None
third (n ∷ []) = None
third (n ∷ v ∷ []) = None
third (n ∷ v ∷ c ∷ rest) = Some c

abbrev pub too_long : TooLongTold → Refusal
too_long x = TooLong x

abbrev pub at_fault : AFault → Refusal
at_fault x = Fault x

abbrev pub nodes_full : Full → Refusal
nodes_full x = NodesFull x.limit

-- the reading is refused so
abbrev pub RefusedAs : Refusal → Outcome → Type 0
RefusedAs (TooLong x) o = ⊥
RefusedAs (Fault x) o = o ≡ refused (faulty x.place (fault_number x.code))
RefusedAs (Misplaced p) o = o ≡ refused (misplaced p)
RefusedAs (TooDeep p) o = o ≡ refused (too_deep p)
RefusedAs (Misspelt p) o = o ≡ refused (misspelt p)
RefusedAs (NamesFull p) o = o ≡ refused (names_full p)
RefusedAs (KindsFull p) o = o ≡ refused (kinds_full p)
RefusedAs (NodesFull n) o = o ≡ refused (too_many_nodes n)
RefusedAs (SecondRule p) o = o ≡ refused (second_rule p)
RefusedAs (NoRule p) o = o ≡ refused (no_rule p)
