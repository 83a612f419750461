-- What a judging of a text says, whole: exactly when it is read, and exactly when and how it is refused.
use Rattle.std.specs.Prelude.{◌≡◌, ℕ, ◌⊎◌, List, map}
use Rattle.notation.specs.Completed.{LimitPassed}
use Rattle.notation.specs.Listing.{listing}
use Rattle.notation.specs.Meaning.{RulesAt}
use Rattle.notation.specs.Reading.{Limits, Refusal, faulty, misplaced, too_deep, misspelt, names_full, kinds_full, nodes_full, second_rule, no_rule, read, refused, reading}
use Rattle.notation.specs.Statements.{TextOf, BeginsText, FineSoFar, MisplacedAt, EndsEarly, DeepAt, MisspeltAt, NamesAt, KindsAt, NodesTold, SecondAt, Unruled, InOrder}
use Rattle.notation.specs.Syntax.{Rule}
use Rattle.notation.specs.Tables.{Tables}
use Rattle.notation.specs.Tokens.{SourceToken, sort, Ending, end, fault}

module _ (L : Limits) (ts : List SourceToken) (e : Ending) where
  -- what each refusal says of the tokens and the ending
  abbrev pub Says : Refusal → Type 0
  Says (faulty p c) = (e ≡ fault p c) × FineSoFar L (map sort ts) × BeginsText ts
  Says (misplaced p) = MisplacedAt L ts p ⊎ EndsEarly L ts e p
  Says (too_deep p) = DeepAt L ts p
  Says (misspelt p) = MisspeltAt L ts p
  Says (names_full p) = NamesAt L ts p
  Says (kinds_full p) = KindsAt L ts p
  Says (nodes_full n) = NodesTold L ts n × LimitPassed L ts
  Says (second_rule p) = SecondAt L ts p
  Says (no_rule p) = Unruled L ts e p

  -- the tokens are the text of these rules, which keep to the limits; each name has one rule
  pub record GrammarOf (rules : List Rule) : Type 0 where
    pub text : TextOf ts rules
    pub in_order : InOrder L ts rules
    pub ended : (p : ℕ) × (e ≡ end p)

  -- the tables of the one grammar that the tokens are
  pub record Right (T : Tables) : Type 0 where
    pub rules : List Rule
    pub grammar : GrammarOf rules
    pub only : (others : List Rule) → TextOf ts others → others ≡ rules
    pub listed : T ≡ listing rules
    pub mean : RulesAt T 0 rules
    pub no_refusal : (x : Refusal) → Says x → ⊥

  -- the one refusal whose words are true, and then no grammar
  pub record Wrong (x : Refusal) : Type 0 where
    pub says : Says x
    pub only : (y : Refusal) → Says y → y ≡ x
    pub no_grammar : (rules : List Rule) → GrammarOf rules → ⊥

  abbrev pub ReadIsRight : Type 0
  ReadIsRight = (T : Tables) → reading L ts e ≡ read T → Right T

  abbrev pub RefusedIsWrong : Type 0
  RefusedIsWrong = (x : Refusal) → reading L ts e ≡ refused x → Wrong x
