-- What is printed, as bytes.
use Rattle.std.specs.Prelude.{◌≡◌, ℕ, ◌+◌, ◌-◌, ◌≤◌, cond, List, [], ◌∷◌, ◌++◌, map, length, Some, codes, decimal, filter, ◌==◌, nat_lt, slice_index}
use Rattle.grammar.specs.Notation.{notation_kinds}
use Rattle.lines.specs.declared.survey.Survey.{Survey}
use Rattle.tokens.specs.Layered.{seen}
use Rattle.token.specs.Faults.{fault_number}
use Rattle.scanning.specs.Scan.{scan}
use Rattle.token.specs.declared.token.Ending.{Ending}
use Rattle.token.specs.declared.token.Ending.TheVariants.{End, Fault}
use Rattle.token.specs.declared.token.Fault.{Fault as FaultOf}
use Rattle.token.specs.declared.token.Token.{Token}

abbrev pub labelled : List ℕ → ℕ → List ℕ
labelled words n = words ++ decimal n

abbrev pub counted : ℕ → List ℕ → List ℕ
counted n words = decimal n ++ words

-- a refusal by its number and values: the number, and the first value as the place
abbrev pub refused_text : List ℕ → List ℕ
refused_text r = labelled (codes "refused ") (slice_index r 0) ++ labelled (codes " at ") (slice_index r 1)

abbrev pub one_of : ℕ → ℕ → ℕ
one_of kind sought = cond (kind == sought) 1 0

-- how many tokens are of that kind
abbrev pub how_many : ℕ → List Token → ℕ
how_many k [] = 0
how_many k (t ∷ ts) = one_of t.kind k + how_many k ts

abbrev pub survey_of_tokens : List Token → Ending → Survey
survey_of_tokens ts e = record { tokens = length ts; words = how_many 1 ts; strings = how_many 2 ts; ending = e }

abbrev pub fault_text : FaultOf → List ℕ
fault_text f = labelled (codes "fault ") (fault_number f.code) ++ labelled (codes " at ") f.place

abbrev pub ending_text : Ending → List ℕ
ending_text (End p) = labelled (codes "end at ") p
ending_text (Fault f) = fault_text f

abbrev pub text_of_survey : Survey → List ℕ
text_of_survey s =
    counted s.tokens (codes " tokens ") ++ (counted s.words (codes " words ") ++ (counted s.strings (codes " strings ")
    ++ (counted (s.tokens - s.words - s.strings) (codes " marks ") ++ ending_text s.ending)))

-- the survey of a grammar's text, read by the notation's kinds and without blanks and comments
abbrev pub text_survey : List ℕ → Survey
text_survey text = let s = scan (map Some notation_kinds) text in survey_of_tokens (filter seen s.tokens) s.ending

abbrev pub Surveyed : List ℕ → Survey → Type 0
Surveyed text s = (length text ≤ 32768) × (s ≡ text_survey text)

-- what is said of a grammar's text, and of a job's
abbrev pub grammar_text : List ℕ → List ℕ
grammar_text text = cond (nat_lt 32768 (length text)) (refused_text (1 ∷ 32768 ∷ [])) (text_of_survey (text_survey text))

abbrev pub job_text : List ℕ → List ℕ
job_text text = cond (nat_lt 32768 (length text)) (refused_text (1 ∷ 32768 ∷ [])) (counted (length text) (codes " bytes"))

-- the two lines
abbrev pub printed : List ℕ → List ℕ → List ℕ
printed g j = codes "grammar " ++ (grammar_text g ++ (10 ∷ codes "job " ++ (job_text j ++ (10 ∷ []))))
