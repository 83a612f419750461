-- What numbering an entry tells, where the entry is made of a word and `map_err` tells of a full table.
use Rattle.std.proofs.Common.{◌≡◌, ℕ, List, refl, sym, subst, rules, Ok, Err, Result, MatchResult}
use Rattle.std.specs.Prelude.{IsErrAnd}
use Rattle.grammar.proofs.Rooting.{still_clean}
use Rattle.grammar.specs.Forest.{Clean}
use Rattle.grammar.specs.Named.{NameNumbered, NameOver}
use Rattle.grammar.specs.Parts.{Reader, with_names}
use Rattle.grammar.specs.Reader.{text_of}
use Rattle.grammar.specs.Words.{name_entry}
use Rattle.grammar.specs.declared.refusal.Refusal.{Refusal}
use Rattle.grammar.specs.declared.refusal.Refusal.TheVariants.{NamesFull}
use Rattle.grammar.specs.declared.words.Word.{Word}
use Rattle.tables.specs.declared.name.Name.{Name}
use Rattle.tables.specs.Numbering.{Numbered, Refused}
use Rattle.tables.specs.declared.filling.Filling.{Filling}
use Rattle.tables.specs.declared.full.Full.{Full}

module _ {E : Type 0} {L : ℕ} (begins spans : E → ℕ) (text : List ℕ) (given : E) (before after : Filling E L) where
  abbrev Told : Result ℕ Full → Type 0
  Told r = MatchResult r (Numbered begins spans text given before after) (Refused begins spans text given before after)

  pub numbered_clean : (blank : E) (r : Result ℕ Full) → Told r → Clean before blank → Clean after blank
  numbered_clean blank (Ok i) m clean = still_clean before after blank m.kept clean
  numbered_clean blank (Err e) m clean = subst (λ t. Clean t blank) (sym m.same) clean

module _ {E : Type 0} {L : ℕ} (begins spans : E → ℕ) (text : List ℕ) (given entry : E) (is : given ≡ entry) (before after : Filling E L) where
  pub numbered : (r : Result ℕ Full) (i : ℕ) → MatchResult r (λ j. ◌≡◌ {A = Result ℕ Refusal} (Ok i) (Ok j)) (λ _. ⊥) → Told begins spans text given before after r → Numbered begins spans text entry before after i
  numbered (Ok j) i same told = subst (λ e. Numbered begins spans text e before after i) is (subst (Numbered begins spans text given before after) (search (sym same, rules)) told)
  numbered (Err e) i none told = absurd none

  pub refused : {P : Full → Type 0} (r : Result ℕ Full) (d : Refusal) → MatchResult r (λ j. ◌≡◌ {A = Result ℕ Refusal} (Err d) (Ok j)) P → Told begins spans text given before after r → (e : Full) × P e × Refused begins spans text entry before after e
  refused (Ok j) d none told = search (none, rules)
  refused (Err e) d same told = (e, same, subst (λ x. Refused begins spans text x before after e) is told)

-- the number of a name, where all else stays
module _ (r : Reader) (x : Word) (given : Name) (is : given ≡ name_entry x) (names : Filling Name 64) (loan : names.table.ghost_name ≡ r.names.table.ghost_name) where
  pub named : {P : Full → Refusal → Type 0} (n : Result ℕ Full) (s : Result ℕ Refusal) → MatchResult n (λ i. s ≡ Ok i) (λ f. IsErrAnd s (P f)) → ((f : Full) (e : Refusal) → P f e → e ≡ NamesFull x.place) → Told (λ e. e.place) (λ e. e.length) (text_of r) given r.names names n → MatchResult s (NameNumbered x r (with_names r names)) (NameOver x r (with_names r names))
  named (Ok i) s same tells told = rw same (record { number = subst (λ e. Numbered (λ e. e.place) (λ e. e.length) (text_of r) e r.names names i) is told; loan = loan; beside = refl })
  named (Err f) (Ok i) none tells told = absurd none
  named (Err f) (Err e) same tells told = record { full = f; over = subst (λ e. Refused (λ e. e.place) (λ e. e.length) (text_of r) e r.names names f) is told; told = tells f e same; beside = refl }
