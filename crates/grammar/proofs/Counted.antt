-- Names and kinds that are numbered, in the tables of the notation.
use Rattle.std.proofs.Common.{◌≡◌, ℕ, ◌<◌, ◌≤◌, not, List, map, length, sym, ap, ◌∙◌, arith, length-take}
use lib.ListN.{length-map}
use Rattle.std.proofs.lemmas.List.Sums.{prefix_len-le-length}
use Rattle.grammar.specs.Forest.{Clean}
use Rattle.grammar.proofs.Rooting.{still_clean}
use Rattle.lexer.specs.declared.vocabulary.Spelling.{Spelling}
use Rattle.notation.specs.Tables.{find_name, find_kind, with_name, with_kind}
use Rattle.tables.proofs.Meant.{kind_found, kind_joined, kind_count, name_found, name_joined, name_count}
use Rattle.tables.specs.Meant.{spot_at, kind_meant, name_meant}
use Rattle.tables.specs.Filling.{entries, room}
use Rattle.tables.specs.Numbering.{is_written, with_new, Numbered, Refused}
use Rattle.tables.specs.Spots.{cut}
use Rattle.tables.specs.declared.full.Full.{Full}
use Rattle.tables.specs.declared.name.Name.{Name}
use Rattle.tables.specs.declared.filling.Filling.{Filling}

-- a number is small
pub number_small : {E : Type 0} {L : ℕ} (x : E) (begins spans : E → ℕ) (text : List ℕ) (t u : Filling E L) (i : ℕ) → Numbered begins spans text x t u i → i ≤ L
number_small x begins spans text t u i m =
    omega (arith, m.is, t.few, prefix_len-le-length (λ e. not (is_written begins spans text x e)) (entries t), length-take t.count t.table.now)

module _ (text : List ℕ) (t u : Filling Name 64) (x : Name) (free : x.root ≡ 1024) where
  module _ (i : ℕ) (m : Numbered (λ e. e.place) (λ e. e.length) text x t u i) where
    pub name_number : i ≡ find_name (cut text x.place x.length) (map (name_meant text) (entries t))
    name_number = m.is ∙ name_found text x (entries t)

    pub names_are : map (name_meant text) (entries u) ≡ with_name (spot_at text x.place x.length) (map (name_meant text) (entries t))
    names_are = ap (map (name_meant text)) (m.list ∙ ap (λ j. with_new j x (entries t)) m.is) ∙ sym (name_joined text x (entries t) free)

    pub names_fit : length (with_name (spot_at text x.place x.length) (map (name_meant text) (entries t))) ≤ room t
    names_fit = omega (arith, ap length names_are, length-map (entries u) (name_meant text), m.fits)

    pub names_clean : (zero : Name) → Clean t zero → Clean u zero
    names_clean zero c = still_clean t u zero m.kept c

  pub names_over : (e : Full) → Refused (λ e. e.place) (λ e. e.length) text x t u e → room t < length (with_name (spot_at text x.place x.length) (map (name_meant text) (entries t)))
  names_over e h =
      omega (arith, name_count text x (entries t) free h.new, h.full)

module _ (text : List ℕ) (t u : Filling Spelling 120) (x : Spelling) where
  module _ (i : ℕ) (m : Numbered (λ e. e.place) (λ e. e.length) text x t u i) where
    pub kind_number : i ≡ find_kind (cut text x.place x.length) (map (kind_meant text) (entries t))
    kind_number = m.is ∙ kind_found text x (entries t)

    pub kinds_are : map (kind_meant text) (entries u) ≡ with_kind (spot_at text x.place x.length) (map (kind_meant text) (entries t))
    kinds_are = ap (map (kind_meant text)) (m.list ∙ ap (λ j. with_new j x (entries t)) m.is) ∙ sym (kind_joined text x (entries t))

    pub kinds_fit : length (with_kind (spot_at text x.place x.length) (map (kind_meant text) (entries t))) ≤ room t
    kinds_fit = omega (arith, ap length kinds_are, length-map (entries u) (kind_meant text), m.fits)

    pub kinds_clean : (zero : Spelling) → Clean t zero → Clean u zero
    kinds_clean zero c = still_clean t u zero m.kept c

  pub kinds_over : (e : Full) → Refused (λ e. e.place) (λ e. e.length) text x t u e → room t < length (with_kind (spot_at text x.place x.length) (map (kind_meant text) (entries t)))
  kinds_over e h =
      omega (arith, kind_count text x (entries t) h.new, h.full)
