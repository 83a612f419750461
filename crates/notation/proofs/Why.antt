-- Why a token that can stand is refused.
use Rattle.std.proofs.Common.{◌≡◌, ℕ, ◌<◌, ◌≤◌, Bool, true, false, cond, ltb, length, refl, subst, arith, ltb-false, ltb-true}
use mathlib.Core.Option.{none, some}
use Rattle.notation.specs.Tokens.{Token, spot}
use Rattle.notation.specs.Tables.{Tables}
use Rattle.notation.specs.Standing.{Shape, Stands, depth}
use Rattle.notation.specs.Reading.{State, tables_of, go, Limits, Refusal, too_deep, misspelt, names_full, kinds_full, nodes_full, second_rule, bad_spelling, again, refusal}

-- the lowest number: what stands in front of each case does not apply
pub data WhyNot (L : Limits) (p deep : ℕ) (bad : Bool) (T : Tables) (twice : Bool) : Refusal → Type 0 where
  by_depth : 32 < deep → WhyNot L p deep bad T twice (too_deep p)
  by_spelling : deep ≤ 32 → bad ≡ true → WhyNot L p deep bad T twice (misspelt p)
  by_names : deep ≤ 32 → bad ≡ false → L.names < length T.names → WhyNot L p deep bad T twice (names_full p)
  by_kinds : deep ≤ 32 → bad ≡ false → length T.names ≤ L.names → L.kinds < length T.kinds → WhyNot L p deep bad T twice (kinds_full p)
  by_nodes : deep ≤ 32 → bad ≡ false → length T.names ≤ L.names → length T.kinds ≤ L.kinds → L.nodes < length T.nodes
      → WhyNot L p deep bad T twice (nodes_full L.nodes)
  by_rule : deep ≤ 32 → bad ≡ false → length T.names ≤ L.names → length T.kinds ≤ L.kinds → length T.nodes ≤ L.nodes → twice ≡ true
      → WhyNot L p deep bad T twice (second_rule p)

abbrev pub Why : (L : Limits) {sh : Shape} {t : Token} {to : Shape} (v : Stands sh t to) (st : State sh) → Refusal → Type 0
Why L {sh} {t} {to} v st r = WhyNot L (spot t).place (depth to) (bad_spelling t) (tables_of to (go v st)) (again v st) r

told : {L : Limits} {p deep : ℕ} {bad : Bool} {T : Tables} {twice : Bool} {q r : Refusal} → some q ≡ some r → WhyNot L p deep bad T twice q → WhyNot L p deep bad T twice r
told {L} {p} {deep} {bad} {T} {twice} {q} {r} h w = let e : q ≡ r = cc in subst (λ x. WhyNot L p deep bad T twice x) e w

why_not : (L : Limits) (p deep : ℕ) (bad : Bool) (T : Tables) (twice : Bool) (r : Refusal) (b₁ b₂ b₃ b₄ : Bool)
    → ltb 32 deep ≡ b₁ → ltb L.names (length T.names) ≡ b₂ → ltb L.kinds (length T.kinds) ≡ b₃ → ltb L.nodes (length T.nodes) ≡ b₄
    → cond b₁ (some (too_deep p)) (cond bad (some (misspelt p)) (cond b₂ (some (names_full p)) (cond b₃ (some (kinds_full p)) (cond b₄ (some (nodes_full L.nodes)) (cond twice (some (second_rule p)) none))))) ≡ some r
    → WhyNot L p deep bad T twice r
why_not L p deep bad T twice r true b₂ b₃ b₄ e₁ e₂ e₃ e₄ h = told h (by_depth (ltb-true _ _ e₁))
why_not L p deep true T twice r false b₂ b₃ b₄ e₁ e₂ e₃ e₄ h = told h (by_spelling (ltb-false _ _ e₁) refl)
why_not L p deep false T twice r false true b₃ b₄ e₁ e₂ e₃ e₄ h = told h (by_names (ltb-false _ _ e₁) refl (ltb-true _ _ e₂))
why_not L p deep false T twice r false false true b₄ e₁ e₂ e₃ e₄ h = told h (by_kinds (ltb-false _ _ e₁) refl (ltb-false _ _ e₂) (ltb-true _ _ e₃))
why_not L p deep false T twice r false false false true e₁ e₂ e₃ e₄ h = told h (by_nodes (ltb-false _ _ e₁) refl (ltb-false _ _ e₂) (ltb-false _ _ e₃) (ltb-true _ _ e₄))
why_not L p deep false T true r false false false false e₁ e₂ e₃ e₄ h = told h (by_rule (ltb-false _ _ e₁) refl (ltb-false _ _ e₂) (ltb-false _ _ e₃) (ltb-false _ _ e₄) refl)
why_not L p deep false T false r false false false false e₁ e₂ e₃ e₄ h = let z : ◌≡◌ {A = ℕ} 0 1 = cc in absurd (omega arith)

pub why : (L : Limits) {sh : Shape} {t : Token} {to : Shape} (v : Stands sh t to) (st : State sh) (r : Refusal) → refusal L v st ≡ some r → Why L v st r
why L {sh} {t} {to} v st r h =
    why_not L (spot t).place (depth to) (bad_spelling t) (tables_of to (go v st)) (again v st) r _ _ _ _ refl refl refl refl h

-- a token that is not refused
pub record Fine (L : Limits) (deep : ℕ) (bad : Bool) (T : Tables) (twice : Bool) : Type 0 where
  pub depth_fits : deep ≤ 32
  pub spelling_fits : bad ≡ false
  pub names_fit : length T.names ≤ L.names
  pub kinds_fit : length T.kinds ≤ L.kinds
  pub nodes_fit : length T.nodes ≤ L.nodes
  pub once : twice ≡ false

fine_not : (L : Limits) (p deep : ℕ) (bad : Bool) (T : Tables) (twice : Bool) (b₁ b₂ b₃ b₄ : Bool)
    → ltb 32 deep ≡ b₁ → ltb L.names (length T.names) ≡ b₂ → ltb L.kinds (length T.kinds) ≡ b₃ → ltb L.nodes (length T.nodes) ≡ b₄
    → cond b₁ (some (too_deep p)) (cond bad (some (misspelt p)) (cond b₂ (some (names_full p)) (cond b₃ (some (kinds_full p)) (cond b₄ (some (nodes_full L.nodes)) (cond twice (some (second_rule p)) none))))) ≡ none
    → Fine L deep bad T twice
fine_not L p deep bad T twice true b₂ b₃ b₄ e₁ e₂ e₃ e₄ h = let z : ◌≡◌ {A = ℕ} 0 1 = cc in absurd (omega arith)
fine_not L p deep true T twice false b₂ b₃ b₄ e₁ e₂ e₃ e₄ h = let z : ◌≡◌ {A = ℕ} 0 1 = cc in absurd (omega arith)
fine_not L p deep false T twice false true b₃ b₄ e₁ e₂ e₃ e₄ h = let z : ◌≡◌ {A = ℕ} 0 1 = cc in absurd (omega arith)
fine_not L p deep false T twice false false true b₄ e₁ e₂ e₃ e₄ h = let z : ◌≡◌ {A = ℕ} 0 1 = cc in absurd (omega arith)
fine_not L p deep false T twice false false false true e₁ e₂ e₃ e₄ h = let z : ◌≡◌ {A = ℕ} 0 1 = cc in absurd (omega arith)
fine_not L p deep false T true false false false false e₁ e₂ e₃ e₄ h = let z : ◌≡◌ {A = ℕ} 0 1 = cc in absurd (omega arith)
fine_not L p deep false T false false false false false e₁ e₂ e₃ e₄ h =
    record { depth_fits = ltb-false _ _ e₁; spelling_fits = refl; names_fit = ltb-false _ _ e₂; kinds_fit = ltb-false _ _ e₃; nodes_fit = ltb-false _ _ e₄; once = refl }

pub fine : (L : Limits) {sh : Shape} {t : Token} {to : Shape} (v : Stands sh t to) (st : State sh) → refusal L v st ≡ none → Fine L (depth to) (bad_spelling t) (tables_of to (go v st)) (again v st)
fine L {sh} {t} {to} v st h = fine_not L (spot t).place (depth to) (bad_spelling t) (tables_of to (go v st)) (again v st) _ _ _ _ refl refl refl refl h
