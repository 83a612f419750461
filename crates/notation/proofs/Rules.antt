-- The rules of a text, each by its root.
use Rattle.std.proofs.Common.{◌≡◌, ℕ, suc, ◌<◌, Bool, true, false, cond, List, [], ◌∷◌, length, sym, refl, ap, ◌∙◌, subst, inl, inr, arith}
use mathlib.Core.Option.{some}
use Rattle.std.specs.Str.{bytes_eq}
use Rattle.notation.specs.Syntax.{Rule}
use Rattle.tree.specs.Tree.{node}
use Rattle.notation.specs.Tables.{Entry, Tables, no_tables, find_name, with_root}
use Rattle.notation.specs.Numbering.{Made, no_level, name_known, number_branches, number_rule, number_rules}
use Rattle.notation.specs.Statements.{Has, Distinct, heads_of, InOrder}
use Rattle.notation.specs.Shaped.{root_at}
use Rattle.notation.specs.Meaning.{BranchesAt, RulesAt, no_rules, more_rules, TablesMean}
use Rattle.notation.proofs.Grows.{length_root}
use Rattle.notation.proofs.Names.{same_true}
use Rattle.notation.proofs.Roots.{Known, known_keep, known_with, keep_branches}
use Rattle.notation.proofs.Forest.{skeleton}
use Rattle.notation.proofs.Kept.{root_with, root_set, root_keep}
use Rattle.notation.proofs.Needed.{find_root, numbered_so, reading_in_order}
use Rattle.notation.proofs.Meant.{Words, words_trans, Later, later_refl, later_trans, Ended, frame_branches, body_meant}

-- two names with one number are one
find_one_at : (b c : Bool) (w x : List ℕ) (e : Entry) (es : List Entry) → bytes_eq e.first.bytes w ≡ b → bytes_eq e.first.bytes x ≡ c → (find_name w es ≡ find_name x es → find_name w es < length es → w ≡ x)
    → cond b 0 (suc (find_name w es)) ≡ cond c 0 (suc (find_name x es)) → cond b 0 (suc (find_name w es)) < suc (length es) → w ≡ x
find_one_at true true w x e es g h ih q m = sym (same_true e.first.bytes w g) ∙ same_true e.first.bytes x h
find_one_at true false w x e es g h ih q m = absurd (omega arith)
find_one_at false true w x e es g h ih q m = absurd (omega arith)
find_one_at false false w x e es g h ih q m = ih (omega arith) (omega arith)

find_one : (w x : List ℕ) (es : List Entry) → find_name w es ≡ find_name x es → find_name w es < length es → w ≡ x
find_one w x [] q m = absurd (omega arith)
find_one w x (e ∷ es) q m = find_one_at (bytes_eq e.first.bytes w) (bytes_eq e.first.bytes x) w x e es refl refl (find_one w x es) q m

-- the name written w has number i and root n
abbrev RootKnown : List ℕ → ℕ → ℕ → List Entry → Type 0
RootKnown w i n es = Known w i es × (root_at es i ≡ some n)

known_root : (w : List ℕ) (i j n : ℕ) (es : List Entry) → Known w i es → Known w i (with_root j n es)
known_root w i j n es k = (find_root w j n es ∙ k.0, (let e = length_root j n es in let h = k.1 in omega arith))

module _ (r : Rule) (T : Tables) where
  abbrev i₀ : ℕ
  i₀ = find_name r.head.bytes T.names

  abbrev U₀ : Tables
  U₀ = name_known r.head T

  abbrev M₀ : Made
  M₀ = number_branches r.body no_level U₀

  head_there : Known r.head.bytes i₀ M₀.tables.names
  head_there = keep_branches (Known r.head.bytes i₀) (known_keep r.head.bytes i₀) r.body no_level U₀ (known_with r.head T.names)

  head_rooted : RootKnown r.head.bytes i₀ M₀.at (number_rule r T).names
  head_rooted = (known_root r.head.bytes i₀ i₀ M₀.at M₀.tables.names head_there, root_set i₀ M₀.at M₀.tables.names head_there.1)

  body_there : Ended U₀ M₀ (λ V lo n. BranchesAt V lo n r.body)
  body_there = body_meant r.body U₀

  end_words : Words M₀.tables (number_rule r T)
  end_words = record { names_kept = λ w i h. known_root w i i₀ M₀.at M₀.tables.names h; kinds_kept = λ w i h. h }

  body_ended : BranchesAt (number_rule r T) (length T.nodes) M₀.at r.body
  body_ended = frame_branches body_there.at_end (number_rule r T) end_words (λ i p q. refl) (skeleton (node M₀.tables.nodes M₀.at) (node M₀.tables.nodes M₀.at) refl)

  rule_later : Later T (number_rule r T)
  rule_later =
      record {
        same = body_there.later.same;
        longer = body_there.later.longer;
        words = words_trans (words_trans (record { names_kept = λ w i h. known_keep w i r.head T.names h; kinds_kept = λ w i h. h }) body_there.later.words) end_words;
      }

  root_kept : (w : List ℕ) (i n : ℕ) → (r.head.bytes ≡ w → ⊥) → RootKnown w i n T.names → RootKnown w i n (number_rule r T).names
  root_kept w i n d k =
      let a : RootKnown w i n M₀.tables.names =
      keep_branches (RootKnown w i n) (λ s es h. (known_keep w i s es h.0, root_with s es i ∙ h.1)) r.body no_level U₀ (known_keep w i r.head T.names k.0, root_with r.head T.names i ∙ k.1) in
      let h = head_there in (
        known_root w i i₀ M₀.at M₀.tables.names a.0,
        root_keep i₀ M₀.at M₀.tables.names i (λ q. d (find_one r.head.bytes w M₀.tables.names (h.0 ∙ sym q ∙ sym a.0.0) (rw h.0 h.1))) ∙ a.1,
      )

rules_later : (rs : List Rule) (T : Tables) → Later T (number_rules rs T)
rules_later [] T = later_refl T
rules_later (r ∷ rs) T = later_trans (rule_later r T) (rules_later rs (number_rule r T))

roots_kept : (rs : List Rule) (T : Tables) (w : List ℕ) (i n : ℕ) → (Has w (heads_of rs) → ⊥) → RootKnown w i n T.names → RootKnown w i n (number_rules rs T).names
roots_kept [] T w i n d k = k
roots_kept (r ∷ rs) T w i n d k = roots_kept rs (number_rule r T) w i n (λ x. d (inr x)) (root_kept r T w i n (λ e. d (inl e)) k)

pub rules_meant : (rs : List Rule) (T : Tables) → Distinct (heads_of rs) → RulesAt (number_rules rs T) (length T.nodes) rs
rules_meant [] T d = no_rules refl
rules_meant (r ∷ rs) T d =
    let V : Tables = number_rule r T in
    let F : Tables = number_rules rs V in
    let l : Later V F = rules_later rs V in
    let n : ℕ = (M₀ r T).at in
    let z : length V.nodes ≡ suc n = (body_there r T).size in
    let k : RootKnown r.head.bytes (i₀ r T) n F.names = roots_kept rs V r.head.bytes (i₀ r T) n d.0 (head_rooted r T) in
    let q : node F.nodes n ≡ node V.nodes n = l.same n (omega arith) in
    more_rules
    (frame_branches (body_ended r T) F l.words (λ i p h. l.same i (omega arith)) (skeleton (node F.nodes n) (node V.nodes n) q))
    (ap (root_at F.names) k.0.0 ∙ k.1)
    (ap (λ y. y.next) q ∙ (body_there r T).free)
    (subst (λ h. RulesAt F h rs) z (rules_meant rs V d.1))

pub tables_mean : TablesMean
tables_mean L ts e T rules h text =
    let o : InOrder L ts rules = reading_in_order L ts e T rules h text in
    subst (λ X. RulesAt X 0 rules) (numbered_so L ts e T rules h text) (rules_meant rules no_tables o.once)
