-- A piece and its token.
use Rattle.std.proofs.Common.{◌≡◌, ℕ, true, false, List, [], ◌∷◌, map, Ok, codes, Result, sym, refl, ap, ◌∙◌, subst, inl, inr, ⊎_elim, arith}
use Rattle.std.specs.Str.{bytes_eq}
use Rattle.std.proofs.lemmas.Slice.Eq.{bytes_eq-Decides}
use Rattle.std.proofs.lemmas.Bool.{cases_Bool, eq-eqb, ne_eqb}
use Rattle.notation.specs.Tokens.{is_class_word, sort, word, string}
use Rattle.tables.specs.Spots.{cut}
use Rattle.token.specs.declared.token.Ending.{Ending}
use Rattle.token.specs.declared.token.Ending.TheVariants as ending_is
use Rattle.token.specs.declared.token.Fault.{Fault}
use Rattle.token.specs.declared.token.Next.{Next}
use Rattle.token.specs.declared.token.Next.TheVariants as next_is
use Rattle.token.specs.declared.token.Token.{Token}
use Rattle.tokens.specs.Sources.{looked}
use Rattle.grammar.specs.Pieces.{IsClassWord, Quoted, Pieced}
use Rattle.grammar.specs.Source.{begins_quoted, mark_of, sorted}
use Rattle.grammar.specs.Words.{piece_token, rest_of}
use Rattle.grammar.specs.declared.piece.Bracket.TheVariants as bracket_is
use Rattle.grammar.specs.declared.piece.Piece.{Piece}
use Rattle.grammar.specs.declared.piece.Piece.TheVariants as piece_is

differ : (v w : List ℕ) → (v ≡ w → ⊥) → bytes_eq v w ≡ false
differ v w d = ⊎_elim (λ t. absurd (d ((bytes_eq-Decides v w).0 t))) (λ f. f) (cases_Bool (bytes_eq v w))

begins : (w : List ℕ) → Quoted w → begins_quoted w ≡ true
begins [] (l, q) = absurd (omega arith)
begins (x ∷ xs) (l, q) = eq-eqb x 34 q

begins_not : (w : List ℕ) → (Quoted w → ⊥) → begins_quoted w ≡ false
begins_not [] d = refl
begins_not (x ∷ xs) d = ne_eqb x 34 (λ e. d (omega arith, e))

-- a string is none of the marks, since they begin otherwise
quoted_mark : (w : List ℕ) → Quoted w → mark_of w ≡ string
quoted_mark [] (l, q) = absurd (omega arith)
quoted_mark (x ∷ xs) (l, q) = ap (λ y. mark_of (y ∷ xs)) q

class_token : (w : List ℕ) (p : ℕ) → IsClassWord w → sort (record { mark = mark_of w; bytes = w; place = p }) ≡ piece_token piece_is.ClassWord (record { bytes = w; place = p })
class_token w p c =
    let as_if : (v : List ℕ) → w ≡ v → sort (record { mark = mark_of v; bytes = v; place = p }) ≡ piece_token piece_is.ClassWord (record { bytes = v; place = p }) → sort (record { mark = mark_of w; bytes = w; place = p }) ≡ piece_token piece_is.ClassWord (record { bytes = w; place = p }) = λ v e h. rw e h in
    ⊎_elim (λ e. as_if (codes "WORD") e refl) (λ d. ⊎_elim (λ e. as_if (codes "NUMBER") e refl) (λ e. as_if (codes "STRING") e refl) d) c

-- a token, by its piece
pub pieced : (w : List ℕ) (p : ℕ) (k : Piece) → Pieced w k → sort (record { mark = mark_of w; bytes = w; place = p }) ≡ piece_token k (record { bytes = w; place = p })
pieced w p piece_is.Name (no_class, no_quote, no_mark) =
    let marked : mark_of w ≡ word =
    rw (differ w (codes "->") no_mark.no_arrow, differ w (codes "|") no_mark.no_bar, differ w (codes ";") no_mark.no_semicolon, differ w (codes "(") (no_mark.no_opening bracket_is.Round), differ w (codes "[") (no_mark.no_opening bracket_is.Square), differ w (codes "{") (no_mark.no_opening bracket_is.Curly), differ w (codes ")") (no_mark.no_closing bracket_is.Round), differ w (codes "]") (no_mark.no_closing bracket_is.Square), differ w (codes "}") (no_mark.no_closing bracket_is.Curly), begins_not w no_quote) in
    let plain : is_class_word w ≡ false = rw (differ w (codes "WORD") (λ e. no_class (inl e)), differ w (codes "NUMBER") (λ e. no_class (inr (inl e))), differ w (codes "STRING") (λ e. no_class (inr (inr e)))) in
    rw (marked, plain)
pieced w p piece_is.ClassWord h = class_token w p h
pieced w p piece_is.Spelling h = ap (λ m. sort (record { mark = m; bytes = w; place = p })) (quoted_mark w h)
pieced w p piece_is.Arrow h = ap (λ v. sort (record { mark = mark_of v; bytes = w; place = p })) h
pieced w p piece_is.Bar h = ap (λ v. sort (record { mark = mark_of v; bytes = w; place = p })) h
pieced w p piece_is.Semicolon h = ap (λ v. sort (record { mark = mark_of v; bytes = w; place = p })) h
pieced w p (piece_is.Opening bracket_is.Round) h = ap (λ v. sort (record { mark = mark_of v; bytes = w; place = p })) h
pieced w p (piece_is.Opening bracket_is.Square) h = ap (λ v. sort (record { mark = mark_of v; bytes = w; place = p })) h
pieced w p (piece_is.Opening bracket_is.Curly) h = ap (λ v. sort (record { mark = mark_of v; bytes = w; place = p })) h
pieced w p (piece_is.Closing bracket_is.Round) h = ap (λ v. sort (record { mark = mark_of v; bytes = w; place = p })) h
pieced w p (piece_is.Closing bracket_is.Square) h = ap (λ v. sort (record { mark = mark_of v; bytes = w; place = p })) h
pieced w p (piece_is.Closing bracket_is.Curly) h = ap (λ v. sort (record { mark = mark_of v; bytes = w; place = p })) h

same_token : (t u : Token) → ◌≡◌ {A = Result Next Fault} (Ok (next_is.Token t)) (Ok (next_is.Token u)) → t ≡ u
same_token t u e = cc

-- the first token, as it was looked at
pub first_token : (text : List ℕ) (ts : List Token) (e : Ending) (t : Token) (w : List ℕ) (k : Piece) → ◌≡◌ {A = Result Next Fault} (Ok (next_is.Token t)) (looked ts e) → w ≡ cut text t.place t.length → Pieced w k → map (sorted text) ts ≡ piece_token k (record { bytes = cut text t.place t.length; place = t.place }) ∷ rest_of (map (sorted text) ts)
first_token text [] (ending_is.End p) t w k h c m = let z : ◌≡◌ {A = ℕ} 0 1 = cc in absurd (omega arith)
first_token text [] (ending_is.Fault f) t w k h c m = let z : ◌≡◌ {A = ℕ} 0 1 = cc in absurd (omega arith)
first_token text (u ∷ us) e t w k h c m =
    let same : t ≡ u = same_token t u h in
    let read : Pieced (cut text t.place t.length) k = subst (λ v. Pieced v k) c m in
    ap (λ x. x ∷ map (sorted text) us) (ap (sorted text) (sym same) ∙ pieced (cut text t.place t.length) t.place k read)
