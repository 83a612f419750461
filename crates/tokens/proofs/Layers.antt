-- What the layer over a text keeps.
use Rattle.std.proofs.Common.{◌≡◌, ℕ, not, ◌||◌, eqb, List, length, filter, ap, ◌∙◌, arith}
use Rattle.std.proofs.lemmas.List.Elements.{filter_agree}
use Rattle.std.proofs.lemmas.List.Sums.{length-filter, count_by-le-length}
use Rattle.kindset.specs.Member.{member}
use Rattle.kindset.specs.declared.KindSet.{KindSet}
use Rattle.scanning.proofs.Cuts.{few_tokens}
use Rattle.tokens.specs.Layer.{keeps, without}
use Rattle.tokens.specs.Layered.{seen, layered_tokens, layered_ending, Layered}
use Rattle.tokens.specs.Meaning.{text_tokens, text_ending, Scans}
use Rattle.lexer.specs.Vocabulary.{Lexicon}
use Rattle.tokens.specs.declared.skipping.Skipping.{Skipping}
use Rattle.tokens.specs.declared.text.TextSource.{TextSource}

-- the layer over a text's source, from what both promise
pub over_text : (x : Lexicon) (text : List ℕ) (source : TextSource) (skipped : KindSet) (layer : Skipping TextSource) → Scans x text source → ((k : ℕ) → member skipped k ≡ (eqb k 121 || eqb k 122)) → layered_tokens layer ≡ without skipped (text_tokens source) → layered_ending layer ≡ text_ending source → layer.source.text.now ≡ source.text.now → Layered x text layer
over_text x text source skipped layer scans passed tokens ending input =
    let kept = filter_agree (keeps skipped) seen (λ t. ap not (passed t.kind)) (text_tokens source) in
    record {
      short = scans.short;
      tokens = tokens ∙ kept ∙ ap (filter seen) scans.tokens;
      ending = ending ∙ scans.ending;
      input = input ∙ scans.input;
      few = omega (arith, ap length (tokens ∙ kept), length-filter seen (text_tokens source), count_by-le-length seen (text_tokens source), few_tokens x text (text_tokens source) (text_ending source) scans.law);
    }
