use Rattle.std.proofs.Common.{Ok, sym, ap, ◌∙◌}
use Rattle.tokens.specs.Layered.{layered_tokens, layered_ending}
use Rattle.grammar.proofs.Sorted.{first_token}
use Rattle.grammar.proofs.words.Words.ahead.Goals as goal

pub returns-in-Token : goal.returns-in-Token
returns-in-Token c =
    let w = c.args.self.now in
    first_token w.text.now (layered_tokens w.source) (layered_ending w.source) c.in-Token.token c.clip.result.now c.piece_of-piece.result (ap Ok (sym c.in-Token.is) ∙ c.in_ok-token.ensures) c.clip.ensures c.piece_of-piece.ensures
