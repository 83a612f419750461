use Rattle.std.proofs.Common.{◌≡◌, ◌+◌, ◌≤◌, length}
use Rattle.lines.specs.Lines.{how_many}
use Rattle.lines.proofs.survey.survey_of.Given as goal

-- what is counted, and what is left to count, make up the whole
abbrev pub invariant-loop-token : goal.invariant-loop-token
invariant-loop-token g l =
    let m = g.S.TokenSource in
    let was = m.tokens l.initial.source in
    let left = m.tokens l.source in
    record {
      tokens : l.tokens + length left ≡ length was;
      words : l.words + how_many 1 left ≡ how_many 1 was;
      strings : l.strings + how_many 2 left ≡ how_many 2 was;
      ending : m.ending l.source ≡ m.ending l.initial.source;
      fewer_words : l.words ≤ l.tokens;
      fewer_strings : l.strings ≤ l.tokens;
    }

abbrev pub decreases-loop-token : goal.decreases-loop-token
decreases-loop-token g l = length (g.S.TokenSource.tokens l.source)
