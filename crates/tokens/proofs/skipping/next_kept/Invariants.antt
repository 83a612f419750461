use Rattle.std.proofs.Common.{◌≡◌, length}
use Rattle.tokens.specs.Layer.{without}
use Rattle.tokens.proofs.skipping.next_kept.Given as goal

-- what was taken so far is skipped
abbrev pub invariant-loop-token : goal.invariant-loop-token
invariant-loop-token g l =
    let m = g.S.TokenSource in
    (without l.skipped (m.tokens l.source) ≡ without l.skipped (m.tokens l.initial.source))
    × (m.ending l.source ≡ m.ending l.initial.source)
    × (m.input l.source ≡ m.input l.initial.source)

abbrev pub decreases-loop-token : goal.decreases-loop-token
decreases-loop-token g l = length (g.S.TokenSource.tokens l.source)
