use Rattle.tokens.proofs.Layers.{over_text}
use Rattle.tokens.proofs.layering.layered.Goals as goal

pub returns : goal.returns
returns c = let made = c.new-2.ensures in over_text _ _ _ _ _ c.in_ok-source.ensures c.passed_over.ensures made.tokens made.ending made.input
