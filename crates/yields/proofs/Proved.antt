-- Each statement with its proof.
use Rattle.yields.specs.Statements.{WeighingsClimb, AnalysisStands}
use Rattle.yields.specs.Drafts.{DraftsFormed}
use Rattle.yields.proofs.Stands as stands
use Rattle.yields.proofs.Drafts as drafts

-- how the equations of each weighing are solved
pub weighings_climb : WeighingsClimb
weighings_climb = stands.weighings_climb

-- what can end, FIRST, FOLLOW and passing
pub analysis_stands : AnalysisStands
analysis_stands = stands.analysis_stands

-- the tables of a grammar are such a tree
pub drafts_formed : DraftsFormed
drafts_formed = drafts.drafts_formed
